use Rattle.std.proofs.Common.{map, reverse, ap, sym, ◌∙◌, subst}
use Rattle.es_match.specs.Cluster.{HaveCome}
use Rattle.es_outcome.specs.Said.{told_of}
use Rattle.es_outcome.proofs.Telling.{told_one}
use Rattle.es_outcome.proofs.ending.is_told.Goals as goal

pub returns-in-Some : goal.returns-in-Some
returns-in-Some g c =
    let came = c.in-Some.came.items in
    let found = rw c.in-Some.is at c.in_ok-came.ensures.some in
    let have = subst (λ l. HaveCome (map (λ h. reverse h) c.args.outcome.now.histories) (reverse l) came) c.as_slice.ensures (subst (λ hs. HaveCome (map (λ h. reverse h) hs) (reverse c.as_slice.result.now) came) c.as_slice-histories.ensures found) in
    let deref = ap (map told_of) c.deref.ensures.value in (
      (λ yes. record { came = came; have = have; said = sym deref ∙ c.are_said.ensures.0 yes }),
      (λ told. c.are_said.ensures.1 (deref ∙ told_one _ _ came c.args.said.now have told)),
    )
