use Rattle.std.proofs.Common.{◌≡◌, true, false, map, reverse, sym, ap, ◌∙◌, subst}
use Rattle.es_outcome.specs.Said.{IsTold, is_calm, said_by}
use Rattle.es_report.specs.Tallies.{end_tally}
use Rattle.es_cluster.proofs.Standing.{cores_length}
use Rattle.es_cluster.specs.State.{cores}
use Rattle.es_outcome.specs.Places.{AreAtPlaces, ArePlanned, SomeGoesOn}
use Rattle.es_match.specs.Calm.{AreCalm}
use Rattle.es_outcome.proofs.Silent.{calm_histories}
use Rattle.es_outcome.proofs.Ended.{comes_to, goes_on_alone, none_left, not_told, tallies_are}
use Rattle.es_outcome.proofs.ending.outcome_of.Goals.{then-len-agents-via-then-len-agents, then-len-agents-via-else-len-agents+then-not-are_at_places, then-len-agents-via-else-len-agents+else-not-are_at_places+then-not-have_closed}
use Rattle.es_outcome.proofs.ending.outcome_of.Goals as goal

pub returns-then-len-agents-clause-mismatch : goal.returns-then-len-agents-clause-mismatch
returns-then-len-agents-clause-mismatch g c = λ is placed size cluster.
    elim c.then-len-agents.branch [
      | then-len-agents-via-then-len-agents w ↦ absurd (w.if-len-agents.true (c.len.ensures ∙ c.args.parts.members.ok.0 ∙ sym (cores_length c.args.parts.members.items) ∙ size ∙ sym c.agents-agents.ensures))
      | then-len-agents-via-else-len-agents+then-not-are_at_places w ↦
          let clash : false ≡ true = sym w.if-not-are_at_places.true ∙ w.are_at_places.ensures.placed.1 (subst (λ ms. AreAtPlaces (cores ms)) (sym w.as_slice.ensures.value) placed) in cc
      | then-len-agents-via-else-len-agents+else-not-are_at_places+then-not-have_closed w ↦
          goes_on_alone (cores c.args.parts.members.items) c.args.parts.ledger (subst (λ ms. SomeGoesOn (cores ms)) w.as_slice-else-not-are_at_places.ensures.value (w.have_closed.ensures.open w.if-not-have_closed.true)) size cluster
    ]

pub returns-in-Ok-judge-clause-outcome : goal.returns-in-Ok-judge-clause-outcome
returns-in-Ok-judge-clause-outcome g c =
    let size = cores_length c.args.parts.members.items in
    let all = c.deref-2.ensures.value ∙ c.in-Ok-all_said.ensures ∙ ap (λ ms. map said_by (cores ms)) c.as_slice-3.ensures.value in
    let told = subst (IsTold (map (λ h. reverse h) c.finish-outcome.result.histories) (reverse c.finish-outcome.result.ledger)) all (c.in_ok-told.ensures.0 c.in-Ok-judge.ensures.told) in
    comes_to g.L.Planned.plan (cores c.args.parts.members.items) c.args.parts.ledger.agents
    (record { names = c.finish-outcome.result.names; histories = c.finish-outcome.result.histories; ledger = c.finish-outcome.result.ledger })
    (size ∙ c.requires.size)
    (size ∙ sym c.args.parts.members.ok.0 ∙ sym c.len.ensures ∙ c.if-len-agents.false ∙ c.agents-agents.ensures)
    (subst (λ ms. AreAtPlaces (cores ms)) c.as_slice.ensures.value (c.are_at_places.ensures.placed.0 c.if-not-are_at_places.false))
    (subst (λ ms. ArePlanned g.L.Planned.plan (cores ms)) c.as_slice.ensures.value (c.are_at_places.ensures.planned c.if-not-are_at_places.false))
    (c.finish-outcome.ensures.names ∙ c.requires.names)
    c.finish-outcome.ensures.histories c.finish-outcome.ensures.legal told
    c.finish-outcome.ensures.tickets c.finish-outcome.ensures.messages

pub returns-in-Err-judge-clause-mismatch : goal.returns-in-Err-judge-clause-mismatch
returns-in-Err-judge-clause-mismatch g c = λ is placed size cluster.
    let all = c.deref-2.ensures.value ∙ c.in-Ok-all_said.ensures ∙ ap (λ ms. map said_by (cores ms)) c.as_slice-3.ensures.value in
    let never : IsTold (map (λ h. reverse h) c.finish-outcome.result.histories) (reverse c.finish-outcome.result.ledger) (map said_by (cores c.args.parts.members.items)) → ⊥ =
    λ told. (let clash : false ≡ true = sym c.in-Err-judge.ensures.mismatch.1 ∙ c.in_ok-told.ensures.1 (subst (IsTold (map (λ h. reverse h) c.finish-outcome.result.histories) (reverse c.finish-outcome.result.ledger)) (sym all) told) in cc)
    in
    not_told (cores c.args.parts.members.items) c.args.parts.ledger
    (record { names = c.finish-outcome.result.names; histories = c.finish-outcome.result.histories; ledger = c.finish-outcome.result.ledger })
    c.finish-outcome.ensures.histories c.finish-outcome.ensures.ledger never cluster

pub of_ended-counts-requires-clause-none_left : goal.of_ended-counts-requires-clause-none_left
of_ended-counts-requires-clause-none_left g c =
    none_left (cores c.args.parts.members.items) c.args.parts.ledger.agents (reverse c.finish-outcome.result.ledger)
    (cores_length c.args.parts.members.items ∙ sym c.args.parts.members.ok.0 ∙ sym c.len.ensures ∙ c.if-len-agents.false ∙ c.agents-agents.ensures)
    (subst (λ ms. AreAtPlaces (cores ms)) c.as_slice.ensures.value (c.are_at_places.ensures.placed.0 c.if-not-are_at_places.false))
    c.finish-outcome.ensures.legal c.finish-outcome.ensures.tickets c.finish-outcome.ensures.messages

pub of_ended-counts-requires-clause-tallies : goal.of_ended-counts-requires-clause-tallies
of_ended-counts-requires-clause-tallies g c =
    tallies_are (cores c.args.parts.members.items) (record { names = c.finish-outcome.result.names; histories = c.finish-outcome.result.histories; ledger = c.finish-outcome.result.ledger }) c.in-Ok.tallies.items
    c.finish-outcome.ensures.histories
    (c.in-Ok.ensures ∙ ap (λ ms. map (λ b. end_tally b.history) (cores ms)) c.as_slice-2.ensures.value)

pub is_told-requires-after_bounds : goal.is_told-requires-after_bounds
is_told-requires-after_bounds g c κs within =
    let calm = c.deref.ensures.value ∙ c.in-Ok-all_calm.ensures ∙ ap (λ ms. map is_calm (cores ms)) c.as_slice-4.ensures.value in
    subst (λ calm. AreCalm calm c.finish-outcome.result.histories) (sym calm)
    (calm_histories (cores c.args.parts.members.items) c.finish-outcome.result.histories c.finish-outcome.ensures.histories.are c.finish-outcome.ensures.histories.runs)
