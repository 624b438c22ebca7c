use Rattle.std.proofs.Common.{◌≡◌, ◌∙◌, reverse, subst, sym, true}
use Rattle.std.proofs.lemmas.Result.{IfOk-weaker}
use Rattle.es_theorems.specs.Sleepless.{never_sleeps}
use Rattle.es_races.specs.Races.{TellsIf}
use Rattle.es_races.specs.Verdict.{IsVerdict}
use Rattle.es_races.proofs.Found.{found}
use Rattle.es_races.proofs.races.races_of_plan.Goals as goal

pub returns : goal.returns
returns c =
    let o = c.in_ok-outcome.field-0.outcome in
    let r = c.in_ok-found.found in
    let calm : never_sleeps c.args.plan ≡ true = sym c.never_sleeps.ensures ∙ c.if-not-never_sleeps.false in
    let verdict = subst (λ l. IsVerdict (reverse l) r) c.as_slice.ensures c.in_ok-found.ensures.verdict in
    IfOk-weaker c.told.result _ _ (λ text told. subst (λ awake. TellsIf awake c.args.plan text.items) (sym calm) (o, r, c.in_ok-outcome.ensures.turns, found c.args.plan o r calm c.requires.others c.in_ok-outcome.ensures.turns verdict, told)) c.told.ensures
