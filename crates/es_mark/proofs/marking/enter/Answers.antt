use Rattle.std.proofs.Common.{sym}
use Rattle.std.proofs.lemmas.Bool.{ltb-true}
use Rattle.std.proofs.lemmas.Result.{on_ok_weaker}
use Rattle.es_mark.proofs.Stepping.{step_entered, step_known, step_waits}
use Rattle.es_mark.proofs.marking.enter.Goals as goal

pub add-requires : goal.add-requires
add-requires c = ltb-true _ _ (c.requires _ (sym c.in-Some.ensures))

pub returns-then-has-clause-step : goal.returns-then-has-clause-step
returns-then-has-clause-step c =
    on_ok_weaker c.add.result (λ added. step_entered _ _ c.args.reached.now.marks _ _ _ (sym c.in-Some.ensures) c.args.reached.now.listed (sym c.if-has.ensures) added) c.add.ensures.added

pub returns-then-has-2-clause-step : goal.returns-then-has-2-clause-step
returns-then-has-2-clause-step c = step_known _ _ c.args.reached.now.marks _ _ (sym c.in-Some.ensures) c.args.reached.now.listed (sym c.if-has-2.ensures)

pub returns-clause-step : goal.returns-clause-step
returns-clause-step c =
    on_ok_weaker c.add-2.result (λ waits. step_waits _ _ c.args.reached.now.marks _ _ _ (sym c.in-Some.ensures) c.args.reached.now.listed (sym c.if-has.ensures) waits) c.add-2.ensures
