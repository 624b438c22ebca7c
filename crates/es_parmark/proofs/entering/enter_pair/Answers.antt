use Rattle.std.proofs.Common.{sym}
use Rattle.std.proofs.lemmas.Result.{on_ok_weaker}
use Rattle.es_parmark.proofs.Fronts.{pair_entered, pair_known, pair_waits}
use Rattle.es_parmark.proofs.entering.enter_pair.Goals as goal

pub returns-then-has-clause-step : goal.returns-then-has-clause-step
returns-then-has-clause-step c =
    on_ok_weaker c.add.result (λ added. pair_entered _ c.args.reached.now.marks _ _ _ c.args.reached.now.listed (sym c.if-has.ensures) added) c.add.ensures.added

pub returns-then-has-2-clause-step : goal.returns-then-has-2-clause-step
returns-then-has-2-clause-step c = pair_known _ c.args.reached.now.marks _ _ c.args.reached.now.listed (sym c.if-has-2.ensures)

pub returns-clause-step : goal.returns-clause-step
returns-clause-step c = on_ok_weaker c.add-2.result (λ waits. pair_waits _ c.args.reached.now.marks _ _ _ c.args.reached.now.listed (sym c.if-has.ensures) waits) c.add-2.ensures
