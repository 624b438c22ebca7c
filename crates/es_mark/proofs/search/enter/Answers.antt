use Rattle.std.proofs.Common.{sym}
use Rattle.std.proofs.lemmas.Result.{on_ok_weaker}
use Rattle.es_mark.proofs.Entering.{entered_now, entered_later}
use Rattle.es_mark.proofs.search.enter.Goals as goal

pub returns-then-is_among-clause-entered : goal.returns-then-is_among-clause-entered
returns-then-is_among-clause-entered c = on_ok_weaker c.add.result (λ added. entered_now _ _ _ _ _ _ (sym c.if-is_among.ensures) added) c.add.ensures.added

pub returns-clause-entered : goal.returns-clause-entered
returns-clause-entered c = on_ok_weaker c.add-2.result (λ waits. entered_later _ _ _ _ _ _ (sym c.if-is_among.ensures) waits) c.add-2.ensures
