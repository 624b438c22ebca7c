use Rattle.std.proofs.lemmas.Result.{on_ok_weaker}
use Rattle.es_trace.proofs.Written.{rows_written}
use Rattle.es_trace.proofs.scribe.Scribe.write.Goals as goal

pub returns-clause-rows : goal.returns-clause-rows
returns-clause-rows g c = on_ok_weaker c.follow.result (λ followed h keeps.
    rows_written c.args.names.now c.args.plan.now h c.args.self.now c.args.event.now _ _ _ _ keeps c.as_slice.ensures.value c.at_hand-at_hand.ensures c.in_ok-write_rows.ensures) c.follow.ensures

pub returns-clause-keeps : goal.returns-clause-keeps
returns-clause-keeps g c = on_ok_weaker c.follow.result (λ followed h keeps. followed c.args.names.now h keeps) c.follow.ensures
