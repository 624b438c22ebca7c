use Rattle.es_turns.proofs.Scribing.{chronicled, drained_ready}
use Rattle.es_turns.proofs.tracing.run_and_trace.Goals as goal

pub write_added-requires-clause-written : goal.write_added-requires-clause-written
write_added-requires-clause-written g c = (drained_ready c.args.cluster.now c.run_turns_watched.new.self c.in_ok-chronicle.chronicle c.run_turns_watched.new.watcher c.in_ok-run_turns_watched.ensures.watched).0

pub write_added-requires-clause-blocks : goal.write_added-requires-clause-blocks
write_added-requires-clause-blocks g c = (drained_ready c.args.cluster.now c.run_turns_watched.new.self c.in_ok-chronicle.chronicle c.run_turns_watched.new.watcher c.in_ok-run_turns_watched.ensures.watched).1

pub returns : goal.returns
returns g c =
    chronicled c.args.view c.args.cluster.now c.run_turns_watched.new.self c.in_ok-chronicle.chronicle c.run_turns_watched.new.watcher c.write_added.new.self c.in_ok-run_turns_watched.ensures.watched c.in_ok-chronicle.ensures.knows
    c.in_ok-chronicle.ensures.view c.in_ok-chronicle.ensures.text c.in_ok-write_added.ensures.text
