use Rattle.es_cluster.proofs.Beginning.{starts_quiet}
use Rattle.es_turns.proofs.Scribing.{starts_unbegun}
use Rattle.es_turns.proofs.tracing.trace_cluster.Goals as goal

pub run_and_trace-text-requires-clause-quiet : goal.run_and_trace-text-requires-clause-quiet
run_and_trace-text-requires-clause-quiet g c = starts_quiet c.args.plan c.in_ok-cluster.cluster c.in_ok-cluster.ensures c.requires.quiet

pub run_and_trace-text-requires-clause-first : goal.run_and_trace-text-requires-clause-first
run_and_trace-text-requires-clause-first g c = starts_unbegun c.args.plan c.in_ok-cluster.cluster c.in_ok-cluster.ensures
