use Rattle.std.proofs.Common.{◌<◌}
use Rattle.es_record.proofs.agent_record.events_of.Given as goal

abbrev pub invariant-loop-job : goal.invariant-loop-job
invariant-loop-job l = 0 < l.events
