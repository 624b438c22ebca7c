use Rattle.std.proofs.Common.{◌≡◌, ◌≤◌, drop, false, length}
use Rattle.es_cluster.specs.State.{ClusterView, plans}
use Rattle.es_cluster.specs.Turns.{AllTurned, StoppedIn}
use Rattle.es_cluster.proofs.cluster.ClusterCore.run.Given as goal

abbrev pub invariant-loop-i : goal.invariant-loop-i
invariant-loop-i g l = record {
  within : l.i ≤ length l.turns;
  whole : l.self.failed ≡ false;
  agents : length l.self.agents ≡ length l.fn.self.agents;
  plans : plans l.self.agents ≡ plans l.fn.self.agents;
  -- what comes after the turns that are left
  turned : (end : ClusterView) → AllTurned (drop l.i l.turns) l.self end → AllTurned l.turns l.fn.self end;
  stopped : (end : ClusterView) → StoppedIn (drop l.i l.turns) l.self end → StoppedIn l.turns l.fn.self end;
}
