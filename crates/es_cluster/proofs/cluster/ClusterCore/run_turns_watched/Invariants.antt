use Rattle.std.proofs.Common.{◌≡◌, false, None}
use Rattle.es_cluster.specs.Asked.{plans_left}
use Rattle.es_cluster.specs.Moves.{RunsOut}
use Rattle.es_cluster.specs.State.{ClusterView, plans}
use Rattle.es_cluster.specs.Watching.{IsKept}
use Rattle.es_cluster.proofs.cluster.ClusterCore.run_turns_watched.Given as goal

abbrev pub invariant-loop : goal.invariant-loop
invariant-loop g l = record {
  whole : l.self.failed ≡ false;
  plans : plans l.self.agents ≡ plans l.fn.self.agents;
  watched : IsKept g.W.Watcher.knows g.W.Watcher.tells None None l.fn.self l.self l.fn.watcher l.watcher;
  runs : (end : ClusterView) → RunsOut l.self end → RunsOut l.fn.self end;
}

abbrev pub decreases-loop : goal.decreases-loop
decreases-loop g l = plans_left l.self
