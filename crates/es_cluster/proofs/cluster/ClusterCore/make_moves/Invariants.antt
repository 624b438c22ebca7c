use Rattle.std.proofs.Common.{◌≡◌, false, length}
use Rattle.std.specs.Prelude.{None}
use Rattle.es_cluster.specs.Asked.{plans_left, queues_left}
use Rattle.es_cluster.specs.Moves.{RunsOut}
use Rattle.es_cluster.specs.State.{ClusterView, plans}
use Rattle.es_cluster.specs.Watching.{IsKept}
use Rattle.es_cluster.proofs.cluster.ClusterCore.make_moves.Given as goal

abbrev pub invariant-loop-begun : goal.invariant-loop-begun
invariant-loop-begun g l = record {
  whole : l.self.failed ≡ false;
  plans : plans l.self.agents ≡ plans l.fn.self.agents;
  size : length l.self.agents ≡ length l.fn.self.agents;
  watched : IsKept g.W.Watcher.knows g.W.Watcher.tells None None l.fn.self l.self l.fn.watcher l.watcher;
  runs : (end : ClusterView) → RunsOut l.self end → RunsOut l.fn.self end;
  same : plans_left l.self ≡ plans_left l.fn.self;
}

abbrev pub decreases-loop-begun : goal.decreases-loop-begun
decreases-loop-begun g l = queues_left l.self
