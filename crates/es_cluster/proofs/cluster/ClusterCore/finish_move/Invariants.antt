use Rattle.std.proofs.Common.{◌≡◌, ◌≤◌, ◌<◌, false, length}
use Rattle.es_event.specs.Waiters.{asleep}
use Rattle.es_cluster.specs.Asked.{GoesOn, cleans_at, plan_left}
use Rattle.es_cluster.specs.State.{plans}
use Rattle.es_cluster.specs.Watched.{busy}
use Rattle.es_cluster.specs.Watching.{IsKept}
use Rattle.es_cluster.proofs.cluster.ClusterCore.finish_move.Given as goal

abbrev pub invariant-loop-self : goal.invariant-loop-self
invariant-loop-self g l = record {
  known : l.agent < length l.self.agents;
  size : length l.self.agents ≡ length l.fn.self.agents;
  whole : l.self.failed ≡ false;
  plans : plans l.self.agents ≡ plans l.fn.self.agents;
  clean : cleans_at l.agent l.self ≡ false;
  awake : asleep l.self.ledger.history l.agent ≡ false;
  watched : IsKept g.W.Watcher.knows g.W.Watcher.tells (busy l.agent l.fn.self) (busy l.agent l.self) l.fn.self l.self l.fn.watcher l.watcher;
  goes : GoesOn l.agent l.fn.self l.self;
  less : plan_left l.agent l.self ≤ plan_left l.agent l.fn.self;
}

abbrev pub decreases-loop-self : goal.decreases-loop-self
decreases-loop-self g l = plan_left l.agent l.self
