use Rattle.std.proofs.Common.{None}
use Rattle.es_cluster.specs.Asked.{AskedUpTo}
use Rattle.es_cluster.specs.Watching.{IsKept}
use Rattle.es_cluster.proofs.cluster.ClusterCore.ask_each.Given as goal

abbrev pub invariant-loop-agent : goal.invariant-loop-agent
invariant-loop-agent g l = record {
  asked : AskedUpTo l.agent l.fn.self l.self;
  watched : IsKept g.W.Watcher.knows g.W.Watcher.tells None None l.fn.self l.self l.fn.watcher l.watcher;
}
