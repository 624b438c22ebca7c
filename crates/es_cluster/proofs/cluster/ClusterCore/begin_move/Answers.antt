use Rattle.std.proofs.Common.{subst, None}
use Rattle.es_cluster.specs.Asked.{AskedEach}
use Rattle.es_cluster.proofs.Finishing.{begins_all}
use Rattle.es_cluster.specs.Watching.{IsKept, begun}
use Rattle.es_cluster.proofs.Watching.{kept_after}
use Rattle.es_cluster.proofs.cluster.ClusterCore.begin_move.Goals as goal

pub returns-in-None-clause-begins : goal.returns-in-None-clause-begins
returns-in-None-clause-begins g c =
    begins_all c.ask_each-in-None.result c.args.self.now c.ask_each.new.self c.ask_each-in-None.new.self (subst (λ o. AskedEach o c.args.self.now c.ask_each.new.self) c.in-None.is c.in_ok-begun.ensures.asked) c.ask_each-in-None.ensures.asked

pub returns-in-None-clause-watched : goal.returns-in-None-clause-watched
returns-in-None-clause-watched g c =
    kept_after g.W.Watcher.knows g.W.Watcher.tells c.ask_each-in-None.result c.args.self.now c.ask_each.new.self c.ask_each-in-None.new.self c.args.watcher.now c.ask_each.new.watcher c.ask_each-in-None.new.watcher (subst (λ o. IsKept g.W.Watcher.knows g.W.Watcher.tells None (begun o c.ask_each.new.self) c.args.self.now c.ask_each.new.self c.args.watcher.now c.ask_each.new.watcher) c.in-None.is c.in_ok-begun.ensures.watched) c.ask_each-in-None.ensures.watched
