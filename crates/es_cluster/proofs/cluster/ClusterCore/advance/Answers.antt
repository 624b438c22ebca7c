use Rattle.es_cluster.proofs.cluster.ClusterCore.advance.Goals as goal

pub returns-clause-told : goal.returns-clause-told
returns-clause-told g c = c.in-Ok-turned.ensures.tells c.args.self.now c.args.watcher.now c.in-Ok.ensures c.in_ok-progress.ensures.turned
