use Rattle.es_cluster.proofs.Standing.{are_cluster}
use Rattle.es_cluster.specs.State.{cores}
use Rattle.es_cluster.proofs.cluster.ClusterCore.ledger.Goals as goal

pub returns-clause-cluster : goal.returns-clause-cluster
returns-clause-cluster g c = rw (← c.self.view_is) (λ whole. are_cluster (cores c.self.inside.members.items) c.self.inside.ledger c.self.invariant.0 (c.self.invariant.1 whole))
