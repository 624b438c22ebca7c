use Rattle.es_cluster.proofs.Beginning.{starts_quiet}
use Rattle.calls.proofs.cluster.play_cluster.Goals as goal

pub play_all-requires : goal.play_all-requires
play_all-requires g c = starts_quiet c.args.plan c.in_ok-cluster.cluster c.in_ok-cluster.ensures c.requires.quiet
