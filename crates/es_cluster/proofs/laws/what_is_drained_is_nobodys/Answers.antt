use Rattle.es_match.specs.Cluster.{IsCluster}
use Rattle.es_cluster.proofs.Draining.{cluster_outlasts, drained_over}
use Rattle.es_cluster.proofs.laws.what_is_drained_is_nobodys.Goals as goal

pub returns : goal.returns
returns c n hs l legal over cluster =
    let end = drained_over (IsCluster hs) n l (cluster_outlasts hs) (record { legal = legal.0; paid = legal.1; over = over; kept = cluster }) in
    (end.kept, (end.legal, end.paid))
