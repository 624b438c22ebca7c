-- Agents whose accounts are those of one cluster have the histories of one.
use Rattle.std.proofs.Common.{List, sym, subst, map}
use Rattle.std.proofs.Math.ListN.{get_or-map}
use Rattle.es_event.specs.Ledger.{Ledger}
use Rattle.es_match.specs.Cluster.{Account, IsCluster, IsClusterOf, DeedsMeet, nobody}
use Rattle.es_match.specs.Deeds.{part}

pub as_cluster : (all : List Account) (l : Ledger) → IsClusterOf all l → IsCluster (map (λ a. a.history) all) l
as_cluster all l c = record {
  parts = λ a. ((c.parts a).0, subst (λ h. DeedsMeet h (part l a) (c.parts a).0) (sym (get_or-map (λ a. a.history) all a nobody)) (c.parts a).1);
  waits = c.waits;
  drains = c.drains;
}
