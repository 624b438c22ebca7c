-- Turns of which one ends for want of memory.
use Rattle.std.proofs.Common.{◌≡◌, ℕ, true, false, List, [], ◌∷◌, sym, ◌∙◌, ap, refl}
use Rattle.es_cluster.specs.State.{ClusterView}
use Rattle.es_cluster.specs.Turns.{Stopped, StoppedIn, before, within, Turned}
use Rattle.es_cluster.specs.declared.member.Progress.{Progress}

-- after one more turn before them
pub later : (p : Progress) (n : ℕ) (ns all : List ℕ) (old mid end : ClusterView) → all ≡ n ∷ ns → Turned p n old mid → StoppedIn ns mid end → StoppedIn all old end
later p n ns all old mid end is turned (before failed same) = let clash : false ≡ true = sym turned.whole.1 ∙ failed in cc
later p n ns all old mid end is turned (within done rest k stop split taken stopped) = within (n ∷ done) rest k stop (is ∙ ap (λ ks. n ∷ ks) split) (p, mid, turned, taken) stopped

-- the first of them
pub at_once : (n : ℕ) (ns all : List ℕ) (old end : ClusterView) → all ≡ n ∷ ns → Stopped n old end → StoppedIn all old end
at_once n ns all old end is stopped = within [] ns n old is refl stopped
