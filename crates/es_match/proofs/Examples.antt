-- What the worked examples share: closed histories are decided by going through them.
use Rattle.std.proofs.Common.{◌≡◌, ℕ, zero, suc, Bool, true, false, true≢false, List, [], ◌∷◌, Option, Some, None, is_some, refl, sym, ap, ◌∙◌, arith}
use Rattle.std.specs.Prelude.{reverse}
use Rattle.es_event.specs.History.{History}
use Rattle.es_event.specs.Ledger.{Ledger}
use Rattle.es_match.specs.Deeds.{part}
use Rattle.es_match.specs.Meets.{Came, nothing_came}
use Rattle.es_match.specs.Patience.{patient, drained_last}
use Rattle.es_match.specs.Cluster.{DeedsMeet, IsCluster, history_of}
use Rattle.es_match.specs.Goes.{goes}
use Rattle.es_match.specs.Orderly.{orderly}
use Rattle.es_match.proofs.Bridge.{goes_means_ties, ties_mean_goes}
use Rattle.es_match.proofs.Deciding.{order_patient, order_drains, strangers}

-- what has come to the agent, if its part is what its history asks
abbrev pub came_to : History → Ledger → ℕ → Option Came
came_to h l a = goes true nothing_came (reverse h) (part l a)

abbrev pub is_told : History → Ledger → ℕ → Bool
is_told h l a = is_some (came_to h l a)

told_ties : (h : History) (l : Ledger) (a : ℕ) (o : Option Came) → came_to h l a ≡ o → is_some o ≡ true → (c : Came) × DeedsMeet h (part l a) c
told_ties h l a None is e = cc
told_ties h l a (Some c) is e = (c, goes_means_ties h (part l a) c is)

pub two_agents : (h g : History) (l : Ledger) → is_told h l 0 ≡ true → is_told g l 1 ≡ true → orderly 2 l ≡ true
    → IsCluster (h ∷ g ∷ []) l
two_agents h g l first second order = record {
  parts = each;
  waits = order_patient 2 l order;
  drains = order_drains 2 l order;
}
  where
    each : (a : ℕ) → (c : Came) × DeedsMeet (history_of (h ∷ g ∷ []) a) (part l a) c
    each zero = told_ties h l 0 (came_to h l 0) refl first
    each (suc zero) = told_ties g l 1 (came_to g l 1) refl second
    each (suc (suc a)) = (nothing_came, (strangers 2 l order (suc (suc a)) (omega arith), refl))

pub untold : (hs : List History) (l : Ledger) (a : ℕ) → is_told (history_of hs a) l a ≡ false → IsCluster hs l → ⊥
untold hs l a e c = true≢false (sym (ap is_some (ties_mean_goes (history_of hs a) (part l a) (c.parts a).0 (c.parts a).1)) ∙ e)

pub impatient : (hs : List History) (l : Ledger) → patient l ≡ false → IsCluster hs l → ⊥
impatient hs l e c = true≢false (sym c.waits ∙ e)

pub after_drain : (hs : List History) (l : Ledger) → drained_last l ≡ false → IsCluster hs l → ⊥
after_drain hs l e c = true≢false (sym c.drains ∙ e)
