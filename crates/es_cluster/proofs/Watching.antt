-- A watcher is told of one turn after the other.
use Rattle.std.proofs.Common.{◌≡◌, ◌∙◌, ℕ, true, false, cond, refl, sym, ap, subst, List, [], ◌∷◌, ◌++◌, Option, Some, None, Result, Ok, Err, ◌⊎◌, inl, inr}
use Rattle.std.specs.Prelude.{IfOk}
use Rattle.es_value.specs.declared.error.NoMemory.{NoMemory}
use Rattle.es_event.specs.LegalLedger.{all_stuck}
use Rattle.es_event.specs.Waiters.{asleep}
use Rattle.es_cluster.specs.declared.member.Progress.{Progress}
use Rattle.es_cluster.specs.declared.member.Progress.TheVariants.{Moved, Waiting, Ended}
use Rattle.es_cluster.specs.Asked.{Hears}
use Rattle.es_cluster.specs.Moves.{BeginsToSleep, mover, rests_at}
use Rattle.es_cluster.specs.State.{ClusterView}
use Rattle.es_cluster.specs.Turns.{Turned}
use Rattle.es_cluster.specs.Watched.{TakenTurn, AreMoves, AreTurns, FitsIn, IsToldOf, busy, busy_after}
use Rattle.es_cluster.specs.Watching.{IsKept, begun}
use Rattle.es_cluster.specs.declared.moving.Begun.{Begun}

turns_then : (ts us : List TakenTurn) (a b c : ClusterView) → AreTurns ts a b → AreTurns us b c → AreTurns (ts ++ us) a c
turns_then [] us a b c is rest = subst (λ x. AreTurns us x c) is rest
turns_then (t ∷ ts) us a b c is rest = (is.0, is.1, turns_then ts us t.after b c is.2 rest)

told_then : {W : Type 0} (tells : TakenTurn → W → W → Type 0) (ts us : List TakenTurn) (a b c : W) → IsToldOf tells ts a b → IsToldOf tells us b c → IsToldOf tells (ts ++ us) a c
told_then tells [] us a b c is rest = subst (λ x. IsToldOf tells us x c) is rest
told_then tells (t ∷ ts) us a b c is rest = (is.0, is.1, told_then tells ts us is.0 b c is.2 rest)

moves_then : (ts us : List TakenTurn) (a b c : Option ℕ) → AreMoves a ts b → AreMoves b us c → AreMoves a (ts ++ us) c
moves_then [] us a b c is rest = subst (λ x. AreMoves x us c) is rest
moves_then (t ∷ ts) us a b c is rest = (is.0, moves_then ts us (busy_after t.progress t.agent t.after) b c is.1 rest)

-- while an agent does not rest, its move is under way
pub busy_with : (n : ℕ) (c : ClusterView) → rests_at n c ≡ false → busy n c ≡ Some n
busy_with n c is = ap (λ b. cond b None (Some n)) is

pub busy_no_more : (n : ℕ) (c : ClusterView) → rests_at n c ≡ true → busy n c ≡ None
busy_no_more n c is = ap (λ b. cond b None (Some n)) is

module _ {W : Type 0} (knows : ClusterView → W → Type 0) (tells : TakenTurn → W → W → Type 0) where
  -- of none
  pub kept_none : (first : Option ℕ) (c : ClusterView) (w : W) → knows c w → IsKept knows tells first first c c w w
  kept_none first c w known = record { known = known; told = ([], refl, refl, refl) }

  -- of one
  kept_one : (first : Option ℕ) (p : Progress) (n : ℕ) (old new : ClusterView) (was now : W) → Turned p n old new → tells (record { progress = p; agent = n; before = old; after = new }) was now → knows new now
      → FitsIn first (record { progress = p; agent = n; before = old; after = new }) → IsKept knows tells first (busy_after p n new) old new was now
  kept_one first p n old new was now turned says known fits = record {
    known = known;
    told = (record { progress = p; agent = n; before = old; after = new } ∷ [], (refl, turned, refl), (fits, refl), (now, says, refl));
  }

  -- of one whose move is under way
  pub kept_on : (p : Progress) (n : ℕ) (old new : ClusterView) (was now : W) → Turned p n old new → tells (record { progress = p; agent = n; before = old; after = new }) was now → knows new now
      → rests_at n old ≡ false → p ≡ Moved → IsKept knows tells (busy n old) (busy n new) old new was now
  kept_on Moved n old new was now turned says known rests is = subst (λ o. IsKept knows tells o (busy n new) old new was now) (sym (busy_with n old rests)) (kept_one (Some n) Moved n old new was now turned says known (inl refl, refl))
  kept_on Waiting n old new was now turned says known rests is = cc
  kept_on Ended n old new was now turned says known rests is = cc

  -- of one whose move ends as it begins to sleep
  pub kept_slept : (p : Progress) (n : ℕ) (old new : ClusterView) (was now : W) → Turned p n old new → tells (record { progress = p; agent = n; before = old; after = new }) was now → knows new now
      → rests_at n old ≡ false → (p ≡ Waiting) ⊎ (p ≡ Ended) → BeginsToSleep n old new → IsKept knows tells (busy n old) None old new was now
  kept_slept Moved n old new was now turned says known rests is begins = absurd (elim is [
    | inl e ↦ (let clash : Moved ≡ Waiting = e in cc)
    | inr e ↦ (let clash : Moved ≡ Ended = e in cc)
  ])
  kept_slept Waiting n old new was now turned says known rests is begins = subst (λ o. IsKept knows tells o None old new was now) (sym (busy_with n old rests)) (kept_one (Some n) Waiting n old new was now turned says known (inr begins, refl))
  kept_slept Ended n old new was now turned says known rests is begins = subst (λ o. IsKept knows tells o None old new was now) (sym (busy_with n old rests)) (kept_one (Some n) Ended n old new was now turned says known (inr begins, refl))

  -- of one that was asked, and did not move; where it begins to sleep, all lower ones wait in vain
  pub kept_asked : (p : Progress) (n : ℕ) (old new : ClusterView) (was now : W) → Turned p n old new → tells (record { progress = p; agent = n; before = old; after = new }) was now → knows new now
      → (p ≡ Waiting) ⊎ (p ≡ Ended) → Hears p n old new → all_stuck old.ledger.history n ≡ true → IsKept knows tells None None old new was now
  kept_asked Moved n old new was now turned says known is heard settled = absurd (elim is [
    | inl e ↦ (let clash : Moved ≡ Waiting = e in cc)
    | inr e ↦ (let clash : Moved ≡ Ended = e in cc)
  ])
  kept_asked Waiting n old new was now turned says known is heard settled = kept_one None Waiting n old new was now turned says known fits
    where
      fits : (Waiting ≡ Moved) ⊎ BeginsToSleep n old new → mover old ≡ Some n
      fits ahead = elim ahead [
        | inl e ↦ (let clash : Waiting ≡ Moved = e in cc)
        | inr begins ↦ elim heard.4 [
          | inl same ↦ (let clash : false ≡ true = sym begins.1 ∙ sym same ∙ begins.2 in cc)
          | inr lies ↦ lies.1 settled
        ]
      ]
  kept_asked Ended n old new was now turned says known is heard settled = kept_one None Ended n old new was now turned says known fits
    where
      fits : (Ended ≡ Moved) ⊎ BeginsToSleep n old new → mover old ≡ Some n
      fits ahead = elim ahead [
        | inl e ↦ (let clash : Ended ≡ Moved = e in cc)
        | inr begins ↦ (let clash : false ≡ true = sym begins.1 ∙ ap (λ c. asleep c.ledger.history n) (sym heard.0) ∙ begins.2 in cc)
      ]

  -- of one that begins its move, as all lower ones wait in vain
  pub kept_begun : (p : Progress) (n : ℕ) (old new : ClusterView) (was now : W) → Turned p n old new → tells (record { progress = p; agent = n; before = old; after = new }) was now → knows new now
      → p ≡ Moved → Hears p n old new → all_stuck old.ledger.history n ≡ true → IsKept knows tells None (busy n new) old new was now
  kept_begun Moved n old new was now turned says known is heard settled = kept_one None Moved n old new was now turned says known (λ e. heard.0 settled)
  kept_begun Waiting n old new was now turned says known is heard settled = cc
  kept_begun Ended n old new was now turned says known is heard settled = cc

  -- of more
  pub kept_then : (first mid last : Option ℕ) (a b c : ClusterView) (x y z : W) → IsKept knows tells first mid a b x y → IsKept knows tells mid last b c y z → IsKept knows tells first last a c x z
  kept_then first mid last a b c x y z before next = record {
    known = next.known;
    told = (
      before.told.0 ++ next.told.0,
      turns_then before.told.0 next.told.0 a b c before.told.1 next.told.1,
      moves_then before.told.0 next.told.0 first mid last before.told.2 next.told.2,
      told_then tells before.told.0 next.told.0 x y z before.told.3 next.told.3,
    );
  }

  pub kept_after : (r : Result (Option Begun) NoMemory) (a b c : ClusterView) (x y z : W) → IsKept knows tells None None a b x y → IfOk r (λ r. IsKept knows tells None (begun r c) b c y z) → IfOk r (λ r. IsKept knows tells None (begun r c) a c x z)
  kept_after (Ok r) a b c x y z before next = kept_then None None (begun r c) a b c x y z before next
  kept_after (Err e) a b c x y z before next = tt
