-- What one agent does: its part grows by it, and no other agent's part, wait, sleep or end changes.
use Rattle.std.proofs.Common.{◌≡◌, ℕ, ◌==◌, ◌&&◌, ◌||◌, Bool, true, false, cond, not, sym, ◌∙◌, ap, refl, List, [], ◌∷◌, ◌++◌, append-nil, append_assoc, eq-eqb, Option, Some, None, inl, inr}
use Rattle.std.specs.Option.{option_map_or, option_map}
use Rattle.std.proofs.lemmas.Bool.{cases_Bool, eqb-true}
use Rattle.es_event.specs.declared.ledger_event.LedgerEvent.{LedgerEvent}
use Rattle.es_event.specs.declared.ledger_event.LedgerEvent.TheVariants.{Taken, Acted}
use Rattle.es_event.specs.declared.ledger_event.Act.TheVariants.{Waiting, Passed, Ended, Slept, Woke, TimedOut}
use Rattle.es_event.specs.declared.row.Row.{Row}
use Rattle.es_event.specs.Ledger.{Ledger, waits, ended, holder_of}
use Rattle.es_match.specs.declared.deed.Sleep.{Sleep}
use Rattle.es_match.specs.Deeds.{Deed, Owned, deed, is_wait, part, part_of, by_holder, sleep_of}
use Rattle.es_cluster.specs.Tied.{AreDeedsOf, GrowsBy}

pub apart : (n a : ℕ) → (a ≡ n → ⊥) → (n == a) ≡ false
apart n a other = elim (cases_Bool (n == a)) [
  | inl e ↦ absurd (other (sym (eqb-true n a e)))
  | inr e ↦ e
]

-- Parts

pub part_own : (l : Ledger) (e : LedgerEvent) (n : ℕ) (d : Deed) → deed l e ≡ Some (n, d) → is_wait d ≡ false → part (e ∷ l) n ≡ part l n ++ d ∷ []
part_own l e n d is w =
    ap (λ o. part l n ++ part_of n o) is
    ∙ ap (λ b. part l n ++ cond (b && not (is_wait d)) (d ∷ []) []) (eq-eqb n n refl)
    ∙ ap (λ b. part l n ++ cond (not b) (d ∷ []) []) w

pub part_waits : (l : Ledger) (e : LedgerEvent) (n a : ℕ) (d : Deed) → deed l e ≡ Some (n, d) → is_wait d ≡ true → part (e ∷ l) a ≡ part l a
part_waits l e n a d is w =
    ap (λ o. part l a ++ part_of a o) is
    ∙ ap (λ b. part l a ++ cond ((n == a) && not b) (d ∷ []) []) w
    ∙ ap (λ b. part l a ++ cond b (d ∷ []) []) (and_false (n == a))
    ∙ append-nil (part l a)
  where
    and_false : (b : Bool) → (b && not true) ≡ false
    and_false true = refl
    and_false false = refl

pub part_other : (l : Ledger) (e : LedgerEvent) (n a : ℕ) (d : Deed) → deed l e ≡ Some (n, d) → (a ≡ n → ⊥) → part (e ∷ l) a ≡ part l a
part_other l e n a d is other =
    ap (λ o. part l a ++ part_of a o) is
    ∙ ap (λ b. part l a ++ cond (b && not (is_wait d)) (d ∷ []) []) (apart n a other)
    ∙ append-nil (part l a)

-- Waits, sleeps and ends

pub doer : (o : Owned) (n m : ℕ) (d : Deed) → o ≡ Some (n, d) → option_map_or (λ p. p.0) o m ≡ n
doer o n m d is = ap (λ o. option_map_or (λ p. p.0) o m) is

pub other_than : (r n a : ℕ) → r ≡ n → (a ≡ n → ⊥) → (r == a) ≡ false
other_than r n a same other = ap (λ m. m == a) same ∙ apart n a other

pub waits_other : (l : Ledger) (e : LedgerEvent) (n a : ℕ) (d : Deed) → deed l e ≡ Some (n, d) → (a ≡ n → ⊥) → waits (e ∷ l) a ≡ waits l a
waits_other l (Taken s r) n a d is other = ap (λ b. cond b None (waits l a)) (other_than r n a (doer (deed l (Taken s r)) n r d is) other)
waits_other l (Acted r (Waiting s)) n a d is other = ap (λ b. cond b (Some s) (waits l a)) (other_than r n a (doer (deed l (Acted r (Waiting s))) n r d is) other)
waits_other l (Acted r (Passed s)) n a d is other = ap (λ b. cond b None (waits l a)) (other_than r n a (doer (deed l (Acted r (Passed s))) n r d is) other)
waits_other l _ n a d is other = refl

-- an act that sets one agent's sleep
set_other : (l : Ledger) (r n a : ℕ) (v : Option Sleep) → r ≡ n → (a ≡ n → ⊥) → cond (r == a) v (sleep_of l a) ≡ sleep_of l a
set_other l r n a v is other = ap (λ b. cond b v (sleep_of l a)) (other_than r n a is other)

pub sleep_other : (l : Ledger) (e : LedgerEvent) (n a : ℕ) (d : Deed) → deed l e ≡ Some (n, d) → (a ≡ n → ⊥) → sleep_of (e ∷ l) a ≡ sleep_of l a
sleep_other l (Acted r (Slept s i w)) n a d is other = set_other l r n a (Some (record { serial = s; index = i; word = w })) (doer (deed l (Acted r (Slept s i w))) n r d is) other
sleep_other l (Acted r Woke) n a d is other = set_other l r n a None (doer (deed l (Acted r Woke)) n r d is) other
sleep_other l (Acted r TimedOut) n a d is other = set_other l r n a None (doer (deed l (Acted r TimedOut)) n r d is) other
sleep_other l (Acted r Ended) n a d is other = set_other l r n a None (doer (deed l (Acted r Ended)) n r d is) other
sleep_other l _ n a d is other = refl

pub ended_other : (l : Ledger) (e : LedgerEvent) (n a : ℕ) (d : Deed) → deed l e ≡ Some (n, d) → (a ≡ n → ⊥) → ended (e ∷ l) a ≡ ended l a
ended_other l (Acted r Ended) n a d is other = ap (λ b. b || ended l a) (other_than r n a (doer (deed l (Acted r Ended)) n r d is) other)
ended_other l _ n a d is other = refl

-- Many deeds

pub grows_none : (n : ℕ) (l : Ledger) → GrowsBy n l l
grows_none n l = ([], refl, tt)

-- one more
pub grows : (n : ℕ) (l m k : Ledger) (e : LedgerEvent) (d : Deed) → GrowsBy n l m → k ≡ e ∷ m → deed m e ≡ Some (n, d) → GrowsBy n l k
grows n l m k e d g is did = (e ∷ g.0, is ∙ ap (λ m. e ∷ m) g.1, ((d, ap (λ m. deed m e) (sym g.1) ∙ did), g.2))

-- and then others
pub grows_on : (n : ℕ) (l m k : Ledger) → GrowsBy n l m → GrowsBy n m k → GrowsBy n l k
grows_on n l m k g h = (h.0 ++ g.0, h.1 ∙ ap (λ m. h.0 ++ m) g.1 ∙ sym (append_assoc h.0 g.0 l), both h.0 h.2)
  where
    both : (es : List LedgerEvent) → AreDeedsOf n es m → AreDeedsOf n (es ++ g.0) l
    both [] are = g.2
    both (e ∷ es) are = ((are.0.0, ap (λ k. deed k e) (append_assoc es g.0 l ∙ ap (λ m. es ++ m) (sym g.1)) ∙ are.0.1), both es are.1)

-- one deed
pub grows_one : (n : ℕ) (l k : Ledger) (e : LedgerEvent) (d : Deed) → k ≡ e ∷ l → deed l e ≡ Some (n, d) → GrowsBy n l k
grows_one n l k e d is did = grows n l l k e d (grows_none n l) is did

grown : {X : Type 0} (f : Ledger → ℕ → X) (n a : ℕ) (l m : Ledger) → ((l : Ledger) (e : LedgerEvent) (d : Deed) → deed l e ≡ Some (n, d) → f (e ∷ l) a ≡ f l a) → GrowsBy n l m → f m a ≡ f l a
grown f n a l m step g = ap (λ m. f m a) g.1 ∙ each g.0 g.2
  where
    each : (es : List LedgerEvent) → AreDeedsOf n es l → f (es ++ l) a ≡ f l a
    each [] are = refl
    each (e ∷ es) are = step (es ++ l) e are.0.0 are.0.1 ∙ each es are.1

pub part_stays : (n a : ℕ) (l m : Ledger) → GrowsBy n l m → (a ≡ n → ⊥) → part m a ≡ part l a
part_stays n a l m g other = grown part n a l m (λ l e d is. part_other l e n a d is other) g

pub waits_stay : (n a : ℕ) (l m : Ledger) → GrowsBy n l m → (a ≡ n → ⊥) → waits m a ≡ waits l a
waits_stay n a l m g other = grown waits n a l m (λ l e d is. waits_other l e n a d is other) g

pub sleep_stays : (n a : ℕ) (l m : Ledger) → GrowsBy n l m → (a ≡ n → ⊥) → sleep_of m a ≡ sleep_of l a
sleep_stays n a l m g other = grown sleep_of n a l m (λ l e d is. sleep_other l e n a d is other) g

pub ended_stays : (n a : ℕ) (l m : Ledger) → GrowsBy n l m → (a ≡ n → ⊥) → ended m a ≡ ended l a
ended_stays n a l m g other = grown ended n a l m (λ l e d is. ended_other l e n a d is other) g

-- What is done by a ticket is its holder's deed

pub by_ticket : (l : Ledger) (s n : ℕ) (r : Row) (d : Deed) → holder_of l s ≡ Some (n, r) → by_holder l s d ≡ Some (n, d)
by_ticket l s n r d held = ap (λ o. option_map (λ p. (p.0, d)) o) held
