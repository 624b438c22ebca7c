-- Parting a queue: what is still to be parted comes first in it, and what stays comes last. And what is picked from a rising list rises.
use Rattle.std.proofs.Common.{◌≡◌, ◌<◌, ◌+◌, ℕ, List, [], ◌∷◌, ◌++◌, Bool, true, false, not, cond, length, get_or, drop, refl, sym, ap, ◌∙◌, arith, append_assoc}
use Rattle.std.specs.List.{filter}
use Rattle.es_event.specs.declared.row.Row.{Row}
use Rattle.es_ticket.specs.Stakes.{is_rising_from}
use Rattle.es_ticket.proofs.Racked.{rises, rises_from, first_above, rest_rises}

module _ {X : Type 0} (p : X → Bool) where
  -- those that are not picked
  abbrev pub others : List X → List X
  others xs = filter (λ x. not (p x)) xs

  -- i of n in all were looked at
  pub record Parting (all queue taken : List X) (i n : ℕ) : Type 0 where
    pub left : List X
    pub stays : List X
    pub queue_is : queue ≡ left ++ stays
    pub long : length left + i ≡ n
    pub taken_is : taken ++ filter p left ≡ filter p all
    pub stays_is : stays ++ others left ≡ others all

  -- the first of the queue is taken or comes last
  pub record Next (all : List X) (x : X) (rest taken : List X) (i n : ℕ) : Type 0 where
    pub takes : p x ≡ true → Parting all rest (taken ++ x ∷ []) (i + 1) n
    pub keeps : p x ≡ false → Parting all (rest ++ x ∷ []) taken (i + 1) n

  pub next : (all queue taken : List X) (i n : ℕ) → Parting all queue taken i n → i < n → (x : X) (rest : List X) → queue ≡ x ∷ rest → Next all x rest taken i n
  next all queue taken i n h less x rest first = one h.left h.stays (sym first ∙ h.queue_is) h.long h.taken_is h.stays_is
    where
      one : (left stays : List X) → x ∷ rest ≡ left ++ stays → length left + i ≡ n → taken ++ filter p left ≡ filter p all → stays ++ others left ≡ others all
          → Next all x rest taken i n
      one [] stays q l t s = absurd (omega arith)
      one (y ∷ left) stays q l t s =
          let same : y ≡ x = sym (ap (λ l. get_or l 0 x) q) in
          let behind : rest ≡ left ++ stays = ap (drop 1) q in
          let still : length left + (i + 1) ≡ n = omega (arith, l) in
          let t' = rw same at t in
          let s' = rw same at s in
          record {
            takes = λ is. record {
              left = left;
              stays = stays;
              queue_is = behind;
              long = still;
              taken_is = append_assoc taken (x ∷ []) (filter p left) ∙ rw is at t';
              stays_is = rw is at s';
            };
            keeps = λ is. record {
              left = left;
              stays = stays ++ x ∷ [];
              queue_is = ap (λ l. l ++ x ∷ []) behind ∙ append_assoc left stays (x ∷ []);
              long = still;
              taken_is = rw is at t';
              stays_is = append_assoc stays (x ∷ []) (others left) ∙ rw is at s';
            };
          }

  -- where none is picked the others are all
  pub none_picked : (xs : List X) → length (filter p xs) ≡ 0 → xs ≡ others xs
  none_picked [] none = refl
  none_picked (x ∷ xs) none = one (p x) (none_picked xs) none
    where
      one : (b : Bool) → (length (filter p xs) ≡ 0 → xs ≡ others xs) → length (cond b (x ∷ filter p xs) (filter p xs)) ≡ 0 → x ∷ xs ≡ cond (not b) (x ∷ others xs) (others xs)
      one true ih none = absurd (omega arith)
      one false ih none = ap (λ l. x ∷ l) (ih none)

-- what is picked from a rising list rises
pub rises_picked : (p : ℕ × Row → Bool) (n : ℕ) (ts : List (ℕ × Row)) → is_rising_from n ts ≡ true → is_rising_from n (filter p ts) ≡ true
rises_picked p n [] h = refl
rises_picked p n (t ∷ ts) h = one (p t) (rises_picked p t.0 ts (rest_rises n t ts h))
  where
    one : (b : Bool) → is_rising_from t.0 (filter p ts) ≡ true → is_rising_from n (cond b (t ∷ filter p ts) (filter p ts)) ≡ true
    one true ih = rises n t (filter p ts) (first_above n t ts h) ih
    one false ih = (let a = first_above n t ts h in rises_from n t.0 (filter p ts) (omega arith) ih)
