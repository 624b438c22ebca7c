-- Rows one after another.
use Rattle.std.proofs.Common.{ℕ, ◌≡◌, ◌+◌, ◌-◌, ◌<◌, ◌≤◌, Bool, true, zero, suc, arith, ◌∙◌, ap, refl, List, [], ◌∷◌, ◌++◌, length, take, drop, inl, inr}
use Rattle.std.proofs.Math.ListN.{get_or}
use Rattle.std.specs.List.{AllByRecursion, list_all}
use Rattle.std.proofs.lemmas.Bool.{cases_lt, and_parts}
use Rattle.std.proofs.lemmas.List.{take-append-le, drop-append-le, drop_all, take_all, length-append, length_push, length-drop}
use Rattle.es_value.specs.declared.value.Value.{Value}
use Rattle.es_mark.specs.Graph.{HasAll, Finds, FindsEntries}
use Rattle.es_mark.specs.Made.{is_made}
use Rattle.es_parmark.specs.Pairs.{pairs_said}
use Rattle.es_parmark.specs.Snapshot.{row, IsSound, IsCopyOf}
use Rattle.es_parmark.specs.Copying.{AreRows}
use Rattle.es_parmark.proofs.Tests.{list_all_join, numbered_list, list_numbered}
use Rattle.es_parmark.proofs.PairLists.{said_from, said_to, said_made}

get_front : (xs ys : List ℕ) (i d : ℕ) → i < length xs → get_or (xs ++ ys) i d ≡ get_or xs i d
get_front [] ys i d l = absurd (omega arith)
get_front (x ∷ xs) ys zero d l = refl
get_front (x ∷ xs) ys (suc i) d l = get_front xs ys i d (omega arith)

get_last : (xs : List ℕ) (y i d : ℕ) → i ≡ length xs → get_or (xs ++ y ∷ []) i d ≡ y
get_last [] y i d e = rw e refl
get_last (x ∷ xs) y zero d e = absurd (omega arith)
get_last (x ∷ xs) y (suc i) d e = get_last xs y i d (omega arith)

pub part_front : {X : Type 0} (xs ys : List X) (a b : ℕ) → b ≤ length xs → take (b - a) (drop a (xs ++ ys)) ≡ take (b - a) (drop a xs)
part_front xs ys a b l = elim (cases_lt a b) [
  | inl lt ↦ let f = length-drop a xs in ap (take (b - a)) (drop-append-le a xs ys (omega arith)) ∙ take-append-le (b - a) (drop a xs) ys (omega arith)
  | inr g ↦ let e : b - a ≡ 0 = omega arith in rw e refl
]

part_back : {X : Type 0} (xs ys : List X) (a b : ℕ) → a ≡ length xs → b ≡ length (xs ++ ys) → take (b - a) (drop a (xs ++ ys)) ≡ ys
part_back xs ys a b e f =
    let n = length-append xs ys in
    ap (take (b - a)) (drop-append-le a xs ys (omega arith) ∙ ap (λ l. l ++ ys) (drop_all a xs (omega arith))) ∙ take_all (b - a) ys (omega arith)

module _ {X : Type 0} (test : X → Bool) (asked : ℕ → (ℕ → Bool) → Type 0) (Has : (ℕ → Bool) → X → Type 0) where
  -- before the first
  pub rows_none : (ends : List ℕ) (all : List X) → ends ≡ 0 ∷ [] → all ≡ [] → AreRows test asked Has 0 ends all
  rows_none ends all e f = rw (e, f) record {
    count = omega arith;
    last = refl;
    within = λ i l. let z : i ≡ 0 = omega arith in rw z (omega arith);
    passes = refl;
    from = λ i pos le. absurd (omega arith);
    to = λ i pos le. absurd (omega arith);
  }

  module _ (n : ℕ) (ends : List ℕ) (all more : List X) (r : AreRows test asked Has n ends all) where
    next : List ℕ
    next = ends ++ length (all ++ more) ∷ []

    same_row : (i : ℕ) → 0 < i → i ≤ n → row next (all ++ more) i ≡ row ends all i
    unfolding next
    same_row i pos le =
        let a = get_front ends (length (all ++ more) ∷ []) (i - 1) 0 (omega (arith, r.count)) in
        let b = get_front ends (length (all ++ more) ∷ []) i 0 (omega (arith, r.count)) in
        rw (a, b) (part_front all more (get_or ends (i - 1) 0) (get_or ends i 0) (r.within i le))

    new_row : (i : ℕ) → i ≡ n + 1 → row next (all ++ more) i ≡ more
    unfolding next
    new_row i e =
        let j : i - 1 ≡ n = omega arith in
        let a = get_front ends (length (all ++ more) ∷ []) n 0 (omega (arith, r.count)) in
        let b = get_last ends (length (all ++ more)) i 0 (omega (arith, r.count)) in
        rw (j, a, b) (part_back all more (get_or ends n 0) (length (all ++ more)) r.last refl)

    -- one more
    pub rows_more : (ends' : List ℕ) (all' : List X) → all' ≡ all ++ more → ends' ≡ ends ++ length all' ∷ [] → list_all test more ≡ true
        → ((t : ℕ → Bool) → asked (n + 1) t → AllByRecursion (Has t) more) → ((t : ℕ → Bool) → AllByRecursion (Has t) more → asked (n + 1) t)
        → AreRows test asked Has (n + 1) ends' all'
    unfolding next
    rows_more ends' all' is grown good from to =
        rw (grown, is)
        record {
          count = omega (arith, length_push ends (length (all ++ more)), r.count);
          last = get_last ends (length (all ++ more)) (n + 1) 0 (omega (arith, r.count));
          within = λ i l. elim (cases_lt n i) [
            | inl past ↦ rw (get_last ends (length (all ++ more)) i 0 (omega (arith, r.count))) (omega arith)
            | inr here ↦ rw (get_front ends (length (all ++ more) ∷ []) i 0 (omega (arith, r.count))) (omega (arith, r.within i here, length-append all more))
          ];
          passes = list_all_join test all more r.passes good;
          from = λ i pos l t has. elim (cases_lt n i) [
            | inl past ↦ let e : i ≡ n + 1 = omega arith in rw (new_row i e) (from t (rw e at has))
            | inr here ↦ rw (same_row i pos here) (r.from i pos here t has)
          ];
          to = λ i pos l t has. elim (cases_lt n i) [
            | inl past ↦ let e : i ≡ n + 1 = omega arith in rw e (to t (rw (new_row i e) at has))
            | inr here ↦ r.to i pos here t (rw (same_row i pos here) at has)
          ];
        }

-- what a graph found

pub rows_found : (made m : ℕ) (asked : ℕ → (ℕ → Bool) → Type 0) (n i k : ℕ) (ends all ends' all' : List ℕ) → AreRows (is_made made) asked (λ t i. t i ≡ true) n ends all → made ≡ m → i ≡ n + 1
    → Finds m (asked i) all all' → k ≡ length all' → ends' ≡ ends ++ k ∷ [] → AreRows (is_made made) asked (λ t i. t i ≡ true) (n + 1) ends' all'
rows_found made m asked n i k ends all ends' all' r e d f is grown =
    let g : Finds made (asked (n + 1)) all all' = rw (e, ← d) f in
    rows_more (is_made made) asked (λ t i. t i ≡ true) n ends all g.ids r ends' all' g.added (grown ∙ ap (λ q. ends ++ q ∷ []) is) (numbered_list made g.ids g.numbered) g.only g.all

-- a part of a list whose elements pass

list_all_take : {X : Type 0} (test : X → Bool) (n : ℕ) (xs : List X) → list_all test xs ≡ true → list_all test (take n xs) ≡ true
list_all_take test zero xs e = refl
list_all_take test (suc n) [] e = refl
list_all_take test (suc n) (x ∷ xs) e =
    let p = and_parts (test x) (list_all test xs) e in
    rw (p.0, list_all_take test n xs p.1) refl

list_all_drop : {X : Type 0} (test : X → Bool) (n : ℕ) (xs : List X) → list_all test xs ≡ true → list_all test (drop n xs) ≡ true
list_all_drop test zero xs e = e
list_all_drop test (suc n) [] e = refl
list_all_drop test (suc n) (x ∷ xs) e = list_all_drop test n xs (and_parts (test x) (list_all test xs) e).1

pub row_passes : {X : Type 0} (test : X → Bool) (ends : List ℕ) (all : List X) (i : ℕ) → list_all test all ≡ true → list_all test (row ends all i) ≡ true
row_passes test ends all i e =
    list_all_take test (get_or ends i 0 - get_or ends (i - 1) 0) (drop (get_or ends (i - 1) 0) all) (list_all_drop test (get_or ends (i - 1) 0) all e)

pub finds_list : (made : ℕ) (ids old new : List ℕ) → new ≡ old ++ ids → list_all (is_made made) ids ≡ true → Finds made (HasAll ids) old new
finds_list made ids old new is good = record {
  ids = ids;
  added = is;
  numbered = list_numbered made ids good;
  only = λ t has. has;
  all = λ t has. has;
}

pub rows_entered : (made m : ℕ) (asked : ℕ → (ℕ → Bool) → Type 0) (n i k : ℕ) (ends : List ℕ) (all : List (ℕ × ℕ)) (ends' : List ℕ) (all' : List (ℕ × ℕ)) (found : List (ℕ × Value))
    → AreRows (λ p. is_made made p.1) asked (λ t p. t p.0 ≡ true → t p.1 ≡ true) n ends all → made ≡ m → i ≡ n + 1 → FindsEntries m (asked i) [] found → all' ≡ all ++ pairs_said found
    → k ≡ length all' → ends' ≡ ends ++ k ∷ [] → AreRows (λ p. is_made made p.1) asked (λ t p. t p.0 ≡ true → t p.1 ≡ true) (n + 1) ends' all'
rows_entered made m asked n i k ends all ends' all' found r e d f' is same grown =
    let f : FindsEntries made (asked (n + 1)) [] found = rw (e, ← d) f' in
    rows_more (λ p. is_made made p.1) asked (λ t p. t p.0 ≡ true → t p.1 ≡ true) n ends all (pairs_said found) r ends' all' is (grown ∙ ap (λ q. ends ++ q ∷ []) same)
    (rw f.added (said_made made f.entries f.numbered))
    (λ t has. rw f.added (said_from f.entries t (f.only t has)))
    (λ t has. f.all t (said_to f.entries t (rw f.added at has)))

-- the whole copy
pub copy_sound : (made : ℕ) (roots : (ℕ → Bool) → Type 0) (edges entries : ℕ → (ℕ → Bool) → Type 0) (ids ends targets stops : List ℕ) (pairs : List (ℕ × ℕ)) → Finds made roots [] ids
    → AreRows (is_made made) edges (λ t i. t i ≡ true) made ends targets → AreRows (λ p. is_made made p.1) entries (λ t p. t p.0 ≡ true → t p.1 ≡ true) made stops pairs
    → IsSound (record { made = made; roots = ids; ends = ends; targets = targets; stops = stops; pairs = pairs })
copy_sound made roots edges entries ids ends targets stops pairs f p q = record {
  rows = p.count;
  entry_rows = q.count;
  roots_made = rw f.added (numbered_list made f.ids f.numbered);
  targets_made = p.passes;
  values_made = q.passes;
}

pub copy_of : (made : ℕ) (roots : (ℕ → Bool) → Type 0) (edges entries : ℕ → (ℕ → Bool) → Type 0) (ids ends targets stops : List ℕ) (pairs : List (ℕ × ℕ)) → Finds made roots [] ids
    → AreRows (is_made made) edges (λ t i. t i ≡ true) made ends targets → AreRows (λ p. is_made made p.1) entries (λ t p. t p.0 ≡ true → t p.1 ≡ true) made stops pairs
    → IsCopyOf made roots edges entries (record { made = made; roots = ids; ends = ends; targets = targets; stops = stops; pairs = pairs })
copy_of made roots edges entries ids ends targets stops pairs f p q = record {
  sound = copy_sound made roots edges entries ids ends targets stops pairs f p q;
  made_same = refl;
  roots_from = λ t has. rw f.added (f.only t has);
  roots_to = λ t has. f.all t (rw f.added at has);
  edges_from = λ i n t has. p.from i n.0 n.1 t has;
  edges_to = λ i n t has. p.to i n.0 n.1 t has;
  entries_from = λ i n t has. q.from i n.0 n.1 t has;
  entries_to = λ i n t has. q.to i n.0 n.1 t has;
}
