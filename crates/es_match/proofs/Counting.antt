-- Serials by how often each is there.
use Rattle.std.proofs.Common.{◌≡◌, ℕ, suc, zero, ◌+◌, ◌-◌, ◌<◌, ◌≤◌, ◌==◌, Bool, true, false, true≢false, cond, List, [], ◌∷◌, ◌++◌, length, take, drop, slice_index_or, Option, Some, None, unwrap_or, nat_eq, refl, sym, ◌∙◌, ap, arith, eqb-true, if◌then◌else◌}
use Rattle.std.specs.Option.{option_map}
use Rattle.std.proofs.lemmas.List.{take_more}
use Rattle.es_match.specs.Meets.{strike}
use Rattle.std.specs.HashMap.{get}
use Rattle.es_match.specs.Deeds.{Deed, Spends}
use Rattle.es_match.specs.Meets.{spends}
use Rattle.es_match.specs.LedgerPass.{Map}
use Rattle.es_match.specs.declared.deed.Deed.{Deed as DeedHeld}
use Rattle.es_match.specs.declared.deed.Deed.TheVariants.{Spend}
use Rattle.es_match.specs.DeedsShown.{shown, all_shown}
use Rattle.std.proofs.Math.Seq.{drop-cons}
use Rattle.es_match.specs.Counts.{count, count_in, IsLeft, IsSpending, Struck}
use Rattle.es_match.specs.declared.spending.Left.{Left}

abbrev pub one : Bool → ℕ
one b = if b then 1 else 0

pub few : (s : ℕ) (ns : List ℕ) → count s ns ≤ length ns
few s [] = omega arith
few s (n ∷ ns) = case-of (n == s) (few s ns)
  where
    case-of : (b : Bool) → count s ns ≤ length ns → (if b then 1 else 0) + count s ns ≤ suc (length ns)
    case-of true i = omega arith
    case-of false i = omega arith

count_append : (s : ℕ) (ns ms : List ℕ) → count s (ns ++ ms) ≡ count s ns + count s ms
count_append s [] ms = omega arith
count_append s (n ∷ ns) ms = let i = count_append s ns ms in omega (arith, i)

-- one more of the list
pub count_more : (s : ℕ) (ns : List ℕ) (i : ℕ) → i < length ns
    → count s (take (i + 1) ns) ≡ count s (take i ns) + one (slice_index_or ns i 0 == s)
count_more s ns i h =
    let x : ℕ = slice_index_or ns i 0 in
    let a = ap (count s) (take_more ns i 0 h) ∙ count_append s (take i ns) (x ∷ []) in
    let z : one (x == s) + 0 ≡ one (x == s) = omega arith in
    a ∙ ap (λ k. count s (take i ns) + k) z

-- a table in which one serial's count changed
pub put_count : (old new : ℕ → Option ℕ) (s n : ℕ) → ((q : ℕ) → new q ≡ cond (nat_eq s q) (Some n) (old q)) → (q : ℕ)
    → unwrap_or (new q) 0 ≡ (if s == q then n else unwrap_or (old q) 0)
put_count old new s n updates q = case-of (s == q) refl
  where
    case-of : (b : Bool) → (s == q) ≡ b → unwrap_or (new q) 0 ≡ (if s == q then n else unwrap_or (old q) 0)
    case-of true is = ap (λ o. unwrap_or o 0) (rw is at (updates q)) ∙ rw is refl
    case-of false is = ap (λ o. unwrap_or o 0) (rw is at (updates q)) ∙ rw is refl

-- where the serial is not there, it can't be struck off
pub none_struck : (s : ℕ) (ns : List ℕ) → count s ns ≡ 0 → strike s ns ≡ None
none_struck s [] e = refl
none_struck s (n ∷ ns) e = case-of (n == s) (none_struck s ns) e
  where
    case-of : (b : Bool) → (count s ns ≡ 0 → strike s ns ≡ None) → (if b then 1 else 0) + count s ns ≡ 0
        → (if b then Some ns else option_map (λ ms. n ∷ ms) (strike s ns)) ≡ None
    case-of true i e = absurd (omega arith)
    case-of false i e = ap (λ o. option_map (λ ms. n ∷ ms) o) (i (omega arith))

pub record Off (s : ℕ) (ns : List ℕ) : Type 0 where
  pub left : List ℕ
  pub struck : strike s ns ≡ Some left
  pub size : length ns ≡ length left + 1
  pub counts : (q : ℕ) → count q ns ≡ count q left + one (s == q)

swap_one : (n s q : ℕ) → (n == s) ≡ true → one (n == q) ≡ one (s == q)
swap_one n s q e = ap (λ m. one (m == q)) (eqb-true n s e)

-- where it is there, it can
pub some_struck : (s : ℕ) (ns : List ℕ) → 0 < count s ns → Off s ns
some_struck s [] h = absurd (omega arith)
some_struck s (n ∷ ns) h = case-of (n == s) refl (some_struck s ns) h
  where
    case-of : (b : Bool) → (n == s) ≡ b → (0 < count s ns → Off s ns) → 0 < (if b then 1 else 0) + count s ns → Off s (n ∷ ns)
    case-of true is i h = record {
      left = ns;
      struck = rw is refl;
      size = omega arith;
      counts = λ q. let w = swap_one n s q is in omega (arith, w);
    }
    case-of false is i h =
        let o : Off s ns = i (omega arith) in
        record {
          left = n ∷ o.left;
          struck = rw is (ap (λ x. option_map (λ ms. n ∷ ms) x) o.struck);
          size = let z = o.size in omega (arith, z);
          counts = λ q. let c = o.counts q in omega (arith, c);
        }

-- Counting a list

taken_few : (xs : List ℕ) (i : ℕ) → length (take i xs) ≤ i
taken_few [] zero = omega arith
taken_few [] (suc i) = omega arith
taken_few (x ∷ xs) zero = omega arith
taken_few (x ∷ xs) (suc i) = let h = taken_few xs i in omega (arith, h)

pub of_few : (m : Map ℕ ℕ) (xs : List ℕ) (i x n : ℕ) → ((q : ℕ) → count_in m q ≡ count q (take i xs)) → n ≡ count_in m x
    → i < length xs → n < length xs
of_few m xs i x n said is h =
    let a = few x (take i xs) in
    let b = taken_few xs i in
    let c = said x in omega (arith, a, b, c)

put_more : (b : Bool) (x q n k : ℕ) (ys : List ℕ) → (x == q) ≡ b → n ≡ count x ys → k ≡ count q ys
    → (if b then n + 1 else k) ≡ count q ys + one b
put_more true x q n k ys is here there = let w = ap (λ z. count z ys) (eqb-true x q is) in omega (arith, w)
put_more false x q n k ys is here there = omega arith

pub of_more : (m k : Map ℕ ℕ) (xs : List ℕ) (i n : ℕ) → ((q : ℕ) → count_in m q ≡ count q (take i xs))
    → n ≡ count_in m (slice_index_or xs i 0) → i < length xs
    → ((q : ℕ) → get nat_eq k q ≡ cond (nat_eq (slice_index_or xs i 0) q) (Some (n + 1)) (get nat_eq m q)) → (q : ℕ)
    → count_in k q ≡ count q (take (i + 1) xs)
of_more m k xs i n said is h updates q =
    let x : ℕ = slice_index_or xs i 0 in
    put_count (get nat_eq m) (get nat_eq k) x (n + 1) updates q
    ∙ put_more (x == q) x q n (count_in m q) (take i xs) refl (is ∙ said x) (said q)
    ∙ sym (count_more q xs i h)

-- Striking one off

less : (b : Bool) (s q n k : ℕ) (ns ms : List ℕ) → (s == q) ≡ b → n ≡ count s ns → k ≡ count q ns
    → count q ns ≡ count q ms + one b → (if b then n - 1 else k) ≡ count q ms
less true s q n k ns ms is here there off = let w = ap (λ z. count z ns) (eqb-true s q is) in omega (arith, w, off)
less false s q n k ns ms is here there off = omega (arith, off)

pub off_counts : (m k : Map ℕ ℕ) (s n : ℕ) (ns ms : List ℕ) → ((q : ℕ) → count_in m q ≡ count q ns) → n ≡ count_in m s
    → ((q : ℕ) → get nat_eq k q ≡ cond (nat_eq s q) (Some (n - 1)) (get nat_eq m q))
    → ((q : ℕ) → count q ns ≡ count q ms + one (s == q))
    → (q : ℕ) → count_in k q ≡ count q ms
off_counts m k s n ns ms said is updates off q =
    put_count (get nat_eq m) (get nat_eq k) s (n - 1) updates q
    ∙ less (s == q) s q n (count_in m q) ns ms refl (is ∙ said s) (said q) (off q)

pub spends_step : (closing : Bool) (ns ms : List ℕ) (s : ℕ) (es : List Deed) → strike s ns ≡ Some ms
    → spends closing ns (Spends s ∷ es) ≡ spends closing ms es
spends_step closing [] ms s es e = absurd (cc)
spends_step closing (n ∷ ns) ms s es e = rw e refl

-- One deed further

next_deed : (xs : List DeedHeld) (i s : ℕ) (d : DeedHeld) → slice_index_or xs i d ≡ Spend s → i < length xs
    → all_shown (drop i xs) ≡ Spends s ∷ all_shown (drop (i + 1) xs)
next_deed xs i s d is h =
    let o : i + 1 ≡ suc i = omega arith in
    rw o (ap all_shown (drop-cons xs i d h) ∙ ap (λ x. shown x ∷ all_shown (drop (suc i) xs)) is)

pub go_on : (closing : Bool) (ns : List ℕ) (ds : List Deed) (xs : List DeedHeld) (i s : ℕ) (d : DeedHeld) (l m : Left) (b : Bool)
    → slice_index_or xs i d ≡ Spend s → i < length xs → IsSpending closing ns ds l (all_shown (drop i xs))
    → ((ms : List ℕ) → IsLeft ms l → Struck b ms s m) → b ≡ true → IsSpending closing ns ds m (all_shown (drop (i + 1) xs))
go_on closing ns ds xs i s d l m true is h far struck there =
    let off = struck far.serials far.left in
    record {
      serials = off.0;
      left = off.2;
      same = far.same ∙ ap (spends closing far.serials) (next_deed xs i s d is h)
          ∙ spends_step closing far.serials off.0 s (all_shown (drop (i + 1) xs)) off.1;
    }
go_on closing ns ds xs i s d l m false is h far struck there = absurd (true≢false (sym there))
