-- That every cell stays listed, as slots and lists change.
use Rattle.std.proofs.Common.{◌≡◌, ℕ, suc, zero, ◌+◌, ◌<◌, Bool, true, false, not, ◌&&◌, ◌||◌, nat_eq, ◌==◌, List, [], ◌∷◌, ◌++◌, length, set, get_or, map, filter, take, Option, Some, None, refl, ap, sym, ◌∙◌, arith, eq-eqb, inl, inr, ◌⊎◌, if◌then◌else◌}
use Rattle.std.specs.List.{list_any, slice_get}
use Rattle.std.specs.Option.{option_map_or, option_map, option_and_then}
use Rattle.std.specs.Prelude.{is_none, is_some}
use Rattle.std.specs.Ordering.{nat_cmp, is_eq}
use Rattle.std.specs.BTreeMap.{is_at}
use Rattle.std.proofs.lemmas.Bool.{and_parts}
use Rattle.std.proofs.lemmas.Bool.Decides.{nat_tests}
use Rattle.std.proofs.lemmas.List.Folds.{list_any-append, list_any_more}
use Rattle.es_registry.specs.declared.slot.Registration.{Registration}
use Rattle.es_registry.specs.declared.slot.Slot.{Slot}
use Rattle.es_registry.specs.declared.slot.Slot.TheVariants.{Present, Unregistered, Taken}
use Rattle.std.proofs.lemmas.Bool.{eqb-true}
use Rattle.std.proofs.lemmas.Option.{slice_get-map}
use Rattle.es_registry.specs.Places.{Tokens, Waiting, listed, waits, IsIndexed}
use Rattle.es_value.specs.Ids.{is_in}
use Rattle.es_registry.specs.Slots.{is_this, is_present, is_live, is_awaiting, passes_at, awaits, has_token, is_losing, emptied, unless_among, holds, unregistered_by, changed_if, is_of}
use Rattle.es_registry.specs.Cells.{ListsPresent}

-- what passes one test passes another
pub weaker : (p q : Slot → Bool) → ((s : Slot) → p s ≡ true → q s ≡ true) → (xs : List Slot) (k : ℕ) → passes_at p xs k ≡ true → passes_at q xs k ≡ true
weaker p q implies [] k h = cc
weaker p q implies (x ∷ xs) zero h = implies x h
weaker p q implies (x ∷ xs) (suc k) h = weaker p q implies xs k h

or_parts : (a b : Bool) → (a || b) ≡ false → (a ≡ false) × (b ≡ false)
or_parts true b h = cc
or_parts false b h = (refl, h)

-- a place of a list with one more slot is an old one or the last
pub at_push : (test : Slot → Bool) (xs : List Slot) (s : Slot) (k : ℕ) → passes_at test (xs ++ s ∷ []) k ≡ true → (passes_at test xs k ≡ true) ⊎ ((k ≡ length xs) × (test s ≡ true))
at_push test [] s zero h = inr (refl, h)
at_push test [] s (suc k) h = cc
at_push test (x ∷ xs) s zero h = inl h
at_push test (x ∷ xs) s (suc k) h =
    elim (at_push test xs s k h) [
      | inl old ↦ inl old
      | inr new ↦ inr (let e : k ≡ length xs = new.0 in omega arith, new.1)
    ]

still_at_push : (test : Slot → Bool) (xs : List Slot) (s : Slot) (k : ℕ) → passes_at test xs k ≡ true → passes_at test (xs ++ s ∷ []) k ≡ true
still_at_push test [] s k h = cc
still_at_push test (x ∷ xs) s zero h = h
still_at_push test (x ∷ xs) s (suc k) h = still_at_push test xs s k h

-- one more place is among them, and the old ones still are
pub among_pushed : (ks : List ℕ) (k j : ℕ) → is_in (ks ++ k ∷ []) j ≡ (is_in ks j || (k == j))
among_pushed ks k j = list_any-append (λ i. i == j) ks (k ∷ []) ∙ grind arith

-- another slot at one place, which does not pass
pub at_set : (test : Slot → Bool) (xs : List Slot) (i : ℕ) (y : Slot) (k : ℕ) → test y ≡ false → passes_at test (set xs i y) k ≡ true → (passes_at test xs k ≡ true) × (nat_eq i k ≡ false)
at_set test [] i y k fails h = cc
at_set test (x ∷ xs) zero y zero fails h = let never : true ≡ false = sym h ∙ fails in cc
at_set test (x ∷ xs) zero y (suc k) fails h = (h, grind (arith, nat_tests))
at_set test (x ∷ xs) (suc i) y zero fails h = (h, grind (arith, nat_tests))
at_set test (x ∷ xs) (suc i) y (suc k) fails h =
    let rest = at_set test xs i y k fails h in
    let apart : nat_eq i k ≡ false = rest.1 in
    (rest.0, grind (arith, nat_tests))

pub same_slots : (xs ys : List Slot) → ((k : ℕ) → slice_get xs k ≡ slice_get ys k) → xs ≡ ys
same_slots [] [] same = refl
same_slots [] (y ∷ ys) same = let never : None ≡ Some y = same zero in cc
same_slots (x ∷ xs) [] same = let never : Some x ≡ None = same zero in cc
same_slots (x ∷ xs) (y ∷ ys) same =
    let here : Some x ≡ Some y = same zero in
    let first : x ≡ y = cc in
    let rest : xs ≡ ys = same_slots xs ys (λ k. same (suc k)) in
    ap (λ z. z ∷ xs) first ∙ ap (λ zs. y ∷ zs) rest

pub awaiting_there : (r : ℕ) (xs : List Slot) (k : ℕ) → passes_at (awaits r) xs k ≡ true → passes_at is_awaiting xs k ≡ true
awaiting_there r xs k h = weaker (awaits r) is_awaiting (λ s. of_slot r s) xs k h
  where
    of_slot : (q : ℕ) (s : Slot) → awaits q s ≡ true → is_awaiting s ≡ true
    of_slot q (Present c) e = (and_parts (c.registry == q) (is_none c.target) e).1
    of_slot q Unregistered e = cc
    of_slot q Taken e = cc

-- another slot at one place leaves every other as it is
beside_set : (test : Slot → Bool) (xs : List Slot) (i : ℕ) (y : Slot) (k : ℕ) → nat_eq i k ≡ false → passes_at test (set xs i y) k ≡ passes_at test xs k
beside_set test [] i y k apart = refl
beside_set test (x ∷ xs) zero y zero apart = cc
beside_set test (x ∷ xs) zero y (suc k) apart = refl
beside_set test (x ∷ xs) (suc i) y zero apart = refl
beside_set test (x ∷ xs) (suc i) y (suc k) apart = let less : nat_eq i k ≡ false = grind (arith, nat_tests) in beside_set test xs i y k less

-- what is listed and is no place that was taken out
still_listed : (b c o n : Bool) → n ≡ (if b && c then false else o) → n ≡ true → (o ≡ true) × ((b && c) ≡ false)
still_listed true true o n is h = let never : true ≡ false = sym h ∙ is in cc
still_listed true false o n is h = (sym is ∙ h, refl)
still_listed false c o n is h = (sym is ∙ h, refl)

unlisted_of : (b c o n : Bool) → n ≡ (if b && c then false else o) → c ≡ false → n ≡ o
unlisted_of true true o n is apart = cc
unlisted_of true false o n is apart = is
unlisted_of false c o n is apart = is

other_of : (b c : Bool) → b ≡ true → (b && c) ≡ false → c ≡ false
other_of true c e h = h
other_of false c e h = cc

pub taken_stays_indexed : (xs : List Slot) (tokens : Tokens) (old new : Waiting) (i : ℕ) → IsIndexed xs tokens old → ((q j : ℕ) → waits new q j ≡ (if passes_at (is_of q) xs j && nat_eq i j then false else waits old q j)) → IsIndexed (set xs i Taken) tokens new
taken_stays_indexed xs tokens old new i indexed after = record {
  by_token = λ q t k h. indexed.by_token q t k (at_set (has_token q t) xs i Taken k refl h).0;
  by_registry = λ q k h.
      let still = at_set (awaits q) xs i Taken k refl h in
      unlisted_of (passes_at (is_of q) xs k) (nat_eq i k) (waits old q k) (waits new q k) (after q k) still.1 ∙ indexed.by_registry q k still.0;
  there = λ q k h.
      let still = still_listed (passes_at (is_of q) xs k) (nat_eq i k) (waits old q k) (waits new q k) (after q k) h in
      let here = indexed.there q k still.0 in
      beside_set (is_of q) xs i Taken k (other_of (passes_at (is_of q) xs k) (nat_eq i k) here still.1) ∙ here;
}

-- Cells with a token

none_at : (test : Slot → Bool) (xs : List Slot) → list_any test xs ≡ false → (k : ℕ) → passes_at test xs k ≡ false
none_at test [] none k = refl
none_at test (x ∷ xs) none zero = (or_parts (test x) (list_any test xs) none).0
none_at test (x ∷ xs) none (suc k) = none_at test xs (or_parts (test x) (list_any test xs) none).1 k

any_at : (test : Slot → Bool) (xs : List Slot) → list_any test xs ≡ true → (k : ℕ) × (passes_at test xs k ≡ true)
any_at test [] some = cc
any_at test (x ∷ xs) some = by_head (λ h. any_at test xs h) (test x) refl
  where
    by_head : (list_any test xs ≡ true → (k : ℕ) × (passes_at test xs k ≡ true)) → (b : Bool) → test x ≡ b → (k : ℕ) × (passes_at test (x ∷ xs) k ≡ true)
    by_head rest true e = (zero, e)
    by_head rest false e = let there = rest (rw e at some) in (suc there.0, there.1)

any_listed : (f : ℕ → Bool) (ks : List ℕ) (k : ℕ) → is_in ks k ≡ true → f k ≡ true → list_any f ks ≡ true
any_listed f [] k here passes = cc
any_listed f (j ∷ ks) k here passes = by_head (λ h. any_listed f ks k h passes) (j == k) refl
  where
    by_head : (is_in ks k ≡ true → list_any f ks ≡ true) → (b : Bool) → (j == k) ≡ b → list_any f (j ∷ ks) ≡ true
    by_head rest true e = let same : j ≡ k = eqb-true j k e in rw (same, passes) refl
    by_head rest false e = let there : list_any f ks ≡ true = rest (rw e at here) in grind (arith, there)

none_listed : (f : ℕ → Bool) (ks : List ℕ) → ((k : ℕ) → f k ≡ false) → list_any f ks ≡ false
none_listed f [] none = refl
none_listed f (k ∷ ks) none = rw (none k) (none_listed f ks none)

-- a cell passes just where one at a listed place does
pub any_at_listed : (test : Slot → Bool) (xs : List Slot) (ks : List ℕ) → ((k : ℕ) → passes_at test xs k ≡ true → is_in ks k ≡ true) → list_any (passes_at test xs) ks ≡ list_any test xs
any_at_listed test xs ks listed = by_any (list_any test xs) refl
  where
    by_any : (b : Bool) → list_any test xs ≡ b → list_any (passes_at test xs) ks ≡ b
    by_any true e = let there = any_at test xs e in any_listed (passes_at test xs) ks there.0 (listed there.0 there.1) there.1
    by_any false e = none_listed (passes_at test xs) ks (none_at test xs e)

-- slots changed at all listed places are all slots changed, where what passes no test stays
pub all_changed : (f : Slot → Slot) (test : Slot → Bool) → ((s : Slot) → test s ≡ false → f s ≡ s) → (xs ys : List Slot) (ks : List ℕ) → ((k : ℕ) → passes_at test xs k ≡ true → is_in ks k ≡ true) → ((k : ℕ) → slice_get ys k ≡ option_map (changed_if f (is_in ks k)) (slice_get xs k)) → ys ≡ map f xs
all_changed f test stays xs ys ks listed after = same_slots ys (map f xs) (λ k. after k ∙ at_place_of (slice_get xs k) (is_in ks k) (listed k) ∙ sym (slice_get-map f xs k))
  where
    at_place_of : (o : Option Slot) (b : Bool) → (option_map_or test o false ≡ true → b ≡ true) → option_map (changed_if f b) o ≡ option_map f o
    at_place_of None b h = refl
    at_place_of (Some s) true h = refl
    at_place_of (Some s) false h = ap Some (untouched (test s) refl)
      where
        untouched : (d : Bool) → test s ≡ d → s ≡ f s
        untouched true e = let never : false ≡ true = h e in cc
        untouched false e = sym (stays s e)

pub none_unregistered : (r t : ℕ) (s : Slot) → has_token r t s ≡ false → unregistered_by r t s ≡ s
none_unregistered r t s e = rw e refl

pub none_emptied : (ids : List ℕ) (s : Slot) → is_present s ≡ false → emptied ids s ≡ s
none_emptied ids (Present c) e = cc
none_emptied ids Unregistered e = refl
none_emptied ids Taken e = refl

-- Slots at one more place changed
twice : (f : Slot → Slot) → ((s : Slot) → f (f s) ≡ f s) → (a b : Bool) (o : Option Slot) → option_map (changed_if f b) (option_map (changed_if f a) o) ≡ option_map (changed_if f (a || b)) o
twice f again a b None = refl
twice f again true true (Some s) = ap Some (again s)
twice f again true false (Some s) = refl
twice f again false b (Some s) = refl

pub changed_more : (f : Slot → Slot) → ((s : Slot) → f (f s) ≡ f s) → (old now new : List Slot) (ks : List ℕ) (i d : ℕ) → i < length ks
    → ((k : ℕ) → slice_get now k ≡ option_map (changed_if f (is_in (take i ks) k)) (slice_get old k))
    → ((k : ℕ) → slice_get new k ≡ option_map (changed_if f (get_or ks i d == k)) (slice_get now k))
    → (k : ℕ) → slice_get new k ≡ option_map (changed_if f (is_in (take (i + 1) ks) k)) (slice_get old k)
changed_more f again old now new ks i d lt so_far step k =
    step k ∙ ap (option_map (changed_if f (get_or ks i d == k))) (so_far k)
    ∙ twice f again (is_in (take i ks) k) (get_or ks i d == k) (slice_get old k)
    ∙ ap (λ b. option_map (changed_if f b) (slice_get old k)) (sym (list_any_more (λ j. j == k) ks i d lt))

pub unregistered_again : (r t : ℕ) (s : Slot) → unregistered_by r t (unregistered_by r t s) ≡ unregistered_by r t s
unregistered_again r t s = by_test (has_token r t s) refl
  where
    by_test : (d : Bool) → has_token r t s ≡ d → unregistered_by r t (unregistered_by r t s) ≡ unregistered_by r t s
    by_test true e = rw (e) refl
    by_test false e = rw (e, e) refl

pub emptied_again : (ids : List ℕ) (s : Slot) → emptied ids (emptied ids s) ≡ emptied ids s
emptied_again ids (Present c) = ap (λ o. Present (record c { target = o })) (of_target c.target)
  where
    of_target : (o : Option ℕ) → option_and_then (unless_among ids) (option_and_then (unless_among ids) o) ≡ option_and_then (unless_among ids) o
    of_target None = refl
    of_target (Some t) = by_test (is_in ids t) refl
      where
        by_test : (b : Bool) → is_in ids t ≡ b → option_and_then (unless_among ids) (unless_among ids t) ≡ unless_among ids t
        by_test true e = rw e refl
        by_test false e = rw (e, e) refl
emptied_again ids Unregistered = refl
emptied_again ids Taken = refl

-- Cells with a token taken out
pub has_no_more : (r t : ℕ) (b : Bool) (old : Option Slot) → option_map_or (has_token r t) (option_map (changed_if (unregistered_by r t) b) old) false ≡ (option_map_or (has_token r t) old false && not b)
has_no_more r t b None = refl
has_no_more r t false (Some s) = either (has_token r t s)
  where
    either : (d : Bool) → d ≡ (d && true)
    either true = refl
    either false = refl
has_no_more r t true (Some s) = by_test (has_token r t s) refl
  where
    by_test : (d : Bool) → has_token r t s ≡ d → has_token r t (unregistered_by r t s) ≡ (has_token r t s && false)
    by_test true e = rw e refl
    by_test false e = rw e e

one_more : (h i e p o : Bool) → (if (h && not i) && (e && p) then false else if h && (e && i) then false else o) ≡ (if h && (e && (i || p)) then false else o)
one_more false i e p o = refl
one_more true true true p o = refl
one_more true true false p o = refl
one_more true false true true o = refl
one_more true false true false o = refl
one_more true false false p o = refl

pub waits_more : (r t : ℕ) (xs ys : List Slot) (old now new : Waiting) (ks : List ℕ) (i d : ℕ) → i < length ks
    → ((k : ℕ) → slice_get ys k ≡ option_map (changed_if (unregistered_by r t) (is_in (take i ks) k)) (slice_get xs k))
    → ((q k : ℕ) → waits now q k ≡ (if passes_at (has_token r t) xs k && (nat_eq r q && is_in (take i ks) k) then false else waits old q k))
    → ((q k : ℕ) → waits new q k ≡ (if passes_at (has_token r t) ys k && (nat_eq r q && get_or ks i d == k) then false else waits now q k))
    → (q k : ℕ) → waits new q k ≡ (if passes_at (has_token r t) xs k && (nat_eq r q && is_in (take (i + 1) ks) k) then false else waits old q k)
waits_more r t xs ys old now new ks i d lt slots so_far step q k =
    let left : passes_at (has_token r t) ys k ≡ (passes_at (has_token r t) xs k && not (is_in (take i ks) k)) = ap (λ o. option_map_or (has_token r t) o false) (slots k) ∙ has_no_more r t (is_in (take i ks) k) (slice_get xs k) in
    step q k
    ∙ ap (λ b. if b && (nat_eq r q && get_or ks i d == k) then false else waits now q k) left
    ∙ ap (λ b. if (passes_at (has_token r t) xs k && not (is_in (take i ks) k)) && (nat_eq r q && get_or ks i d == k) then false else b) (so_far q k)
    ∙ one_more (passes_at (has_token r t) xs k) (is_in (take i ks) k) (nat_eq r q) (get_or ks i d == k) (waits old q k)
    ∙ ap (λ b. if passes_at (has_token r t) xs k && (nat_eq r q && b) then false else waits old q k) (sym (list_any_more (λ j. j == k) ks i d lt))

one_registry : (r t q : ℕ) (xs : List Slot) (k : ℕ) → passes_at (has_token r t) xs k ≡ true → passes_at (is_of q) xs k ≡ true → nat_eq r q ≡ true
one_registry r t q [] k h g = cc
one_registry r t q (x ∷ xs) (suc k) h g = one_registry r t q xs k h g
one_registry r t q (x ∷ xs) zero h g = of_slot x h g
  where
    of_slot : (s : Slot) → has_token r t s ≡ true → is_of q s ≡ true → nat_eq r q ≡ true
    of_slot (Present c) e f =
        let a : c.registry ≡ r = eqb-true c.registry r (and_parts (c.registry == r) (is_this t c.token) e).0 in
        let b : c.registry ≡ q = eqb-true c.registry q f in
        grind (arith, nat_tests, a, b)
    of_slot Unregistered e f = cc
    of_slot Taken e f = cc

not_unregistered : (r t : ℕ) (test : Slot → Bool) (xs : List Slot) (k : ℕ) → passes_at (has_token r t) xs k ≡ false → passes_at test xs k ≡ true → passes_at test (map (unregistered_by r t) xs) k ≡ true
not_unregistered r t test [] k none h = cc
not_unregistered r t test (x ∷ xs) zero none h = rw none h
not_unregistered r t test (x ∷ xs) (suc k) none h = not_unregistered r t test xs k none h

at_unregistered : (r t : ℕ) (test : Slot → Bool) (xs : List Slot) (k : ℕ) → test Unregistered ≡ false → passes_at test (map (unregistered_by r t) xs) k ≡ true → (passes_at test xs k ≡ true) × (passes_at (has_token r t) xs k ≡ false)
at_unregistered r t test [] k fails h = cc
at_unregistered r t test (x ∷ xs) zero fails h = by_test (has_token r t x) refl
  where
    by_test : (d : Bool) → has_token r t x ≡ d → (test x ≡ true) × (has_token r t x ≡ false)
    by_test true e = let never : true ≡ false = sym (rw e at h) ∙ fails in cc
    by_test false e = (rw e at h, e)
at_unregistered r t test (x ∷ xs) (suc k) fails h = at_unregistered r t test xs k fails h

same_keys : (r t q u : ℕ) (xs : List Slot) (k : ℕ) → (nat_eq r q && nat_eq t u) ≡ true → passes_at (has_token q u) xs k ≡ true → passes_at (has_token r t) xs k ≡ true
same_keys r t q u xs k e h =
    let parts = and_parts (nat_eq r q) (nat_eq t u) e in
    let a : r ≡ q = eqb-true r q parts.0 in
    let b : t ≡ u = eqb-true t u parts.1 in
    ap (λ n. passes_at (has_token n t) xs k) a ∙ ap (λ n. passes_at (has_token q n) xs k) b ∙ h

pub unregistered_stays_indexed : (r t : ℕ) (xs : List Slot) (tokens tokens' : Tokens) (old new : Waiting) → IsIndexed xs tokens old
    → ((q u : ℕ) → listed tokens' q u ≡ (if nat_eq r q && nat_eq t u then [] else listed tokens q u))
    → (ks : List ℕ) → ((k : ℕ) → passes_at (has_token r t) xs k ≡ true → is_in ks k ≡ true)
    → ((q k : ℕ) → waits new q k ≡ (if passes_at (has_token r t) xs k && (nat_eq r q && is_in ks k) then false else waits old q k))
    → IsIndexed (map (unregistered_by r t) xs) tokens' new
unregistered_stays_indexed r t xs tokens tokens' old new indexed taken ks all_listed waited = record {
  by_token = λ q u k h.
      let was = at_unregistered r t (has_token q u) xs k refl h in
      by_key q u k was (nat_eq r q && nat_eq t u) refl;
  by_registry = λ q k h.
      let was = at_unregistered r t (awaits q) xs k refl h in
      let same : waits new q k ≡ waits old q k = rw was.1 at (waited q k) in
      same ∙ indexed.by_registry q k was.0;
  there = λ q k h. by_token_at q k h (passes_at (has_token r t) xs k) refl;
}
  where
    by_token_at : (q k : ℕ) → waits new q k ≡ true → (b : Bool) → passes_at (has_token r t) xs k ≡ b → passes_at (is_of q) (map (unregistered_by r t) xs) k ≡ true
    by_token_at q k h false e =
        let same : waits new q k ≡ waits old q k = rw e at (waited q k) in
        not_unregistered r t (is_of q) xs k e (indexed.there q k (sym same ∙ h))
    by_token_at q k h true e =
        let now : waits new q k ≡ (if nat_eq r q && is_in ks k then false else waits old q k) = rw e at (waited q k) in
        let still = still_listed (nat_eq r q) (is_in ks k) (waits old q k) (waits new q k) now h in
        let here : nat_eq r q ≡ true = one_registry r t q xs k e (indexed.there q k still.0) in
        let never : true ≡ false = sym (all_listed k e) ∙ other_of (nat_eq r q) (is_in ks k) here still.1 in
        cc

    by_key : (q u k : ℕ) → (passes_at (has_token q u) xs k ≡ true) × (passes_at (has_token r t) xs k ≡ false) → (b : Bool) → (nat_eq r q && nat_eq t u) ≡ b → is_in (listed tokens' q u) k ≡ true
    by_key q u k was true e = let never : true ≡ false = sym (same_keys r t q u xs k e was.0) ∙ was.1 in cc
    by_key q u k was false e = ap (λ ks. is_in ks k) (rw e at (taken q u)) ∙ indexed.by_token q u k was.0

-- Two tests of membership
pub among_is_contains : (ks : List ℕ) (r : ℕ) → is_in ks r ≡ list_any (is_at (nat_cmp r)) ks
among_is_contains [] r = refl
among_is_contains (k ∷ ks) r =
    let here : (k == r) ≡ is_eq (nat_cmp r k) = same_test k r in
    let rest : is_in ks r ≡ list_any (is_at (nat_cmp r)) ks = among_is_contains ks r in
    rw (here, rest) refl
  where
    same_test : (a b : ℕ) → (a == b) ≡ is_eq (nat_cmp b a)
    same_test a b = grind (arith, nat_tests)

-- One more registration
new_token : (r t : ℕ) (c : Registration) → has_token r t (Present c) ≡ true → (c.registry ≡ r) × (c.token ≡ Some t)
new_token r t c h =
    let parts = and_parts (c.registry == r) (is_this t c.token) h in
    (eqb-true c.registry r parts.0, this t c.token parts.1)
  where
    this : (u : ℕ) (o : Option ℕ) → is_this u o ≡ true → o ≡ Some u
    this u None e = cc
    this u (Some v) e = ap Some (eqb-true v u e)

pub registered_stays_indexed : (xs : List Slot) (c : Registration) (tokens tokens' : Tokens) (waiting : Waiting) → is_live (Present c) ≡ true → IsIndexed xs tokens waiting
    → ((r t k : ℕ) → is_in (listed tokens r t) k ≡ true → is_in (listed tokens' r t) k ≡ true)
    → ((t : ℕ) → c.token ≡ Some t → is_in (listed tokens' c.registry t) (length xs) ≡ true)
    → IsIndexed (xs ++ Present c ∷ []) tokens' waiting
registered_stays_indexed xs c tokens tokens' waiting live indexed kept new = record {
  by_token = λ r t k h. elim (at_push (has_token r t) xs (Present c) k h) [
    | inl old ↦ kept r t k (indexed.by_token r t k old)
    | inr last ↦
        let is = new_token r t c last.1 in
        ap (λ q. is_in (listed tokens' q t) k) (sym is.0) ∙ ap (λ j. is_in (listed tokens' c.registry t) j) last.0 ∙ new t is.1
  ];
  by_registry = λ r k h. elim (at_push (awaits r) xs (Present c) k h) [
    | inl old ↦ indexed.by_registry r k old
    | inr last ↦ let parts = and_parts (c.registry == r) (is_none c.target) last.1 in absurd (not_both c.target live parts.1)
  ];
  there = λ r k h. still_at_push (is_of r) xs (Present c) k (indexed.there r k h);
}
  where
    not_both : (o : Option ℕ) → is_some o ≡ true → is_none o ≡ true → ⊥
    not_both None a b = cc
    not_both (Some v) a b = cc

-- What is listed of cells that are there
of_present : (test : Slot → Bool) → ((s : Slot) → test s ≡ true → is_present s ≡ true) → (xs : List Slot) (ks : List ℕ) → ListsPresent ks xs → (k : ℕ) → passes_at test xs k ≡ true → is_in ks k ≡ true
of_present test implies xs ks listed k h = listed k (weaker test is_present implies xs k h)

losing_present : (ids : List ℕ) (r : ℕ) (s : Slot) → is_losing ids r s ≡ true → is_present s ≡ true
losing_present ids r (Present c) h = refl
losing_present ids r Unregistered h = cc
losing_present ids r Taken h = cc

holds_present : (i : ℕ) (s : Slot) → holds i s ≡ true → is_present s ≡ true
holds_present i (Present c) h = refl
holds_present i Unregistered h = cc
holds_present i Taken h = cc

pub losing_listed : (ids : List ℕ) (r : ℕ) (xs : List Slot) (ks : List ℕ) → ListsPresent ks xs → (k : ℕ) → passes_at (is_losing ids r) xs k ≡ true → is_in ks k ≡ true
losing_listed ids r xs ks listed k h = of_present (is_losing ids r) (losing_present ids r) xs ks listed k h

pub any_losing : (ids : List ℕ) (r : ℕ) (xs : List Slot) (ks : List ℕ) → ListsPresent ks xs → list_any (passes_at (is_losing ids r) xs) ks ≡ list_any (is_losing ids r) xs
any_losing ids r xs ks listed = any_at_listed (is_losing ids r) xs ks (losing_listed ids r xs ks listed)

pub any_holds : (i : ℕ) (xs : List Slot) (ks : List ℕ) → ListsPresent ks xs → list_any (passes_at (holds i) xs) ks ≡ list_any (holds i) xs
any_holds i xs ks listed = any_at_listed (holds i) xs ks (of_present (holds i) (holds_present i) xs ks listed)

pub pushed_listed : (xs : List Slot) (s : Slot) (ks : List ℕ) → ListsPresent ks xs → ListsPresent (ks ++ length xs ∷ []) (xs ++ s ∷ [])
pushed_listed xs s ks listed k h = among_pushed ks (length xs) k ∙ elim (at_push is_present xs s k h) [
  | inl old ↦ rw (listed k old) refl
  | inr last ↦ let here : k ≡ length xs = last.0 in let same : (length xs == k) ≡ true = eq-eqb (length xs) k (sym here) in rw same (either (is_in ks k))
]
  where
    either : (b : Bool) → (b || true) ≡ true
    either true = refl
    either false = refl

pub set_listed : (xs : List Slot) (i : ℕ) (y : Slot) (ks : List ℕ) → is_present y ≡ false → ListsPresent ks xs → ListsPresent ks (set xs i y)
set_listed xs i y ks gone listed k h = listed k (at_set is_present xs i y k gone h).0

kept_in : (p : ℕ → Bool) (ks : List ℕ) (k : ℕ) → p k ≡ true → is_in ks k ≡ true → is_in (filter p ks) k ≡ true
kept_in p [] k passes here = cc
kept_in p (j ∷ ks) k passes here = by_tests (λ h. kept_in p ks k passes h) (p j) (j == k) refl refl
  where
    by_tests : (is_in ks k ≡ true → is_in (filter p ks) k ≡ true) → (b d : Bool) → p j ≡ b → (j == k) ≡ d → is_in (filter p (j ∷ ks)) k ≡ true
    by_tests rest true true e f = rw e (rw f refl)
    by_tests rest true false e f = rw e (rw f (rest (rw f at here)))
    by_tests rest false true e f = let same : j ≡ k = eqb-true j k f in let never : true ≡ false = sym passes ∙ ap p (sym same) ∙ e in cc
    by_tests rest false false e f = rw e (rest (rw f at here))

pub emptied_listed : (ids : List ℕ) (xs : List Slot) (ks : List ℕ) → ListsPresent ks xs → ListsPresent (filter (passes_at is_present (map (emptied ids) xs)) ks) (map (emptied ids) xs)
emptied_listed ids xs ks listed k h = kept_in (passes_at is_present (map (emptied ids) xs)) ks k h (listed k (was xs k h))
  where
    of_slot : (s : Slot) → is_present (emptied ids s) ≡ true → is_present s ≡ true
    of_slot (Present c) e = refl
    of_slot Unregistered e = e
    of_slot Taken e = e

    was : (zs : List Slot) (j : ℕ) → passes_at is_present (map (emptied ids) zs) j ≡ true → passes_at is_present zs j ≡ true
    was [] j e = e
    was (z ∷ zs) zero e = of_slot z e
    was (z ∷ zs) (suc j) e = was zs j e
