-- A part of the list is followed, and what lasts meanwhile.
use Rattle.std.proofs.Common.{ℕ, ◌≡◌, ◌+◌, ◌-◌, ◌<◌, ◌≤◌, Bool, true, false, zero, suc, arith, sym, ◌∙◌, ap, refl, List, [], ◌∷◌, ◌++◌, length, take, drop, get_or-drop, length-drop}
use Rattle.std.specs.List.{AllByRecursion, list_all, flat_map}
use Rattle.std.proofs.Math.ListN.{get_or}
use Rattle.std.proofs.lemmas.Bool.{and_parts}
use Rattle.std.proofs.lemmas.List.{append_assoc, take-append-le, take-append-drop, length-append, take_more, take_all}
use Rattle.es_value.specs.declared.value.Value.TheVariants.{Object}
use Rattle.es_mark.specs.Graph.{HasAll, HasValues}
use Rattle.es_mark.specs.Made.{is_made}
use Rattle.es_mark.specs.Marks.{is_marked}
use Rattle.es_mark.specs.Listed.{IsListed, IsAdded}
use Rattle.es_mark.specs.Steps.{HasBoth, IsStep, Obeys}
use Rattle.es_mark.specs.Waiting.{waiting_for, WaitingView, Waits}
use Rattle.es_mark.proofs.Lists.{all_mono, all_both, all_join, all_front, all_back}
use Rattle.es_mark.proofs.Listed.{added_nothing, added_more}
use Rattle.es_mark.proofs.Following.{made_fit}
use Rattle.es_mark.proofs.Stepping.{step_none, step_added, step_as, step_both, step_more, step_entered, step_known, step_waits}
use Rattle.es_mark.proofs.Whole.{Marking}
use Rattle.es_parmark.specs.Pairs.{HasPairs}
use Rattle.es_parmark.specs.Gathered.{IsPart, OfEach, AreFollowed}
use Rattle.es_parmark.proofs.Tests.{list_has, made_fits, seconds_fit}
use Rattle.es_parmark.proofs.PairLists.{values_from, values_to}
use Rattle.es_parmark.proofs.Gathering.{flat_map_push, all_flat_at}
use Rattle.es_parmark.proofs.Rows.{part_front}

-- one pair

as_pair : (p : ℕ × ℕ) (a : List ℕ) (u : WaitingView) (b : List ℕ) (v : WaitingView) → IsStep (HasValues ((p.0, Object p.1) ∷ [])) a u b v → IsStep (HasPairs (p ∷ [])) a u b v
as_pair p a u b v s = step_as (HasValues ((p.0, Object p.1) ∷ [])) (HasPairs (p ∷ [])) a u b v s (λ t. values_from (p ∷ []) t) (λ t. values_to (p ∷ []) t)

pub pair_entered : (p : ℕ × ℕ) (marks : List Bool) (old new : List ℕ) (waiting : WaitingView) → IsListed marks old → is_marked marks p.0 ≡ true → IsAdded (p.1 ∷ []) old new
    → IsStep (HasPairs (p ∷ [])) old waiting new waiting
pair_entered p marks old new waiting listed map added = as_pair p old waiting new waiting (step_entered (p.0, Object p.1) p.1 marks old new waiting refl listed map added)

pub pair_known : (p : ℕ × ℕ) (marks : List Bool) (order : List ℕ) (waiting : WaitingView) → IsListed marks order → is_marked marks p.1 ≡ true → IsStep (HasPairs (p ∷ [])) order waiting order waiting
pair_known p marks order waiting listed here = as_pair p order waiting order waiting (step_known (p.0, Object p.1) p.1 marks order waiting refl listed here)

pub pair_waits : (p : ℕ × ℕ) (marks : List Bool) (order : List ℕ) (waited waiting : WaitingView) → IsListed marks order → is_marked marks p.0 ≡ false → Waits waited p.0 p.1 waiting
    → IsStep (HasPairs (p ∷ [])) order waited order waiting
pair_waits p marks order waited waiting listed map w = as_pair p order waited order waiting (step_waits (p.0, Object p.1) p.1 marks order waited waiting refl listed map w)

pub pairs_none : (order : List ℕ) (waiting : WaitingView) → IsStep (HasPairs []) order waiting order waiting
pairs_none order waiting = step_none (HasPairs []) order waiting (λ t. tt)

-- pairs after others
pub pairs_more : (ps qs : List (ℕ × ℕ)) (a : List ℕ) (u : WaitingView) (b : List ℕ) (v : WaitingView) (c : List ℕ) (w : WaitingView) → IsStep (HasPairs ps) a u b v → IsStep (HasPairs qs) b v c w
    → IsStep (HasPairs (ps ++ qs)) a u c w
pairs_more ps qs a u b v c w s r = step_more (λ t (q : ℕ × ℕ). t q.0 ≡ true → t q.1 ≡ true) ps qs a u b v c w s r

-- an element of which all of the list's is said

all_index : {X : Type 0} (P : X → Type 0) (xs : List X) (k : ℕ) (d : X) → k < length xs → AllByRecursion P xs → P (get_or xs k d)
all_index P [] k d l all = absurd (omega arith)
all_index P (x ∷ xs) zero d l all = all.0
all_index P (x ∷ xs) (suc k) d l all = all_index P xs k d (omega arith) all.1

pub item_has : {X : Type 0} (P : X → Type 0) (xs : List X) (k : ℕ) (x : X) → k < length xs → x ≡ get_or xs k x → AllByRecursion P xs → P x
item_has P xs k x l is all = rw is (all_index P xs k x l all)

pub flat_item_has : {V X : Type 0} (items : V → List X) (P : X → Type 0) (vs : List V) (k : ℕ) (v : V) → k < length vs → v ≡ get_or vs k v → AllByRecursion P (flat_map items vs) → AllByRecursion P (items v)
flat_item_has items P vs k v l is all = rw is (all_flat_at items P vs k v l all)

-- parts of a list

pub all_part : (P : ℕ → Type 0) (xs : List ℕ) (n from : ℕ) → AllByRecursion P xs → AllByRecursion P (take n (drop from xs))
all_part P xs n from all =
    let rest : AllByRecursion P (drop from xs) = all_back P (take from xs) (drop from xs) (rw (take-append-drop from xs) all) in
    all_front P (take n (drop from xs)) (drop n (drop from xs)) (rw (take-append-drop n (drop from xs)) rest)

pub all_drop : (P : ℕ → Type 0) (from : ℕ) (xs : List ℕ) → AllByRecursion P xs → AllByRecursion P (drop from xs)
all_drop P from xs all = all_back P (take from xs) (drop from xs) (rw (take-append-drop from xs) all)

all_take : (P : ℕ → Type 0) (n : ℕ) (xs : List ℕ) → AllByRecursion P xs → AllByRecursion P (take n xs)
all_take P n xs all = all_front P (take n xs) (drop n xs) (rw (take-append-drop n xs) all)

pub part_start : {X : Type 0} (from : ℕ) (xs : List X) → take (from - from) (drop from xs) ≡ []
part_start from xs = let e : from - from ≡ 0 = omega arith in rw e refl

-- one longer
pub part_more : (xs : List ℕ) (from at d : ℕ) → from ≤ at → at < length xs → take (at + 1 - from) (drop from xs) ≡ take (at - from) (drop from xs) ++ get_or xs at d ∷ []
part_more xs from at d le l =
    let e : at + 1 - from ≡ (at - from) + 1 = omega arith in
    let f : from + (at - from) ≡ at = omega arith in
    let n = length-drop from xs in
    rw e (take_more (drop from xs) (at - from) d (omega arith) ∙ ap (λ v. take (at - from) (drop from xs) ++ v ∷ []) (get_or-drop from xs (at - from) d ∙ ap (λ k. get_or xs k d) f))

-- up to the end
pub part_end : (xs : List ℕ) (from to : ℕ) → to ≡ length xs → take (to - from) (drop from xs) ≡ drop from xs
part_end xs from to e = take_all (to - from) (drop from xs) (omega (arith, length-drop from xs))

none_taken : (n : ℕ) → [] ≡ take {A = ℕ} n []
none_taken zero = refl
none_taken (suc n) = refl

split_at : (xs : List ℕ) (done to : ℕ) → done ≤ to → take to xs ≡ take done xs ++ take (to - done) (drop done xs)
split_at xs zero to l = let e : to - 0 ≡ to = omega arith in rw e refl
split_at [] (suc done) to l = sym (none_taken to) ∙ none_taken (to - suc done)
split_at (x ∷ xs) (suc done) zero l = absurd (omega arith)
split_at (x ∷ xs) (suc done) (suc to) l = let e : suc to - suc done ≡ to - done = omega arith in rw e (ap (λ ys. x ∷ ys) (split_at xs done to (omega arith)))

-- an element of the front of a list
pub get_kept : (xs ys zs : List ℕ) (i d : ℕ) → ys ≡ xs ++ zs → i < length xs → get_or ys i d ≡ get_or xs i d
get_kept xs ys zs i d e l = ap (λ v. get_or v i d) e ∙ kept xs zs i d l where
  kept : (xs zs : List ℕ) (i d : ℕ) → i < length xs → get_or (xs ++ zs) i d ≡ get_or xs i d
  kept [] zs i d l = absurd (omega arith)
  kept (x ∷ xs) zs zero d l = refl
  kept (x ∷ xs) zs (suc i) d l = kept xs zs i d (omega arith)

-- what waited for a part of the list

none_flat : (f : ℕ → List ℕ) (ids : List ℕ) → ((m : ℕ) → f m ≡ []) → flat_map f ids ≡ []
none_flat f [] none = refl
none_flat f (i ∷ ids) none = rw (none i) (none_flat f ids none)

pub released_nothing : (waiting : WaitingView) (ids order : List ℕ) → ((m : ℕ) → waiting_for waiting m ≡ []) → IsAdded (flat_map (waiting_for waiting) ids) order order
released_nothing waiting ids order none = rw (none_flat (waiting_for waiting) ids none) (added_nothing order)

pub released_more : (f : ℕ → List ℕ) (from at i : ℕ) (old cur new found : List ℕ) → from ≤ at → at < length old → i ≡ get_or cur at i
    → IsAdded (flat_map f (take (at - from) (drop from old))) old cur → found ≡ f i → IsAdded found cur new → IsAdded (flat_map f (take (at + 1 - from) (drop from old))) old new
released_more f from at i old cur new found le l is a same b =
    let e : i ≡ get_or old at i = is ∙ get_kept old cur a.rest at i a.added l in
    rw (part_more old from at i le l, ← e, flat_map_push f (take (at - from) (drop from old)) i, ← same)
    (added_more (flat_map f (take (at - from) (drop from old))) found old cur new a b)

-- what waits for one of the list has room
pub waiting_fits : (waiting : WaitingView) (size room at i : ℕ) (old cur rest : List ℕ) → cur ≡ old ++ rest → at < length old → i ≡ get_or cur at i → room ≡ size
    → AllByRecursion (λ m. AllByRecursion (λ j. j < size) (waiting_for waiting m)) old → AllByRecursion (λ j. j < room) (waiting_for waiting i)
waiting_fits waiting size room at i old cur rest added l is same all =
    rw same (item_has (λ m. AllByRecursion (λ j. j < size) (waiting_for waiting m)) old at i l (is ∙ get_kept old cur rest at i added l) all)

each_waiting : (waiting : WaitingView) (ids : List ℕ) (t : ℕ → Bool) → HasAll (flat_map (waiting_for waiting) ids) t → OfEach (λ m. HasAll (waiting_for waiting m)) ids t
each_waiting waiting [] t all = tt
each_waiting waiting (i ∷ ids) t all =
    (all_front _ (waiting_for waiting i) (flat_map (waiting_for waiting) ids) all, each_waiting waiting ids t (all_back _ (waiting_for waiting i) (flat_map (waiting_for waiting) ids) all))

waiting_each : (waiting : WaitingView) (ids : List ℕ) (t : ℕ → Bool) → HasBoth ids waiting t → HasAll (flat_map (waiting_for waiting) ids) t
waiting_each waiting [] t both = tt
waiting_each waiting (i ∷ ids) t both = all_join _ (waiting_for waiting i) (flat_map (waiting_for waiting) ids) (both.1 i both.0.0) (waiting_each waiting ids t (both.0.1, both.1))

-- a part that helpers found is followed

step_within : (P Q : (ℕ → Bool) → Type 0) (a : List ℕ) (u : WaitingView) (b : List ℕ) (v : WaitingView) → IsStep P a u b v → ((t : ℕ → Bool) → Q t → P t) → ((t : ℕ → Bool) → HasAll a t → P t → Q t)
    → IsStep Q a u b v
step_within P Q a u b v p to from = record {
  rest = p.rest;
  added = p.added;
  only = λ t rule both. p.only t (to t rule) both;
  all = λ t both. let before = p.all t both in (before.0, from t before.0.0 before.1);
  frozen = p.frozen;
}

-- what a part has has room
module _ {made : ℕ} {marks : List Bool} {edges entries : ℕ → (ℕ → Bool) → Type 0} {front ids : List ℕ} {pairs : List (ℕ × ℕ)} (part : IsPart made marks edges entries front ids pairs) where
  pub ids_fit : (size : ℕ) → made < size → AllByRecursion (λ i. i < size) ids
  ids_fit size l = rw part.leads.added (made_fits made size part.leads.rest l part.leads.passes)

  pub pairs_fit : (size : ℕ) → made < size → AllByRecursion (λ p. p.1 < size) pairs
  pairs_fit size l = rw part.enters.added (seconds_fit made size part.enters.rest l part.enters.passes)

module _ (made : ℕ) (edges entries : ℕ → (ℕ → Bool) → Type 0) (front : List ℕ) (marks : List Bool) (old : List ℕ) (u : WaitingView) (mid : List ℕ) (last : List ℕ) (w : WaitingView) (ids : List ℕ)
    (pairs : List (ℕ × ℕ)) (listed : IsListed marks old) (within : (P : ℕ → Type 0) → AllByRecursion P old → AllByRecursion P front) (numbered : HasBoth old u (is_made made))
    (part : IsPart made marks edges entries front ids pairs) (added : IsAdded ids old mid) (entered : IsStep (HasPairs pairs) mid u last w) where
  led : IsStep (OfEach edges front) old u mid u
  led =
      step_within (HasAll ids) (OfEach edges front) old u mid u
      (step_added (HasAll ids) ids old mid u added (λ t both rule. rule) (λ t all. all))
      (λ t rule. rw part.leads.added (part.leads.only t rule))
      (λ t before all. part.leads.all t (listed.only t before) (rw part.leads.added at all))

  joined : IsStep (OfEach entries front) mid u last w
  joined =
      step_within (HasPairs pairs) (OfEach entries front) mid u last w entered
      (λ t rule. rw part.enters.added (part.enters.only t rule))
      (λ t before all. part.enters.all t (listed.only t (all_front _ old added.rest (rw added.added at before))) (rw part.enters.added at all))

  pairs_made : (ps : List (ℕ × ℕ)) → list_all (λ p. is_made made p.1) ps ≡ true → HasPairs ps (is_made made)
  pairs_made ps good = all_mono (λ p. is_made made p.1 ≡ true) (λ p. is_made made p.0 ≡ true → is_made made p.1 ≡ true) ps (λ p e _. e) (each ps good) where
    each : (ps : List (ℕ × ℕ)) → list_all (λ p. is_made made p.1) ps ≡ true → AllByRecursion (λ p. is_made made p.1 ≡ true) ps
    each [] e = tt
    each (p ∷ ps) e = let q = and_parts (is_made made p.1) (list_all (λ p. is_made made p.1) ps) e in (q.0, each ps q.1)

  last_made : HasBoth last w (is_made made)
  last_made =
      entered.only (is_made made) (rw part.enters.added (pairs_made part.enters.rest part.enters.passes))
      (rw added.added (all_join _ old added.rest numbered.0 (added.only (is_made made) (rw part.leads.added (list_has made part.leads.rest part.leads.passes)))), numbered.1)

  -- what waits has room
  pub waiting_room : (size : ℕ) → made < size → AllByRecursion (λ m. AllByRecursion (λ j. j < size) (waiting_for w m)) last
  waiting_room size l = all_mono (λ m. is_made made m ≡ true) (λ m. AllByRecursion (λ j. j < size) (waiting_for w m)) last (λ m e. made_fit made size (waiting_for w m) l (last_made.1 m e)) last_made.0

  -- the part stands where it stood
  pub front_kept : (from n : ℕ) → n ≡ length old → take (n - from) (drop from last) ≡ drop from old
  front_kept from n e =
      ap (λ l. take (n - from) (drop from l)) (entered.added ∙ ap (λ l. l ++ entered.rest) added.added ∙ append_assoc old added.rest entered.rest)
      ∙ part_front old (added.rest ++ entered.rest) from n (omega arith) ∙ part_end old from n e

  has_front : (t : ℕ → Bool) → HasAll last t → HasAll front t
  has_front t all = within (λ i. t i ≡ true) (all_front _ old added.rest (rw added.added at (all_front _ mid entered.rest (rw entered.added at all))))

  pub followed : (new : List ℕ) → IsAdded (flat_map (waiting_for w) front) last new → AreFollowed made edges entries front old u new w
  followed new a = record {
    step =
        step_as (λ t. (OfEach edges front t × OfEach entries front t) × Unit {0}) (OfEach (Obeys edges entries) front) old u new w
        (step_both (λ t. OfEach edges front t × OfEach entries front t) (λ t. Unit {0}) old u last w new w
        (step_both (OfEach edges front) (OfEach entries front) old u mid u last w led joined)
        (step_added (λ t. Unit {0}) (flat_map (waiting_for w) front) last new w a (λ t both _. waiting_each w front t (has_front t both.0, both.1)) (λ t all. tt)))
        (λ t rule. ((all_mono (λ i. Obeys edges entries i t) (λ i. edges i t) front (λ i both. both.0) rule, all_mono (λ i. Obeys edges entries i t) (λ i. entries i t) front (λ i both. both.1) rule), tt))
        (λ t rule. all_both (λ i. edges i t) (λ i. entries i t) (λ i. Obeys edges entries i t) front (λ i x y. (x, y)) rule.0.0 rule.0.1);
    released = λ t all. each_waiting w front t (a.all t all);
    numbered = (rw a.added (all_join _ last a.rest last_made.0 (a.only (is_made made) (waiting_each w front (is_made made) (has_front (is_made made) last_made.0, last_made.1)))), last_made.1);
  }

-- what lasts while parts of the list are followed
pub goes_on : (roots : (ℕ → Bool) → Type 0) (edges entries : ℕ → (ℕ → Bool) → Type 0) (made done to : ℕ) (marks : List Bool) (order : List ℕ) (waited : WaitingView) (more : List Bool) (new : List ℕ)
    (waiting : WaitingView) → Marking roots edges entries made done marks order waited → done ≤ to → to ≤ length order
    → AreFollowed made edges entries (take (to - done) (drop done order)) order waited new waiting → length more ≡ length marks → Marking roots edges entries made to more new waiting
goes_on roots edges entries made done to marks order waited more new waiting m le l f room =
    let front = take (to - done) (drop done order) in
    let s = f.step in
    let split : take to order ≡ take done order ++ front = split_at order done to le in
    let all_new : take to new ≡ take done order ++ front = ap (take to) s.added ∙ take-append-le to order s.rest l ∙ split in
    let before : (t : ℕ → Bool) → HasAll new t → HasAll order t = λ t all. all_front _ order s.rest (rw s.added at all) in
    record {
      ready = record {
        room = omega (arith, m.ready.room);
        numbered = f.numbered;
      };
      bound = omega (arith, ap length s.added, length-append order s.rest);
      least = λ t closed.
          let both = m.least t closed in
          s.only t (all_mono (λ i. t i ≡ true) (λ i. Obeys edges entries i t) front (λ i here. (closed.follows i here, closed.enters i here)) (all_part (λ i. t i ≡ true) order (to - done) done both.0)) both;
      starts = λ t all. m.starts t (before t all);
      follows = λ t both.
          let old = s.all t both in
          rw all_new (all_join (λ i. Obeys edges entries i t) (take done order) front (m.follows t old.0) old.1);
      released = λ t all.
          rw all_new
          (all_join (λ k. HasAll (waiting_for waiting k) t) (take done order) front
          (all_both (λ k. waiting_for waiting k ≡ waiting_for waited k) (λ k. HasAll (waiting_for waited k) t) (λ k. HasAll (waiting_for waiting k) t) (take done order)
          (λ k same kept. rw same kept) (all_take _ done order s.frozen) (m.released t (before t all)))
          (f.released t all));
    }
