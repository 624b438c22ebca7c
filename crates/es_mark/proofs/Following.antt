-- An identity is followed: what the graph found, and what waited.
use Rattle.std.proofs.Common.{◌≡◌, ℕ, ◌<◌, Bool, true, arith, List, [], nat_lt, nat_le}
use Rattle.std.specs.List.{AllByRecursion}
use Rattle.std.proofs.lemmas.Bool.{and_parts, lt-ltb, le-leb, ltb-true, leb-true}
use Rattle.es_value.specs.declared.value.Value.{Value}
use Rattle.es_mark.specs.Graph.{HasAll, HasValue, HasValues, Finds, FindsEntries, IsNumbered}
use Rattle.es_mark.specs.Marks.{is_marked}
use Rattle.es_mark.specs.Listed.{IsListed, IsAdded}
use Rattle.es_mark.specs.Made.{is_made}
use Rattle.es_mark.specs.Steps.{HasBoth, IsStep, Obeys, IsFollowed}
use Rattle.es_mark.specs.Waiting.{waiting_for, WaitingView}
use Rattle.es_mark.proofs.Lists.{all_mono, all_join, all_front}
use Rattle.es_mark.proofs.Stepping.{step_added, step_as, step_both}

-- the test and the fact say the same
pub made_numbered : (made i : ℕ) → is_made made i ≡ true → IsNumbered made i
made_numbered made i e = let p = and_parts (nat_lt 0 i) (nat_le i made) e in (ltb-true _ _ p.0, leb-true _ _ p.1)

pub numbered_made : (made i : ℕ) → IsNumbered made i → is_made made i ≡ true
numbered_made made i n = rw (lt-ltb _ _ n.0) (le-leb _ _ n.1)

pub made_fit : (made size : ℕ) (ids : List ℕ) → made < size → HasAll ids (is_made made) → AllByRecursion (λ i. i < size) ids
made_fit made size ids l all = all_mono (λ i. is_made made i ≡ true) (λ i. i < size) ids (λ i e. let n = made_numbered made i e in omega (arith, n.1)) all

-- what the graph found

module _ {made : ℕ} {asked : (ℕ → Bool) → Type 0} {ids : List ℕ} (f : Finds made asked [] ids) where
  pub found_made : HasAll ids (is_made made)
  found_made = rw f.added (all_mono (IsNumbered made) (λ i. is_made made i ≡ true) f.ids (numbered_made made) f.numbered)

  pub found_fit : (size : ℕ) → made < size → AllByRecursion (λ i. i < size) ids
  found_fit size l = made_fit made size ids l found_made

  pub found_only : (t : ℕ → Bool) → asked t → HasAll ids t
  found_only t has = rw f.added (f.only t has)

  pub found_all : (t : ℕ → Bool) → HasAll ids t → asked t
  found_all t has = f.all t (rw f.added at has)

  pub step_found : (old new : List ℕ) (waiting : WaitingView) → IsAdded ids old new → IsStep asked old waiting new waiting
  step_found old new waiting a = step_added asked ids old new waiting a (λ t both has. found_only t has) found_all

module _ {made : ℕ} {asked : (ℕ → Bool) → Type 0} {entries : List (ℕ × Value)} (f : FindsEntries made asked [] entries) where
  entries_made : HasValues entries (is_made made)
  entries_made = rw f.added (all_mono _ (λ e. is_made made e.0 ≡ true → HasValue (is_made made) e.1) f.entries (λ e numbered _ i value. numbered_made made i (numbered i value)) f.numbered)

  pub entries_fit : (size : ℕ) → made < size → AllByRecursion (λ e. HasValue (λ i. nat_lt i size) e.1) entries
  entries_fit size l =
      rw f.added
      (all_mono _ (λ e. HasValue (λ i. nat_lt i size) e.1) f.entries
      (λ e numbered i value. let n = (numbered i value).1 in lt-ltb _ _ (omega arith)) f.numbered)

  step_entries : (old : List ℕ) (u : WaitingView) (new : List ℕ) (w : WaitingView) → IsStep (HasValues entries) old u new w → IsStep asked old u new w
  step_entries old u new w p = step_as (HasValues entries) asked old u new w p (λ t has. rw f.added (f.only t has)) (λ t has. f.all t (rw f.added at has))

-- the list after it has grown
added_has : (ids old new : List ℕ) (t : ℕ → Bool) → IsAdded ids old new → HasAll old t → HasAll ids t → HasAll new t
added_has ids old new t a before more = rw a.added (all_join _ old a.rest before (a.only t more))

module _ (made : ℕ) (edges entries : ℕ → (ℕ → Bool) → Type 0) (i : ℕ) (marks : List Bool) (old : List ℕ) (u : WaitingView) (next last : List ℕ) (w : WaitingView) (ids : List ℕ)
    (found : List (ℕ × Value)) (listed : IsListed marks old) (here : is_marked marks i ≡ true) (numbered : HasBoth old u (is_made made)) (f : Finds made (edges i) [] ids)
    (added : IsAdded ids old next) (g : FindsEntries made (entries i) [] found) (entered : IsStep (HasValues found) next u last w) where
  last_made : HasBoth last w (is_made made)
  last_made = entered.only (is_made made) (entries_made g) (added_has ids old next (is_made made) added numbered.0 (found_made f), numbered.1)

  waited_made : HasAll (waiting_for w i) (is_made made)
  waited_made = last_made.1 i (listed.only (is_made made) numbered.0 i here)

  -- what waited has room
  pub waited_fit : (size : ℕ) → made < size → AllByRecursion (λ j. j < size) (waiting_for w i)
  waited_fit size l = made_fit made size (waiting_for w i) l waited_made

  has_identity : (t : ℕ → Bool) → HasAll last t → t i ≡ true
  has_identity t all = listed.only t (all_front _ old added.rest (rw added.added at (all_front _ next entered.rest (rw entered.added at all)))) i here

  pub followed : (new : List ℕ) → IsAdded (waiting_for w i) last new → IsFollowed made edges entries i old u new w
  followed new a = record {
    step =
        step_as (λ t. (edges i t × entries i t) × Unit {0}) (Obeys edges entries i) old u new w
        (step_both (λ t. edges i t × entries i t) (λ t. Unit {0}) old u last w new w
        (step_both (edges i) (entries i) old u next u last w (step_found f old next u added) (step_entries g next u last w entered))
        (step_added (λ t. Unit {0}) (waiting_for w i) last new w a (λ t both _. both.1 i (has_identity t both.0)) (λ t all. tt)))
        (λ t rule. (rule, tt))
        (λ t rule. rule.0);
    released = a.all;
    numbered = (added_has (waiting_for w i) last new (is_made made) a last_made.0 waited_made, last_made.1);
  }
