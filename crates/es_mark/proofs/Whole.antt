-- Marking as a whole: what lasts while the list is followed.
use Rattle.std.proofs.Common.{◌≡◌, ℕ, ◌+◌, ◌<◌, ◌≤◌, Bool, true, sym, ◌∙◌, ap, arith, zero, suc, List, [], ◌∷◌, ◌++◌, length, take, drop}
use Rattle.std.specs.List.{AllByRecursion}
use Rattle.std.proofs.Math.ListN.{get_or}
use Rattle.std.proofs.lemmas.List.{take_more, take-append-le, take-append-drop, length-append}
use Rattle.std.proofs.Math.Seq.{take-length}
use Rattle.es_mark.specs.Graph.{HasAll, Finds, IsClosed, IsNumbered}
use Rattle.es_mark.specs.Marks.{is_marked, IsLeast}
use Rattle.es_mark.specs.Listed.{IsListed, IsAdded}
use Rattle.es_mark.specs.Made.{is_made}
use Rattle.es_mark.specs.Steps.{HasBoth, IsReady, Obeys, IsFollowed}
use Rattle.es_mark.specs.Waiting.{waiting_for, HasWaiting, WaitingView}
use Rattle.es_mark.proofs.Lists.{all_both, all_join, all_front, all_at, is_in, has_own}
use Rattle.es_mark.proofs.Following.{made_numbered, found_made, found_only, found_all}

pub record Marking (roots : (ℕ → Bool) → Type 0) (edges entries : ℕ → (ℕ → Bool) → Type 0) (made done : ℕ) (marks : List Bool) (order : List ℕ) (waiting : WaitingView) : Type 0 where
  pub ready : IsReady made marks order waiting
  pub bound : done ≤ length order
  pub least : (t : ℕ → Bool) → IsClosed roots edges entries t → HasBoth order waiting t
  pub starts : (t : ℕ → Bool) → HasAll order t → roots t
  pub follows : (t : ℕ → Bool) → HasBoth order waiting t → AllByRecursion (λ i. Obeys edges entries i t) (take done order)
  pub released : (t : ℕ → Bool) → HasAll order t → AllByRecursion (λ m. HasAll (waiting_for waiting m) t) (take done order)

all_take : (P : ℕ → Type 0) (n : ℕ) (xs : List ℕ) → AllByRecursion P xs → AllByRecursion P (take n xs)
all_take P n xs all = all_front P (take n xs) (drop n xs) (rw (take-append-drop n xs) all)

all_index : (P : ℕ → Type 0) (xs : List ℕ) (i d : ℕ) → i < length xs → AllByRecursion P xs → P (get_or xs i d)
all_index P [] i d l all = absurd (omega arith)
all_index P (x ∷ xs) zero d l all = all.0
all_index P (x ∷ xs) (suc i) d l all = all_index P xs i d (omega arith) all.1

none_waits : (waiting : WaitingView) (t : ℕ → Bool) → ((m : ℕ) → waiting_for waiting m ≡ []) → HasWaiting waiting t
none_waits waiting t none m e = rw (none m) tt

-- after the roots
pub begins : (roots : (ℕ → Bool) → Type 0) (edges entries : ℕ → (ℕ → Bool) → Type 0) (made : ℕ) (ids order : List ℕ) (marks : List Bool) (waiting : WaitingView) → made < length marks
    → ((m : ℕ) → waiting_for waiting m ≡ []) → Finds made roots [] ids → IsAdded ids [] order → Marking roots edges entries made 0 marks order waiting
begins roots edges entries made ids order marks waiting room none f a = record {
  ready = record {
    room = room;
    numbered = (rw a.added (a.only (is_made made) (found_made f)), none_waits waiting (is_made made) none);
  };
  bound = omega arith;
  least = λ t closed. (rw a.added (a.only t (found_only f t closed.has_roots)), none_waits waiting t none);
  starts = λ t all. found_all f t (a.all t all);
  follows = λ t both. tt;
  released = λ t all. tt;
}

-- one identity more is followed
pub goes_on : (roots : (ℕ → Bool) → Type 0) (edges entries : ℕ → (ℕ → Bool) → Type 0) (made done : ℕ) (marks : List Bool) (order : List ℕ) (waited : WaitingView) (i : ℕ) (more : List Bool)
    (new : List ℕ) (waiting : WaitingView) → Marking roots edges entries made done marks order waited → done < length order → i ≡ get_or order done i
    → IsFollowed made edges entries i order waited new waiting → length more ≡ length marks → Marking roots edges entries made (done + 1) more new waiting
goes_on roots edges entries made done marks order waited i more new waiting m l is f room =
    let s = f.step in
    let l' : done + 1 ≤ length order = omega arith in
    let front : take (done + 1) new ≡ take done order ++ i ∷ [] =
    ap (take (done + 1)) s.added ∙ take-append-le (done + 1) order s.rest l' ∙ take_more order done i l ∙ ap (λ x. take done order ++ x ∷ []) (sym is) in
    let has : (t : ℕ → Bool) → HasAll order t → t i ≡ true = λ t all. ap t is ∙ all_index (λ j. t j ≡ true) order done i l all in
    let before : (t : ℕ → Bool) → HasAll new t → HasAll order t = λ t all. all_front _ order s.rest (rw s.added at all) in
    record {
      ready = record {
        room = omega (arith, m.ready.room);
        numbered = f.numbered;
      };
      bound = omega (arith, ap length s.added, length-append order s.rest);
      least = λ t closed.
          let both = m.least t closed in
          let here = has t both.0 in
          s.only t (closed.follows i here, closed.enters i here) both;
      starts = λ t all. m.starts t (before t all);
      follows = λ t both.
          let old = s.all t both in
          rw front (all_join _ (take done order) (i ∷ []) (m.follows t old.0) (old.1, tt));
      released = λ t all.
          rw front
          (all_join (λ k. HasAll (waiting_for waiting k) t) (take done order) (i ∷ [])
          (all_both (λ k. waiting_for waiting k ≡ waiting_for waited k) (λ k. HasAll (waiting_for waited k) t) (λ k. HasAll (waiting_for waiting k) t) (take done order)
          (λ k same kept. rw same kept) (all_take _ done order s.frozen) (m.released t (before t all)))
          (f.released t all, tt));
    }

-- all is followed

module _ (roots : (ℕ → Bool) → Type 0) (edges entries : ℕ → (ℕ → Bool) → Type 0) (made done : ℕ) (marks : List Bool) (order : List ℕ) (waiting : WaitingView)
    (m : Marking roots edges entries made done marks order waiting) (listed : IsListed marks order) (all : length order ≤ done) where
  whole : take done order ≡ order
  whole = let e : done ≡ length order = omega (arith, m.bound) in rw e (take-length order)

  pub ends_numbered : (i : ℕ) → is_marked marks i ≡ true → IsNumbered made i
  ends_numbered i e = made_numbered made i (listed.only (is_made made) m.ready.numbered.0 i e)

  at : (P : ℕ → Type 0) → AllByRecursion P (take done order) → (i : ℕ) → is_marked marks i ≡ true → P i
  at P each i e = all_at P order i (rw whole at each) (listed.only (is_in order) (has_own order) i e)

  both : HasBoth order waiting (is_marked marks)
  both = (listed.has_order, at (λ k. HasAll (waiting_for waiting k) (is_marked marks)) (m.released (is_marked marks) listed.has_order))

  pub ends : IsLeast roots edges entries marks
  ends = record {
    closed = record {
      has_roots = m.starts (is_marked marks) listed.has_order;
      follows = λ i e. (at (λ k. Obeys edges entries k (is_marked marks)) (m.follows (is_marked marks) both) i e).0;
      enters = λ i e. (at (λ k. Obeys edges entries k (is_marked marks)) (m.follows (is_marked marks) both) i e).1;
    };
    least = λ t closed. listed.only t (m.least t closed).0;
  }
