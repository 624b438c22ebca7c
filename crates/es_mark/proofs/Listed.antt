-- The marks and the list of what is marked.
use Rattle.std.proofs.Common.{◌≡◌, ℕ, ◌+◌, ◌<◌, ◌==◌, Bool, true, false, sym, ◌∙◌, ap, arith, List, [], ◌∷◌, ◌++◌, length, zero, suc, inl, inr, refl}
use Rattle.std.proofs.Math.ListN.{set, length-set}
use Rattle.std.proofs.lemmas.Bool.{cases_Bool, eqb-true, eqb-false}
use Rattle.std.proofs.lemmas.List.{get_or-set_same, get_or-set_other, length_push, append-nil, append_assoc}
use Rattle.es_mark.specs.Marks.{is_marked, IsWithin}
use Rattle.es_mark.specs.Listed.{unmarked, IsListed, IsAdded}
use Rattle.es_mark.proofs.Lists.{all_mono, all_join, all_front, all_back}

none_marked : (marks : List Bool) → ((i : ℕ) → is_marked marks i ≡ false) → unmarked marks + 0 ≡ length marks
none_marked [] f = refl
none_marked (true ∷ marks) f = let e = f 0 in cc
none_marked (false ∷ marks) f = let rest = none_marked marks (λ i. f (suc i)) in omega arith

-- nothing is marked
pub listed_none : (marks : List Bool) → ((i : ℕ) → is_marked marks i ≡ false) → IsListed marks []
listed_none marks f = record {
  has_order = tt;
  only = λ t all i e. let none = f i in cc;
  count = none_marked marks f;
}

-- one more is marked

one_fewer : (marks : List Bool) (i : ℕ) → i < length marks → is_marked marks i ≡ false → unmarked (set marks i true) + 1 ≡ unmarked marks
one_fewer [] i l e = absurd (omega arith)
one_fewer (true ∷ marks) zero l e = cc
one_fewer (false ∷ marks) zero l e = omega arith
one_fewer (true ∷ marks) (suc i) l e = one_fewer marks i (omega arith) e
one_fewer (false ∷ marks) (suc i) l e = omega (arith, one_fewer marks i (omega arith) e)

set_keeps : (marks : List Bool) (i j : ℕ) → i < length marks → is_marked marks j ≡ true → is_marked (set marks i true) j ≡ true
set_keeps marks i j l e = elim (cases_Bool (j == i)) [
  | inl s ↦ rw (eqb-true j i s) (get_or-set_same marks i true false l)
  | inr s ↦ get_or-set_other marks i j true false (eqb-false j i s) ∙ e
]

set_within : (marks : List Bool) (i : ℕ) (t : ℕ → Bool) → IsWithin marks t → t i ≡ true → IsWithin (set marks i true) t
set_within marks i t w here j e = elim (cases_Bool (j == i)) [
  | inl s ↦ ap t (eqb-true j i s) ∙ here
  | inr s ↦ w j (sym (get_or-set_other marks i j true false (eqb-false j i s)) ∙ e)
]

pub listed_more : (marks : List Bool) (order : List ℕ) (i : ℕ) → IsListed marks order → i < length marks → is_marked marks i ≡ false → IsListed (set marks i true) (order ++ i ∷ [])
listed_more marks order i listed l e = record {
  has_order =
      all_join _ order (i ∷ []) (all_mono (λ j. is_marked marks j ≡ true) (λ j. is_marked (set marks i true) j ≡ true) order (λ j. set_keeps marks i j l) listed.has_order)
      (get_or-set_same marks i true false l, tt);
  only = λ t all. set_within marks i t (listed.only t (all_front _ order (i ∷ []) all)) (all_back _ order (i ∷ []) all).0;
  count = omega (arith, one_fewer marks i l e, listed.count, length-set marks i true, length_push order i);
}

-- the list grows

pub added_one : (order : List ℕ) (i : ℕ) → IsAdded (i ∷ []) order (order ++ i ∷ [])
added_one order i = record {
  rest = i ∷ [];
  added = refl;
  only = λ t all. all;
  all = λ t all. all_back _ order (i ∷ []) all;
}

-- it was marked already
pub added_none : (marks : List Bool) (order : List ℕ) (i : ℕ) → IsListed marks order → is_marked marks i ≡ true → IsAdded (i ∷ []) order order
added_none marks order i listed e = record {
  rest = [];
  added = sym (append-nil order);
  only = λ t all. tt;
  all = λ t all. (listed.only t all i e, tt);
}

pub added_nothing : (order : List ℕ) → IsAdded [] order order
added_nothing order = record {
  rest = [];
  added = sym (append-nil order);
  only = λ t all. tt;
  all = λ t all. tt;
}

-- a list after another
pub added_more : (xs ys a b c : List ℕ) → IsAdded xs a b → IsAdded ys b c → IsAdded (xs ++ ys) a c
added_more xs ys a b c p q = record {
  rest = p.rest ++ q.rest;
  added = q.added ∙ ap (λ l. l ++ q.rest) p.added ∙ append_assoc a p.rest q.rest;
  only = λ t all. all_join _ p.rest q.rest (p.only t (all_front _ xs ys all)) (q.only t (all_back _ xs ys all));
  all = λ t all. all_join _ xs ys (p.all t (all_front _ b q.rest (rw q.added at all))) (q.all t all);
}
