-- A variable that is written where it stands.
use Rattle.std.proofs.Common.{◌≡◌, ℕ, zero, suc, Bool, true, false, cond, List, [], ◌∷◌, Some, sym, ◌∙◌, ap, refl, subst}
use Rattle.std.specs.List.{AllByRecursion, IsDistinct}
use Rattle.std.specs.Map.{lookup}
use Rattle.std.specs.Str.{bytes_eq}
use Rattle.indexmap.specs.IndexMap.{set_value_at}
use Rattle.std.proofs.lemmas.Slice.Eq.{bytes_eq-Decides}
use Rattle.es_value.specs.declared.value.Value.{Value}
use Rattle.es_props.specs.Heap.{keys_of}
use Rattle.es_props.proofs.Held.{distinct_parts}
use Rattle.es_props.proofs.Tables.{bytes_eq_symm}
use Rattle.es_props.specs.Variables.{is_at}

same_bytes : (k n : List ℕ) → bytes_eq k n ≡ true → k ≡ n
same_bytes k n is = (bytes_eq-Decides k n).0 is

-- a name that is none of these is not the one at a place among them
differs : (k n : List ℕ) (es : List (List ℕ × Value)) (i : ℕ) → AllByRecursion (λ y. bytes_eq k y ≡ false) (keys_of es) → is_at es i n ≡ true → bytes_eq k n ≡ false
differs k n [] i none at = cc
differs k n (e ∷ es) zero none at = subst (λ m. bytes_eq k m ≡ false) (same_bytes e.0 n at) none.0
differs k n (e ∷ es) (suc i) none at = differs k n es i none.1 at

once : {A : Type 0} (b : Bool) (w v l : A) → cond b w l ≡ cond b w (cond b v l)
once true w v l = refl
once false w v l = refl

pub written_at : (es : List (List ℕ × Value)) (i : ℕ) (n : List ℕ) (w : Value) → IsDistinct bytes_eq (keys_of es) → is_at es i n ≡ true
    → (x : List ℕ) → lookup (bytes_eq x) (set_value_at es i w) ≡ cond (bytes_eq n x) (Some w) (lookup (bytes_eq x) es)
written_at [] i n w distinct at x = cc
written_at (e ∷ es) zero n w distinct at x =
    subst (λ t. cond (bytes_eq x e.0) (Some w) (lookup (bytes_eq x) es) ≡ cond t (Some w) (cond (bytes_eq x e.0) (Some e.1) (lookup (bytes_eq x) es)))
    (bytes_eq_symm x e.0 ∙ ap (λ k. bytes_eq k x) (same_bytes e.0 n at))
    (once (bytes_eq x e.0) (Some w) (Some e.1) (lookup (bytes_eq x) es))
written_at (e ∷ es) (suc i) n w distinct at x =
    elim (bytes_eq x e.0) as (λ b. bytes_eq x e.0 ≡ b → cond b (Some e.1) (lookup (bytes_eq x) (set_value_at es i w)) ≡ cond (bytes_eq n x) (Some w) (cond b (Some e.1) (lookup (bytes_eq x) es))) [
      | true ↦ λ is. sym (ap (λ t. cond t (Some w) (Some e.1)) (bytes_eq_symm n x ∙ (ap (λ k. bytes_eq k n) (same_bytes x e.0 is) ∙ differs e.0 n es i (distinct_parts e es distinct).0 at)))
      | false ↦ λ is. written_at es i n w (distinct_parts e es distinct).1 at x
    ] refl
