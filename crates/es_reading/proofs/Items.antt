-- The items of a list of values, seen as data.
use Rattle.std.proofs.Common.{◌≡◌, ◌==◌, Bool, true, false, List, [], ◌∷◌, ◌&&◌, length, map, suc, refl, ap, ◌∙◌}
use Rattle.serde_json.specs.Data.{Data}
use Rattle.serde_json.specs.View.{items_of}
use Rattle.serde_json.specs.Events.{items_len}
use Rattle.es_reading.specs.Forms.{OperandType, fits, fit}

and-false : (b : Bool) → b && false ≡ false
and-false true = refl
and-false false = refl

-- how many there are
pub len_of : {A : Type 0} (shown : A → Data) (vs : List A) → items_len (items_of (map shown vs)) ≡ length vs
len_of shown [] = refl
len_of shown (v ∷ vs) = ap suc (len_of shown vs)

-- operands of a wrong number
pub fit_else : {A : Type 0} (shown : A → Data) (ks : List OperandType) (vs : List A) → (length vs ≡ length ks → ⊥) → fit ks (items_of (map shown vs)) ≡ false
fit_else shown [] [] h = absurd (h refl)
fit_else shown [] (v ∷ vs) h = refl
fit_else shown (k ∷ ks) [] h = refl
fit_else shown (k ∷ ks) (v ∷ vs) h = ap (λ b. fits k (shown v) && b) (fit_else shown ks vs (λ e. h (ap suc e))) ∙ and-false (fits k (shown v))

-- operands where there are to be none
pub fit_none : {A : Type 0} (shown : A → Data) (vs : List A) → (length vs == 0) ≡ false → fit [] (items_of (map shown vs)) ≡ false
fit_none shown [] h = cc
fit_none shown (v ∷ vs) h = refl
