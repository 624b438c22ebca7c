use Rattle.std.proofs.Common.{ℕ, ◌≡◌, ◌<◌, List, [], ◌∷◌, length, sym, ◌∙◌, refl, None, arith}
use Rattle.serde_json.specs.View.{items_view}
use Rattle.serde_json.specs.declared.value.Value.{Value}
use Rattle.es_reading.specs.declared.fault.FaultCode.{FaultCode}
use Rattle.es_reading.specs.Forms.{OperandType}
use Rattle.es_explain.specs.Causes.{first_wrong}
use Rattle.es_explain.proofs.wrong.first_wrong.Goals as goal

-- no operand is left
none_left : (c : FaultCode) (n : ℕ) (ks : List OperandType) (vs : List Value) → length vs < 1 → first_wrong c n ks (items_view vs) ≡ None
none_left c n [] [] few = refl
none_left c n (k ∷ ks) [] few = refl
none_left c n ks (v ∷ vs) few = absurd (omega (arith, few))

pub returns-in_default : goal.returns-in_default
returns-in_default c = sym (none_left _ _ _ _ c.in_default.len_below) ∙ sym c.loop-index.invariant
