use Rattle.std.proofs.Common.{◌≡◌, refl, sym, ap, ◌∙◌}
use Rattle.serde_json.specs.Data.{array, object, no_items, Items, Members}
use Rattle.serde_json.specs.View.{view}
use Rattle.serde_json.proofs.Views.{view-Array, view-Object}
use Rattle.es_reading.specs.declared.fault.Spot.{Spot}
use Rattle.es_reading.specs.Scope.{Scope}
use Rattle.es_reading.specs.Forms.{OperandType, name, literal, text, callback, agent, whole, amount, words}
use Rattle.es_reading.specs.Reading.{operand_read}
use Rattle.es_reading.proofs.part.ValueSeen.part.Goals as goal

array_read : (scope : Scope) (s : Spot) (k : OperandType) (ds : Items) → operand_read scope s k (array no_items) ≡ operand_read scope s k (array ds)
array_read scope s name ds = refl
array_read scope s literal ds = refl
array_read scope s text ds = refl
array_read scope s callback ds = refl
array_read scope s agent ds = refl
array_read scope s whole ds = refl
array_read scope s amount ds = refl
array_read scope s words ds = refl

object_read : (scope : Scope) (s : Spot) (k : OperandType) (ms : Members) → operand_read scope s k (array no_items) ≡ operand_read scope s k (object ms)
object_read scope s name ms = refl
object_read scope s literal ms = refl
object_read scope s text ms = refl
object_read scope s callback ms = refl
object_read scope s agent ms = refl
object_read scope s whole ms = refl
object_read scope s amount ms = refl
object_read scope s words ms = refl

pub returns-in-Array-clause-read : goal.returns-in-Array-clause-read
returns-in-Array-clause-read c = λ scope s k.
    array_read scope s k _ ∙ sym (ap (λ v. operand_read scope s k (view v)) c.in-Array.is ∙ ap (operand_read scope s k) (view-Array _))

pub returns-in-Object-clause-read : goal.returns-in-Object-clause-read
returns-in-Object-clause-read c = λ scope s k.
    object_read scope s k _ ∙ sym (ap (λ v. operand_read scope s k (view v)) c.in-Object.is ∙ ap (operand_read scope s k) (view-Object _))
