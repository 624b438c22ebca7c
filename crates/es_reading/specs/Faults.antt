-- Internal: which faults a command's form alone has.
use Rattle.std.specs.Prelude.{Bool, true, false}
use Rattle.es_reading.specs.declared.fault.FaultCode.{FaultCode}
use Rattle.es_reading.specs.declared.fault.FaultCode.TheVariants.{Operands, Collection}

-- its word, its operands' number and kinds, or that it stands in a callback
abbrev pub is_of_form : FaultCode → Bool
is_of_form Operands = true
is_of_form Collection = true
is_of_form c = false
