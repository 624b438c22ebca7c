-- To believe: a fault, and where it is.
use Rattle.std.specs.Prelude.{ℕ, Bool, true, false}
use Rattle.es_reading.specs.declared.fault.FaultCode.{FaultCode}
use Rattle.es_reading.specs.declared.fault.Place.{Place}
use Rattle.es_reading.specs.declared.fault.Place.TheVariants.{Callback}
use Rattle.es_reading.specs.declared.fault.ScriptFault.{ScriptFault}

-- a fault, and where it is: the command is 0 where it is in none
abbrev pub at : Place → ℕ → FaultCode → ScriptFault
at p n c = record { code = c; place = p; command = n }

-- whether a place is in a callback
abbrev pub is_in_callback : Place → Bool
is_in_callback (Callback a k) = true
is_in_callback _ = false
