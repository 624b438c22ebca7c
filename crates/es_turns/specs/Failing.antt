-- To believe: why there is no answer to the bytes of a plan.
use Rattle.std.specs.Prelude.{ℕ, ◌≡◌, ◌<◌, ⊤, List, Some, length}
use Rattle.es_value.specs.Limits.{longest_plan}
use Rattle.es_script.specs.Fault.{fault_of}
use Rattle.es_turns.specs.declared.fault.TurnsFault.{TurnsFault}
use Rattle.es_turns.specs.declared.fault.TurnsFault.TheVariants.{Script, NoMemory, TooLong}

-- the first fault in the bytes; that there was no memory; or that they are more than a plan has at most
abbrev pub IsFaultOf : List ℕ → TurnsFault → Type 0
IsFaultOf bytes (Script f) = fault_of bytes ≡ Some f
IsFaultOf bytes NoMemory = ⊤
IsFaultOf bytes TooLong = longest_plan < length bytes
