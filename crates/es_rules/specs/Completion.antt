-- Internal: what a command comes to, in the code's errors.
use Rattle.std.specs.Prelude.{ℕ, ◌≡◌, ⊤, Option, Some, None, Result, Ok, Err}
use Rattle.es_event.specs.declared.event.Refusal.{Refusal}
use Rattle.es_event.specs.declared.event.Refusal.TheVariants.{NotAnObject}
use Rattle.es_rules.specs.declared.stop.Stop.{Stop}
use Rattle.es_rules.specs.declared.stop.Stop.TheVariants.{Refused, NoMemory}

-- it is this, unless there was no memory
abbrev pub Completes : {A : Type 0} → Result A Refusal → Result A Stop → Type 0
Completes completion (Ok a) = completion ≡ Ok a
Completes completion (Err (Refused code)) = completion ≡ Err code
Completes completion (Err NoMemory) = ⊤

-- the object, or the refusal where there is none
abbrev pub object_or_refusal : Option ℕ → Result ℕ Refusal
object_or_refusal None = Err NotAnObject
object_or_refusal (Some i) = Ok i
