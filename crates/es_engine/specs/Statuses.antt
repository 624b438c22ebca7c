-- To believe: the statuses of the program, and when it says nothing on standard error.
use Rattle.std.specs.Prelude.{ℕ, ◌==◌, Bool, true, false, List, [], ◌∷◌}
use Rattle.es_engine.specs.declared.run_fault.RunFault.TheVariants.{Script, NoMemory, Mismatch, Read, Write}
use Rattle.es_engine.specs.declared.ending.Ending.{Ending}
use Rattle.es_engine.specs.declared.ending.Ending.TheVariants.{Done, Warned, Helped, Mistaken, Failed}
use Rattle.es_warnings.specs.declared.warning.Warning.{Warning}

abbrev pub status_for : Ending → ℕ
status_for (Done audits) = 0
status_for Warned = 0
status_for Helped = 0
status_for Mistaken = 2
status_for (Failed (Script f)) = 1
status_for (Failed NoMemory) = 3
status_for (Failed Read) = 4
status_for (Failed Write) = 4
status_for (Failed Mismatch) = 5

-- all went well, and no audits were asked for
abbrev pub is_silent : Ending → Bool
is_silent (Done audits) = audits == 0
is_silent Warned = false
is_silent Helped = true
is_silent Mistaken = false
is_silent (Failed f) = false

-- how a check ends that told these warnings
abbrev pub ending_of : List Warning → Ending
ending_of [] = Done 0
ending_of (w ∷ ws) = Warned
