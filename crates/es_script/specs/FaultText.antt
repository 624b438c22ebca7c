-- To believe: the text of a fault.
use Rattle.std.specs.Prelude.{ℕ, zero, suc, List, [], ◌++◌, codes, decimal}
use Rattle.es_reading.specs.declared.fault.Place.{Place}
use Rattle.es_reading.specs.declared.fault.Place.TheVariants.{Whole, Agent, Callback, Job}
use Rattle.es_reading.specs.declared.fault.ScriptFault.{ScriptFault}
use Rattle.es_reading.specs.Numbers.{number_of}

abbrev pub place_text : Place → List ℕ
place_text Whole = []
place_text (Agent n) = codes " agent " ++ decimal n
place_text (Callback n k) = codes " agent " ++ decimal n ++ codes " callback " ++ decimal k
place_text (Job n j) = codes " agent " ++ decimal n ++ codes " job " ++ decimal j

-- none where the number is 0
abbrev pub command_text : ℕ → List ℕ
command_text zero = []
command_text (suc n) = codes " command " ++ decimal (suc n)

abbrev pub fault_text : ScriptFault → List ℕ
fault_text f = codes "refused S" ++ decimal (number_of f.code) ++ place_text f.place ++ command_text f.command
