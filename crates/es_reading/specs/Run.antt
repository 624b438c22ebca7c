-- Internal: what a job or a callback runs, while it is read.
use Rattle.std.specs.Prelude.{◌≡◌, ⊤, List, Result, Ok, Err}
use Rattle.es_reading.specs.declared.fault.ReadFault.{ReadFault}
use Rattle.es_reading.specs.declared.fault.ReadFault.TheVariants.{Script, NoMemory}
use Rattle.es_reading.specs.declared.fault.ScriptFault.{ScriptFault}
use Rattle.es_reading.specs.declared.run.Run.{Run}
use Rattle.es_reading.specs.Lines.{Line, commands_in, catches_in}

-- it has the commands of these lines, and their variables
abbrev pub HasLines : List Line → Run → Type 0
HasLines ls r = (r.commands ≡ commands_in ls) × (r.catches ≡ catches_in ls)

-- What a function answers has the lines that are read, unless there was no memory.
abbrev pub GivesRun : Result Run ReadFault → Result (List Line) ScriptFault → Type 0
GivesRun (Ok r) read = (ls : List Line) × (read ≡ Ok ls) × HasLines ls r
GivesRun (Err (Script f)) read = read ≡ Err f
GivesRun (Err NoMemory) read = ⊤
