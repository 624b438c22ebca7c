-- To believe: what an answer of the code says that is due: each variant of its own type is the one of es_event's Order of that meaning.
use Rattle.std.specs.Prelude.{ℕ, List, [], ◌∷◌, Option}
use Rattle.std.specs.Option.{option_copied}
use Rattle.es_event.specs.declared.command.Command.{Command}
use Rattle.es_event.specs.Order.{Due as DueSaid, begin, run, clean, take_cell, close, nothing, receive, due_end}
use Rattle.es_event.specs.History.{History}
use Rattle.es_event.specs.declared.due.Due.{Due}
use Rattle.es_event.specs.declared.due.Due.TheVariants.{Begin, Receive, Run, Clean, Take, EndJob, Close, Nothing}

-- what is due; where a collection is open over a beginning, it is finished before the job ends
abbrev pub shown : Option History → Due → DueSaid
shown o (Begin n) = begin n
shown o (Receive n s) = receive n s
shown o (Run x c) = run (option_copied x) c.now
shown o (Clean r) = clean r
shown o (Take n) = take_cell n
shown o EndJob = due_end o
shown o Close = close
shown o Nothing = nothing

-- the next of these commands, or the job's end
abbrev pub due_of : Option History → Option (List ℕ) → List Command → DueSaid
due_of o x [] = due_end o
due_of o x (c ∷ cs) = run x c
