-- To believe: what an agent's event asks of the ledger.
use Rattle.std.specs.Prelude.{ℕ, ℤ, Bool, true, false, ◌&&◌, List, [], ◌∷◌, if◌then◌else◌}
use Rattle.es_value.specs.declared.value.Value.{Value}
use Rattle.es_value.specs.declared.value.Value.TheVariants.{Undefined}
use Rattle.es_event.specs.declared.access.Access.{Access}
use Rattle.es_event.specs.declared.access.Task.{Task}
use Rattle.es_event.specs.declared.access.WaitResult.{WaitResult}
use Rattle.es_event.specs.declared.command.Command.{Command}
use Rattle.es_event.specs.declared.command.Command.TheVariants.{SharedArrayBuffer, Length, SameBlock, Atomic, Post}
use Rattle.es_event.specs.declared.event.Answer.{Answer}
use Rattle.es_event.specs.declared.event.Answer.TheVariants.{Nothing, Gives, Listed}
use Rattle.es_event.specs.declared.event.Refusal.{Refusal}
use Rattle.es_event.specs.declared.event.Refusal.TheVariants.{TooManyValues}
use Rattle.es_event.specs.declared.event.Event.{Event}
use Rattle.es_event.specs.declared.event.Event.TheVariants.{JobBegun, CleanupBegun, Received, Did, Refused, Emptied, Taken, JobEnded, Skipped, Closed}
use Rattle.es_event.specs.Heard.{wait_given}
use Rattle.es_event.specs.Numbers.{index_of, task_of}
use Rattle.es_event.specs.Commands.{first, second}
use Rattle.es_event.specs.History.{History}

-- what is asked; an answer is the value that the command gave; a wait finds another word than this, or sleeps and ends so
pub data Asking : Type 0 where
  nothing : Asking
  to_open : (words : ℕ) (made : Value) → Asking
  to_measure : (buffer answer : Value) → Asking
  to_compare : (left right answer : Value) → Asking
  to_access : (buffer : Value) (index : ℤ) (access : Access) (answer : Value) → Asking
  to_miss : (buffer : Value) (index : ℤ) (word : ℕ) → Asking
  to_sleep : (buffer : Value) (index : ℤ) (word : ℕ) (ended : WaitResult) → Asking
  to_notify : (buffer : Value) (index : ℤ) (count : ℕ) (answer : Value) → Asking
  to_post : (receiver : ℕ) (value : Value) → Asking
  to_receive : (sender : ℕ) (value : Value) → Asking
  to_refuse : Asking
  to_pass : (sender : ℕ) → Asking
  to_empty : (ids : List ℕ) → Asking
  to_close : Asking

-- no job is under way after the event
abbrev pub ends_job : Event → Bool
ends_job (JobBegun j) = false
ends_job (CleanupBegun q) = false
ends_job (Received t v) = false
ends_job (Did (c, vs, r)) = false
ends_job (Refused code) = false
ends_job (Emptied ids) = false
ends_job (Taken n held) = false
ends_job JobEnded = true
ends_job (Skipped j t) = true
ends_job Closed = false

-- no job is under way
abbrev pub between_jobs : History → Bool
between_jobs [] = true
between_jobs (e ∷ earlier) = ends_job e

-- the value that a command gave, undefined where it gave none
abbrev pub given : Answer → Value
given Nothing = Undefined
given (Gives v) = v
given (Listed ks) = Undefined

-- what a wait asks that ended so
abbrev pub asks_wait : Value → ℤ → ℕ → WaitResult → Asking
asks_wait b i w WaitResult.Woken = to_sleep b i w WaitResult.Woken
asks_wait b i w WaitResult.NotEqual = to_miss b i w
asks_wait b i w WaitResult.TimedOut = to_sleep b i w WaitResult.TimedOut

-- what a command asks that does this at a word, and gave this
abbrev pub asks_word : Value → ℤ → Task → Value → Asking
asks_word b i (Task.Access m) v = to_access b i m v
asks_word b i (Task.Sleep w) v = asks_wait b i w (wait_given v)
asks_word b i (Task.Notify n) v = to_notify b i n v

-- of commands, those that are not on buffers or messages ask nothing
abbrev pub asks_did : Command → List Value → Answer → Asking
asks_did (SharedArrayBuffer to n) vs r = to_open n (given r)
asks_did (Length to b) vs r = to_measure (first vs) (given r)
asks_did (SameBlock to b c) vs r = to_compare (first vs) (second vs) (given r)
asks_did (Atomic a) vs r = asks_word (first vs) (index_of a vs) (task_of a vs) (given r)
asks_did (Post a y) vs r = to_post a (first vs)
asks_did _ vs r = nothing

abbrev pub wants_room : Refusal → Bool
wants_room TooManyValues = true
wants_room _ = false

-- what the event asks; where no job is under way, a refusal for want of room for one more value is that of a receipt
abbrev pub asks : Bool → Event → Asking
asks between (JobBegun j) = nothing
asks between (CleanupBegun q) = nothing
asks between (Received t v) = to_receive t v
asks between (Did (c, vs, r)) = asks_did c vs r
asks between (Refused code) = if between && wants_room code then to_refuse else nothing
asks between (Emptied ids) = to_empty ids
asks between (Taken n held) = nothing
asks between JobEnded = nothing
asks between (Skipped j t) = to_pass t
asks between Closed = to_close
