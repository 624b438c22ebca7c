-- To believe: what an agent's event takes from outside of the agent.
use Rattle.std.specs.Prelude.{ℕ, pos, codes, if◌then◌else◌}
use Rattle.es_value.specs.declared.value.Value.{Value}
use Rattle.es_value.specs.declared.value.Value.TheVariants.{Number, Text}
use Rattle.std.specs.Str.{bytes_eq}
use Rattle.es_event.specs.declared.access.WaitResult.{WaitResult}
use Rattle.es_event.specs.declared.access.WaitResult.TheVariants.{Woken, NotEqual, TimedOut}
use Rattle.es_event.specs.declared.atomic.Operation.{Operation}
use Rattle.es_event.specs.declared.command.Command.{Command}
use Rattle.es_event.specs.declared.event.Answer.{Answer}
use Rattle.es_event.specs.declared.event.Answer.TheVariants.{Nothing, Gives, Listed}

-- nothing; a word of shared memory, or how many agents a notify took; how a wait ended; a message's value; or that none comes
pub data Heard : Type 0 where
  silence : Heard
  a_word : ℕ → Heard
  a_wait : WaitResult → Heard
  a_message : Value → Heard
  no_message : Heard

-- the word that was heard
abbrev pub word_heard : Heard → ℕ
word_heard (a_word w) = w
word_heard _ = 0

-- how the wait ended, as it was heard
abbrev pub wait_heard : Heard → WaitResult
wait_heard (a_wait r) = r
wait_heard _ = NotEqual

-- By the answer

-- the number that was answered
abbrev pub natural : Value → ℕ
natural (Number (pos n)) = n
natural _ = 0

abbrev pub word_in : Answer → ℕ
word_in Nothing = 0
word_in (Gives v) = natural v
word_in (Listed ks) = 0

-- how a wait ended that gave this
abbrev pub wait_given : Value → WaitResult
wait_given (Text t) = if bytes_eq t (codes "ok") then Woken else if bytes_eq t (codes "timed-out") then TimedOut else NotEqual
wait_given _ = NotEqual

abbrev pub wait_in : Answer → WaitResult
wait_in Nothing = NotEqual
wait_in (Gives v) = wait_given v
wait_in (Listed ks) = NotEqual

-- what a command on a word heard that was answered so
abbrev pub heard_at : Operation → Answer → Heard
heard_at (Operation.Store n) r = silence
heard_at (Operation.Wait to n) r = a_wait (wait_in r)
heard_at _ r = a_word (word_in r)

-- what a command heard that was answered so
abbrev pub heard_by : Command → Answer → Heard
heard_by (Command.Atomic a) r = heard_at a.operation r
heard_by _ r = silence
