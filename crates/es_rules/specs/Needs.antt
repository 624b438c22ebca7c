-- To believe: what an agent asks for next, and what the ledger is asked for by a command.
use Rattle.std.specs.Prelude.{ℕ, ℤ, ◌≡◌, ⊤, Bool, true, false, ◌&&◌, not, List, [], Option, Some, None, is_none, unsigned_abs, if◌then◌else◌}
use Rattle.std.specs.Option.{option_map}
use Rattle.es_value.specs.declared.value.Value.{Value}
use Rattle.es_value.specs.declared.value.Value.TheVariants.{Object}
use Rattle.es_event.specs.declared.access.Task.{Task}
use Rattle.es_event.specs.declared.event.Answer.{Answer}
use Rattle.es_event.specs.declared.event.Answer.TheVariants.{Nothing, Gives}
use Rattle.es_event.specs.declared.command.Command.{Command}
use Rattle.es_event.specs.declared.command.Command.TheVariants.{SharedArrayBuffer, Atomic, Post}
use Rattle.es_event.specs.declared.event.Event.{Event}
use Rattle.es_event.specs.declared.event.Event.TheVariants.{Received, Did}
use Rattle.es_event.specs.declared.event.Refusal.{Refusal}
use Rattle.es_event.specs.declared.row.Row.{Row}
use Rattle.es_event.specs.Numbers.{index_of, task_of}
use Rattle.es_event.specs.Commands.{reads, first}
use Rattle.es_event.specs.History.{History}
use Rattle.es_event.specs.Identities.{object_of}
use Rattle.es_event.specs.Jobs.{receivers}
use Rattle.es_event.specs.Later.{is_later, snapshot, collects_now}
use Rattle.es_event.specs.Rules.{refusal}
use Rattle.es_event.specs.Legal.{values_of}
use Rattle.es_event.specs.Order.{Due, begin, receive, run, clean, take_cell, finish, end_job, close, nothing, due, RunsNow}
use Rattle.es_record.specs.AgentView.{AgentView}

-- what the ledger is asked for: a new block of so many words; to post to a receiver a value, or the block of a buffer object; or
-- what is done at the word at an index of a buffer object's block
pub data Request : Type 0 where
  for_block : ℕ → Request
  for_post : ℕ → Value → Request
  for_buffer_post : ℕ → ℕ → Request
  for_word : ℕ → ℕ → Task → Request

abbrev pub posts_to : ℕ → Value → Request
posts_to a (Object o) = for_buffer_post a o
posts_to a v = for_post a v

-- what is done at the word at this index of the block of a value, where it is an object
abbrev pub at_word : Value → ℤ → Task → Option Request
at_word v i t = option_map (λ o. for_word o (unsigned_abs i) t) (object_of v)

-- what a command asks for with these values; no other command asks for anything (SharedArrayBuffer ( length ), The Atomics Object)
abbrev pub asked : Command → List Value → Option Request
asked (SharedArrayBuffer to n) vs = Some (for_block n)
asked (Atomic a) vs = at_word (first vs) (index_of a vs) (task_of a vs)
asked (Post a y) vs = Some (posts_to a (first vs))
asked _ vs = None

-- no other command asks the ledger for anything
abbrev pub is_for_ledger : Command → Bool
is_for_ledger (SharedArrayBuffer to n) = true
is_for_ledger (Atomic a) = true
is_for_ledger (Post a y) = true
is_for_ledger _ = false

-- such a command is due
abbrev pub runs_for_ledger : Due → Bool
runs_for_ledger (run x c) = is_for_ledger c
runs_for_ledger _ = false

-- a command that is refused asks for nothing
abbrev pub unless_refused : Option Refusal → Option Request → Option Request
unless_refused None r = r
unless_refused (Some code) r = None

abbrev pub request : AgentView → Command → Option Request
request b c = unless_refused (refusal b.over b.history c (values_of (receivers b.plan.jobs) b.history (reads c))) (asked c (values_of (receivers b.plan.jobs) b.history (reads c)))

-- what an agent asks for: nobody, for a step that it takes alone; the marks of what it reaches, to empty all else; a copy of its
-- graph, to open a later collection; the marks of that copy, to finish it; the ledger; a message of a sender, or to skip the job
-- that waits for it; its closing; or nothing, as it has closed
pub data Need : Type 0 where
  asks_nobody : Need
  asks_marks : Need
  asks_copy : Need
  asks_late_marks : Need
  asks_ledger : Request → Need
  asks_message : ℕ → Need
  asks_closing : Need
  asks_nothing : Need

abbrev pub ledger_or_nobody : Option Request → Need
ledger_or_nobody None = asks_nobody
ledger_or_nobody (Some r) = asks_ledger r

-- the command opens a later collection, as none is open
abbrev pub opens_now : History → Command → Bool
opens_now h c = is_later c && is_none (snapshot h)

-- what the agent asks for, where this is due
abbrev pub need_of : AgentView → Due → Need
need_of b (begin n) = asks_nobody
need_of b (receive n s) = asks_message s
need_of b (run x c) = if collects_now b.history c then asks_marks else if opens_now b.history c then asks_copy else ledger_or_nobody (request b c)
need_of b (clean r) = asks_nobody
need_of b (take_cell n) = asks_nobody
need_of b (finish p) = asks_late_marks
need_of b end_job = asks_nobody
need_of b close = asks_closing
need_of b nothing = asks_nothing

-- what the agent asks for next
abbrev pub need : AgentView → Need
need b = need_of b (due b.plan b.history)

-- What answers it

-- a ticket with this row does: of a block that was asked for, or of one that comes in a message
abbrev pub TakesTicket : Need → Row → Type 0
TakesTicket asks_nobody r = ⊥
TakesTicket asks_marks r = ⊥
TakesTicket asks_copy r = ⊥
TakesTicket asks_late_marks r = ⊥
TakesTicket (asks_ledger (for_block n)) r = r.words ≡ n
TakesTicket (asks_ledger (for_post a v)) r = ⊥
TakesTicket (asks_ledger (for_buffer_post a o)) r = ⊥
TakesTicket (asks_ledger (for_word o i t)) r = ⊥
TakesTicket (asks_message s) r = ⊤
TakesTicket asks_closing r = ⊥
TakesTicket asks_nothing r = ⊥

-- what is done at a word gives a word, where an access gives what was there, or how many agents a notify took; nothing, where an
-- access gives nothing; or how a wait ended
abbrev pub gives_word : Task → Bool
gives_word (Task.Access m) = m.gives_word
gives_word (Task.Sleep w) = false
gives_word (Task.Notify n) = true

abbrev pub gives_nothing : Task → Bool
gives_nothing (Task.Access m) = not m.gives_word
gives_nothing (Task.Sleep w) = false
gives_nothing (Task.Notify n) = false

abbrev pub gives_wait_result : Task → Bool
gives_wait_result (Task.Access m) = false
gives_wait_result (Task.Sleep w) = true
gives_wait_result (Task.Notify n) = false

-- a word does: of an access that gives the word that was there, or of a notify that took so many
abbrev pub TakesWord : Need → Type 0
TakesWord asks_nobody = ⊥
TakesWord asks_marks = ⊥
TakesWord asks_copy = ⊥
TakesWord asks_late_marks = ⊥
TakesWord (asks_ledger (for_block n)) = ⊥
TakesWord (asks_ledger (for_post a v)) = ⊥
TakesWord (asks_ledger (for_buffer_post a o)) = ⊥
TakesWord (asks_ledger (for_word o i t)) = gives_word t ≡ true
TakesWord (asks_message s) = ⊥
TakesWord asks_closing = ⊥
TakesWord asks_nothing = ⊥

-- that it was done does: of an access that gives nothing, or of a post
abbrev pub TakesDone : Need → Type 0
TakesDone asks_nobody = ⊥
TakesDone asks_marks = ⊥
TakesDone asks_copy = ⊥
TakesDone asks_late_marks = ⊥
TakesDone (asks_ledger (for_block n)) = ⊥
TakesDone (asks_ledger (for_post a v)) = ⊤
TakesDone (asks_ledger (for_buffer_post a o)) = ⊤
TakesDone (asks_ledger (for_word o i t)) = gives_nothing t ≡ true
TakesDone (asks_message s) = ⊥
TakesDone asks_closing = ⊥
TakesDone asks_nothing = ⊥

-- how a wait ended does: of a wait
abbrev pub TakesWaitResult : Need → Type 0
TakesWaitResult asks_nobody = ⊥
TakesWaitResult asks_marks = ⊥
TakesWaitResult asks_copy = ⊥
TakesWaitResult asks_late_marks = ⊥
TakesWaitResult (asks_ledger (for_block n)) = ⊥
TakesWaitResult (asks_ledger (for_post a v)) = ⊥
TakesWaitResult (asks_ledger (for_buffer_post a o)) = ⊥
TakesWaitResult (asks_ledger (for_word o i t)) = gives_wait_result t ≡ true
TakesWaitResult (asks_message s) = ⊥
TakesWaitResult asks_closing = ⊥
TakesWaitResult asks_nothing = ⊥

-- the due command before it is done: it read and gave nothing yet
abbrev pub IsBefore : AgentView → Command × List Value × Answer → Type 0
IsBefore b d = RunsNow (due b.plan b.history) d.0 × (d.1 ≡ []) × (d.2 ≡ Nothing)

-- the event is the due command, done with this answer
abbrev pub IsDone : AgentView → Answer → Event → Type 0
IsDone b r e = (c : Command) × RunsNow (due b.plan b.history) c × (e ≡ Did (c, values_of (receivers b.plan.jobs) b.history (reads c), r))

-- the event brings the object o: it is the answer of the due command, or a receipt
abbrev pub Brings : Due → ℕ → Event → Type 0
Brings (begin n) o e = ⊥
Brings (receive n s) o e = e ≡ Received s (Object o)
Brings (run x c) o e = e ≡ Did (c, [], Gives (Object o))
Brings (clean r) o e = ⊥
Brings (take_cell n) o e = ⊥
Brings (finish p) o e = ⊥
Brings end_job o e = ⊥
Brings close o e = ⊥
Brings nothing o e = ⊥
