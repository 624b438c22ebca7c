-- An agent that waits at a word and notifies: what it is told, and reads of it, worked by hand from ECMA-262 (Atomics.wait, DoWait;
-- Atomics.notify), and what bent definitions would say.
use Rattle.std.proofs.Common.{◌≡◌, ℕ, false, refl, List, [], ◌∷◌, Some, None, codes, rules}
use Rattle.std.specs.Prelude.{ℤ, pos, negsuc}
use Rattle.std.specs.Fmt.{digits}
use Rattle.es_value.specs.declared.value.Value.{Value}
use Rattle.es_value.specs.declared.value.Value.TheVariants.{Undefined, Boolean, Number, Text, Object}
use Rattle.es_event.specs.declared.access.Task.{Task}
use Rattle.es_event.specs.declared.atomic.AtomicParts.{AtomicParts}
use Rattle.es_event.specs.declared.atomic.Operation.{Operation}
use Rattle.es_event.specs.declared.atomic.Operation.TheVariants.{Wait, Notify}
use Rattle.es_event.specs.declared.command.Command.{Command}
use Rattle.es_event.specs.declared.command.Command.TheVariants.{Say, SharedArrayBuffer}
use Rattle.es_event.specs.declared.event.Answer.TheVariants.{Gives, Nothing}
use Rattle.es_event.specs.declared.event.Event.{Event}
use Rattle.es_event.specs.declared.event.Event.TheVariants.{JobBegun, Did, JobEnded, Closed}
use Rattle.es_event.specs.declared.event.Refusal.TheVariants.{NotANumber, IndexOutOfRange}
use Rattle.es_event.specs.declared.operand.Operand.{Operand}
use Rattle.es_event.specs.declared.plan.AgentPlan.{AgentPlan}
use Rattle.es_event.specs.Commands.{assigns, atomic, reads}
use Rattle.es_event.specs.History.{History}
use Rattle.es_event.specs.Numbers.{task_of}
use Rattle.es_event.specs.Rows.{row}
use Rattle.es_event.specs.Rules.{refusal}
use Rattle.es_event.specs.Sharing.{Buffers}
use Rattle.es_event.proofs.Examples.{IsUnlawfulOver, plan_of}
use Rattle.es_laws.proofs.Letters.{b, m, n, o, x, y, z}
use Rattle.es_laws.proofs.Worked.{IsWorked}

abbrev wait : List ℕ → ℤ → Command
wait to n = atomic b (Operand.Number (pos 0)) (Wait to (Operand.Number n))

abbrev notify : List ℕ → Command
notify to = atomic b (Operand.Number (pos 0)) (Notify to None)

abbrev told : Command → List ℕ → Event
told c text = Did (c, Object 1 ∷ [], Gives (Text text))

abbrev took : ℕ → Event
took k = Did (notify n, Object 1 ∷ [], Gives (Number (pos k)))

abbrev said : List ℕ → Value → Event
said from v = Did (Say from, v ∷ [], Nothing)

-- A wait gives one of three texts, and a notify how many agents it took

abbrev one_word : Buffers
one_word = (1, row 1 1 1) ∷ []

abbrev plan : AgentPlan
plan = plan_of ((SharedArrayBuffer b 1 ∷ wait x (pos 1) ∷ Say x ∷ wait y (pos 0) ∷ Say y ∷ wait z (pos 0) ∷ Say z ∷ notify n ∷ Say n ∷ []) ∷ [])

abbrev made : History
made = Did (SharedArrayBuffer b 1, [], Gives (Object 1)) ∷ JobBegun 1 ∷ []

abbrev waited : History
waited = said z (Text (codes "timed-out")) ∷ told (wait z (pos 0)) (codes "timed-out") ∷ said y (Text (codes "ok")) ∷ told (wait y (pos 0)) (codes "ok") ∷ said x (Text (codes "not-equal")) ∷ told (wait x (pos 1)) (codes "not-equal") ∷ made

abbrev closed : History
closed = Closed ∷ JobEnded ∷ said n (Number (pos 2)) ∷ took 2 ∷ waited

pub worked : IsWorked one_word plan closed (codes "agent a\nsay \"not-equal\"\nsay \"ok\"\nsay \"timed-out\"\nsay 2\nend live 0 awaiting 0 unregistered 0 taken 0\n")
unfolding digits
worked = record { whole = (search rules, search rules); report = refl }

no_other_text : IsUnlawfulOver one_word plan made (told (wait x (pos 1)) (codes "woken"))
no_other_text lawful = cc

no_number : IsUnlawfulOver one_word plan made (Did (wait x (pos 1), Object 1 ∷ [], Gives (Number (pos 0))))
no_number lawful = cc

no_text : IsUnlawfulOver one_word plan waited (Did (notify n, Object 1 ∷ [], Gives (Text (codes "ok"))))
no_text lawful = cc

-- What is done at the word: the number that is waited for is a word, and the count is cut to the agents that a run has at most

abbrev on_word : Operation → AtomicParts
on_word how = record { buffer = b; index = Operand.Variable m; operation = how }

waits_for_a_word : task_of (on_word (Wait x (Operand.Number (pos 4294967297)))) (Object 1 ∷ Undefined ∷ []) ≡ Task.Sleep 1
waits_for_a_word = refl

waits_for_a_variable : task_of (on_word (Wait x (Operand.Variable n))) (Object 1 ∷ Number (pos 3) ∷ Text (codes " -1") ∷ []) ≡ Task.Sleep 4294967295
waits_for_a_variable = refl

takes_all : task_of (on_word (Notify x None)) (Object 1 ∷ Number (pos 3) ∷ []) ≡ Task.Notify 8
takes_all = refl

takes_as_many : task_of (on_word (Notify x (Some (Operand.Number (pos 3))))) (Object 1 ∷ Undefined ∷ []) ≡ Task.Notify 3
takes_as_many = refl

takes_no_more_than_all : task_of (on_word (Notify x (Some (Operand.Number (pos 9))))) (Object 1 ∷ Undefined ∷ []) ≡ Task.Notify 8
takes_no_more_than_all = refl

-- a count below 0 is 0: it is not taken for all
takes_nobody : task_of (on_word (Notify x (Some (Operand.Number (negsuc 0))))) (Object 1 ∷ Undefined ∷ []) ≡ Task.Notify 0
takes_nobody = refl

-- a variable that was never assigned counts all, and one that is false nobody
undefined_takes_all : task_of (on_word (Notify x (Some (Operand.Variable n)))) (Object 1 ∷ Number (pos 3) ∷ Undefined ∷ []) ≡ Task.Notify 8
undefined_takes_all = refl

false_takes_nobody : task_of (on_word (Notify x (Some (Operand.Variable n)))) (Object 1 ∷ Number (pos 3) ∷ Boolean false ∷ []) ≡ Task.Notify 0
false_takes_nobody = refl

-- What a wait and a notify read and assign, and what is refused of them

a_wait_reads : reads (atomic b (Operand.Variable m) (Wait x (Operand.Variable n))) ≡ b ∷ m ∷ n ∷ []
a_wait_reads = refl

a_notify_reads : reads (atomic b (Operand.Variable m) (Notify x (Some (Operand.Variable n)))) ≡ b ∷ m ∷ n ∷ []
a_notify_reads = refl

a_notify_of_all_reads : reads (notify x) ≡ b ∷ []
a_notify_of_all_reads = refl

both_assign : (assigns (wait x (pos 0)) ≡ Some x) × (assigns (notify y) ≡ Some y)
both_assign = (refl, refl)

-- the index before the word, and the word before it is compared
past_the_block : refusal one_word made (atomic b (Operand.Number (pos 1)) (Wait x (Operand.Variable o))) (Object 1 ∷ Object 1 ∷ []) ≡ Some IndexOutOfRange
past_the_block = refl

the_word_is_a_number : refusal one_word made (atomic b (Operand.Number (pos 0)) (Wait x (Operand.Variable o))) (Object 1 ∷ Object 1 ∷ []) ≡ Some NotANumber
the_word_is_a_number = refl

the_count_is_a_number : refusal one_word made (atomic b (Operand.Number (pos 0)) (Notify x (Some (Operand.Variable o)))) (Object 1 ∷ Object 1 ∷ []) ≡ Some NotANumber
the_count_is_a_number = refl
