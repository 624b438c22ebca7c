-- What a command on a word takes of its variables is what its operands are to the agent.
use Rattle.std.proofs.Common.{◌≡◌, ℕ, ℤ, Bool, true, false, cond, if◌then◌else◌, None, ◌∙◌, sym, ap, refl, List, [], ◌∷◌, ◌++◌, map, Option, Some, Result, Ok, Err}
use Rattle.std.specs.Prelude.{IfErr, IsErrAnd, drop, unsigned_abs}
use Rattle.std.specs.Option.{option_map}
use Rattle.es_value.specs.declared.value.Value.{Value}
use Rattle.es_event.specs.declared.access.Task.{Task}
use Rattle.es_event.specs.declared.atomic.AtomicParts.{AtomicParts}
use Rattle.es_event.specs.declared.command.Command.{Command}
use Rattle.es_event.specs.declared.event.Refusal.{Refusal}
use Rattle.es_event.specs.declared.event.Refusal.TheVariants.{NotASharedArrayBuffer, IndexOutOfRange}
use Rattle.es_event.specs.declared.operand.Operand.{Operand}
use Rattle.es_event.specs.Access.{variable_of, variables_of, operands_of}
use Rattle.es_event.specs.Commands.{reads}
use Rattle.es_event.specs.Heard.{Heard}
use Rattle.es_event.specs.Identities.{object_of}
use Rattle.es_event.specs.Jobs.{receivers}
use Rattle.es_event.specs.Legal.{values_of}
use Rattle.es_event.specs.Numbers.{operand_number, after_operand, numbers_of, number_or_0, index_read, index_of, words_read, task_by, task_of, word_at}
use Rattle.es_event.specs.Rules.{completion, first_refusal, of_buffer, of_index, of_number, refusal, refuse_or, answer_at}
use Rattle.es_event.specs.Sharing.{is_index, words_of}
use Rattle.es_event.specs.Variables.{var}
use Rattle.es_record.specs.AgentView.{AgentView}
use Rattle.es_rules.specs.Needs.{at_word, asked, for_word, request, unless_refused}
use Rattle.es_rules.specs.Numbers.{access_by, number_at, numbers_at, refusal_at, refusal_by, task_here}

-- the values that the command takes
abbrev pub values_at : AgentView → AtomicParts → List Value
values_at b a = values_of (receivers b.plan.jobs) b.history (reads (Command.Atomic a))

number_there : (b : AgentView) (o : Operand) (xs : List _) → operand_number o (values_of (receivers b.plan.jobs) b.history (variable_of o ++ xs)) ≡ number_at b o
number_there b (Operand.Number n) xs = refl
number_there b (Operand.Variable x) xs = refl

rest_there : (b : AgentView) (o : Operand) (xs : List _) → after_operand o (values_of (receivers b.plan.jobs) b.history (variable_of o ++ xs)) ≡ values_of (receivers b.plan.jobs) b.history xs
rest_there b (Operand.Number n) xs = refl
rest_there b (Operand.Variable x) xs = refl

numbers_there : (b : AgentView) (os : List Operand) → numbers_of os (values_of (receivers b.plan.jobs) b.history (variables_of os)) ≡ map (number_at b) os
numbers_there b [] = refl
numbers_there b (o ∷ os) =
    ap (λ n. n ∷ numbers_of os (after_operand o (values_of (receivers b.plan.jobs) b.history (variable_of o ++ variables_of os)))) (number_there b o (variables_of os))
    ∙ ap (λ vs. number_at b o ∷ numbers_of os vs) (rest_there b o (variables_of os))
    ∙ ap (λ ns. number_at b o ∷ ns) (numbers_there b os)

pub index_there : (b : AgentView) (a : AtomicParts) → index_read a (values_at b a) ≡ number_at b a.index
index_there b a = number_there b a.index (variables_of (operands_of a.operation))

pub words_there : (b : AgentView) (a : AtomicParts) → words_read a (values_at b a) ≡ numbers_at b a.operation
words_there b a = ap (numbers_of (operands_of a.operation)) (rest_there b a.index (variables_of (operands_of a.operation))) ∙ numbers_there b (operands_of a.operation)

pub refusal_there : (b : AgentView) (a : AtomicParts) → refusal b.over b.history (Command.Atomic a) (values_at b a) ≡ refusal_at b a
refusal_there b a = ap (λ i. refusal_by b a i (words_read a (values_at b a))) (index_there b a) ∙ ap (refusal_by b a (number_at b a.index)) (words_there b a)

pub index_of_there : (b : AgentView) (a : AtomicParts) → index_of a (values_at b a) ≡ number_or_0 (number_at b a.index)
index_of_there b a = ap number_or_0 (index_there b a)

pub task_there : (b : AgentView) (a : AtomicParts) → task_of a (values_at b a) ≡ task_here b a
task_there b a =
    ap (λ ns. task_by a.operation (access_by a ns) (word_at 0 ns) (after_operand a.index (drop 1 (values_at b a)))) (words_there b a)
    ∙ ap (task_by a.operation (access_by a (numbers_at b a.operation)) (word_at 0 (numbers_at b a.operation))) (rest_there b a.index (variables_of (operands_of a.operation)))

-- The refusals of a command on a word

abbrev buffer_at : AgentView → AtomicParts → Value
buffer_at b a = var (receivers b.plan.jobs) b.history a.buffer

behind_buffer : (b : AgentView) (a : AtomicParts) (i : Result ℤ Refusal) (ws : List (Result ℤ Refusal)) → (of_buffer b.history (buffer_at b a)).0 ≡ true
    → refusal_by b a i ws ≡ first_refusal (of_number i ∷ of_index b.over (buffer_at b a) (number_or_0 i) ∷ map of_number ws)
behind_buffer b a i ws buffer = ap (λ t. cond t (first_refusal (of_number i ∷ of_index b.over (buffer_at b a) (number_or_0 i) ∷ map of_number ws)) (Some NotASharedArrayBuffer)) buffer

-- the index is no number
pub no_index : (b : AgentView) (a : AtomicParts) (i : Result ℤ Refusal) (ws : List (Result ℤ Refusal)) (code : Refusal) → (of_buffer b.history (buffer_at b a)).0 ≡ true → i ≡ Err code → refusal_by b a i ws ≡ Some code
no_index b a i ws code buffer none = behind_buffer b a i ws buffer ∙ ap (λ i. first_refusal (of_number i ∷ of_index b.over (buffer_at b a) (number_or_0 i) ∷ map of_number ws)) none

-- another operand is none
pub no_word : (b : AgentView) (a : AtomicParts) (i : Result ℤ Refusal) (j : ℤ) (ws : List (Result ℤ Refusal)) (code : Refusal) → (of_buffer b.history (buffer_at b a)).0 ≡ true → i ≡ Ok j → is_index j (words_of b.over (buffer_at b a)) ≡ true
    → first_refusal (map of_number ws) ≡ Some code → refusal_by b a i ws ≡ Some code
no_word b a i j ws code buffer number index none =
    behind_buffer b a i ws buffer ∙ ap (λ i. first_refusal (of_number i ∷ of_index b.over (buffer_at b a) (number_or_0 i) ∷ map of_number ws)) number
    ∙ ap (λ t. cond t (first_refusal (map of_number ws)) (Some IndexOutOfRange)) index ∙ none

pub some_index : (p : Bool) (r : Option ℕ) (n k : ℕ) → r ≡ (if p then Some n else None) → r ≡ Some k → p ≡ true
some_index true r n k is some = refl
some_index false r n k is some = cc

-- what ends with a refusal that applies tells one that does
pub refused_so : {A : Type 0} (r : Result A Refusal) (code : Refusal) (o : Option Refusal) → IsErrAnd r (λ d. d ≡ code) → o ≡ Some code → IfErr r (λ d. o ≡ Some d)
refused_so (Ok x) code o is told = tt
refused_so (Err d) code o is told = told ∙ ap Some (sym is)

-- What it asks for, and what it comes to

pub request_there : (b : AgentView) (a : AtomicParts)
    → request b (Command.Atomic a) ≡ unless_refused (refusal_at b a) (at_word (buffer_at b a) (number_or_0 (number_at b a.index)) (task_here b a))
request_there b a =
    ap (λ f. unless_refused f (asked (Command.Atomic a) (values_at b a))) (refusal_there b a)
    ∙ ap (λ j. unless_refused (refusal_at b a) (at_word (buffer_at b a) j (task_of a (values_at b a)))) (index_of_there b a)
    ∙ ap (λ t. unless_refused (refusal_at b a) (at_word (buffer_at b a) (number_or_0 (number_at b a.index)) t)) (task_there b a)

-- one that is not refused asks the ledger
some_request : (f : Option Refusal) (o : Option ℕ) (i : ℕ) (j : ℤ) (t : Task) → f ≡ None → o ≡ Some i → unless_refused f (option_map (λ o. for_word o (unsigned_abs j) t) o) ≡ None → ⊥
some_request None None i j t none some is = cc
some_request None (Some k) i j t none some is = cc
some_request (Some code) o i j t none some is = cc

pub asks_there : (b : AgentView) (a : AtomicParts) (o : ℕ) → request b (Command.Atomic a) ≡ None → refusal_at b a ≡ None → object_of (buffer_at b a) ≡ Some o → ⊥
asks_there b a o asks none some = some_request (refusal_at b a) (object_of (buffer_at b a)) o (number_or_0 (number_at b a.index)) (task_here b a) none some (sym (request_there b a) ∙ asks)

pub completion_there : (b : AgentView) (a : AtomicParts) (x : Heard) → completion b.over b.history (Command.Atomic a) (values_at b a) x ≡ refuse_or (refusal_at b a) (answer_at a.operation x)
completion_there b a x = ap (λ f. refuse_or f (answer_at a.operation x)) (refusal_there b a)
