-- Internal: what the operands of a command on a word are to an agent.
use Rattle.std.specs.Prelude.{ℤ, List, ◌∷◌, Option, Result, Ok, is_some, map}
use Rattle.es_event.specs.declared.access.Access.{Access}
use Rattle.es_event.specs.declared.access.Task.{Task}
use Rattle.es_event.specs.declared.atomic.AtomicParts.{AtomicParts}
use Rattle.es_event.specs.declared.atomic.Operation.{Operation}
use Rattle.es_event.specs.declared.event.Refusal.{Refusal}
use Rattle.es_event.specs.declared.operand.Operand.{Operand}
use Rattle.es_event.specs.Access.{edit_of, given_to, operands_of, variables_of}
use Rattle.es_event.specs.Jobs.{receivers}
use Rattle.es_event.specs.Legal.{values_of}
use Rattle.es_event.specs.Numbers.{number_of, number_or_0, task_by, word_at}
use Rattle.es_event.specs.Rules.{first_refusal, of_buffer, of_index, of_number}
use Rattle.es_event.specs.Variables.{var}
use Rattle.es_record.specs.AgentView.{AgentView}

-- the number of an operand
abbrev pub number_at : AgentView → Operand → Result ℤ Refusal
number_at b (Operand.Number n) = Ok n
number_at b (Operand.Variable x) = number_of (var (receivers b.plan.jobs) b.history x)

abbrev pub numbers_at : AgentView → Operation → List (Result ℤ Refusal)
numbers_at b o = map (number_at b) (operands_of o)

-- the first refusal that applies to a command on a word, of which this is the index, and these are the other operands
abbrev pub refusal_by : AgentView → AtomicParts → Result ℤ Refusal → List (Result ℤ Refusal) → Option Refusal
refusal_by b a i ws =
    first_refusal (of_buffer b.history (var (receivers b.plan.jobs) b.history a.buffer) ∷ of_number i ∷ of_index b.over (var (receivers b.plan.jobs) b.history a.buffer) (number_or_0 i) ∷ map of_number ws)

abbrev pub refusal_at : AgentView → AtomicParts → Option Refusal
refusal_at b a = refusal_by b a (number_at b a.index) (numbers_at b a.operation)

-- the access that it makes to the word
abbrev pub access_by : AtomicParts → List (Result ℤ Refusal) → Access
access_by a ws = record { edit = edit_of a.operation (word_at 0 ws) (word_at 1 ws); gives_word = is_some (given_to a.operation) }

-- what it does at the word
abbrev pub task_here : AgentView → AtomicParts → Task
task_here b a = task_by a.operation (access_by a (numbers_at b a.operation)) (word_at 0 (numbers_at b a.operation)) (values_of (receivers b.plan.jobs) b.history (variables_of (operands_of a.operation)))
