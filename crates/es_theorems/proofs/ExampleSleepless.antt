-- Which plans never sleep, worked by hand; and that those which do come to an end too.
use Rattle.std.proofs.Common.{◌≡◌, true, false, refl, List, [], ◌∷◌, None, codes}
use Rattle.std.specs.Prelude.{pos}
use Rattle.es_event.specs.declared.atomic.Operation.{Operation}
use Rattle.es_event.specs.declared.command.Command.{Command}
use Rattle.es_event.specs.declared.command.Command.TheVariants.{Collect, Say, SharedArrayBuffer}
use Rattle.es_event.specs.declared.operand.Operand.{Operand}
use Rattle.es_event.specs.declared.outcome.Outcome.{Outcome}
use Rattle.es_event.specs.declared.plan.AgentPlan.{AgentPlan}
use Rattle.es_event.specs.declared.plan.Plan.{Plan}
use Rattle.es_event.specs.Commands.{atomic}
use Rattle.es_event.proofs.Examples.{add, compare_exchange, job_of, job_on, load, plan_with, store}
use Rattle.es_outcome.specs.Outcomes.{IsClusterOutcome}
use Rattle.es_theorems.proofs.Converse.{some_outcome}
use Rattle.es_theorems.specs.Sleepless.{is_for_sleep, never_sleeps, never_sleeps_in}

-- Commands

abbrev wait : Command
wait = atomic (codes "b") (Operand.Number (pos 0)) (Operation.Wait (codes "x") (Operand.Number (pos 0)))

abbrev notify : Command
notify = atomic (codes "b") (Operand.Number (pos 0)) (Operation.Notify (codes "x") None)

wait_sleeps : is_for_sleep wait ≡ true
wait_sleeps = refl

notify_is_for_sleep : is_for_sleep notify ≡ true
notify_is_for_sleep = refl

load_is_not : is_for_sleep (load (codes "x") (codes "b") (pos 0)) ≡ false
load_is_not = refl

store_is_not : is_for_sleep (store (codes "b") (pos 0) (pos 7)) ≡ false
store_is_not = refl

add_is_not : is_for_sleep (add (codes "x") (codes "b") (pos 0) (pos 1)) ≡ false
add_is_not = refl

swap_is_not : is_for_sleep (compare_exchange (codes "x") (codes "b") (pos 0) (pos 0) (pos 1)) ≡ false
swap_is_not = refl

say_is_not : is_for_sleep (Say (codes "x")) ≡ false
say_is_not = refl

-- Agents

-- it does these in its second job
abbrev second_job : List Command → AgentPlan
second_job run = record { name = codes "a"; callbacks = []; jobs = job_of (SharedArrayBuffer (codes "b") 1 ∷ []) ∷ job_on 1 (codes "m") (Say (codes "m") ∷ run) ∷ [] }

-- or in a callback
abbrev calling : List Command → AgentPlan
calling run = plan_with run ((SharedArrayBuffer (codes "b") 1 ∷ Collect ∷ []) ∷ [])

who_loads_does_not : never_sleeps_in (second_job (load (codes "x") (codes "b") (pos 0) ∷ [])) ≡ true
who_loads_does_not = refl

who_waits_does : never_sleeps_in (second_job (wait ∷ [])) ≡ false
who_waits_does = refl

who_notifies_does : never_sleeps_in (second_job (notify ∷ [])) ≡ false
who_notifies_does = refl

callback_does_not : never_sleeps_in (calling (Say (codes "held") ∷ [])) ≡ true
callback_does_not = refl

callback_does : never_sleeps_in (calling (Say (codes "held") ∷ wait ∷ [])) ≡ false
callback_does = refl

-- Plans

none_does : never_sleeps (record { agents = second_job [] ∷ calling [] ∷ [] }) ≡ true
none_does = refl

-- one agent is enough
one_does : never_sleeps (record { agents = second_job [] ∷ calling (wait ∷ []) ∷ [] }) ≡ false
one_does = refl

nobody_does : never_sleeps (record { agents = [] }) ≡ true
nobody_does = refl

-- Agents that sleep come to an end all the same

abbrev both_sleep : Plan
both_sleep = record { agents = second_job (wait ∷ []) ∷ calling (wait ∷ []) ∷ [] }

they_do : never_sleeps both_sleep ≡ false
they_do = refl

their_outcome : (o : Outcome) × IsClusterOutcome both_sleep o
their_outcome = some_outcome both_sleep refl refl
