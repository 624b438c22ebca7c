-- To believe: a plan whose agents never sleep: no command waits at a word, or notifies those that do.
use Rattle.std.specs.Prelude.{◌&&◌, not, Bool, true, false}
use Rattle.std.specs.List.{list_all, list_any}
use Rattle.es_event.specs.Access.{is_of_sleep}
use Rattle.es_event.specs.declared.command.Command.{Command}
use Rattle.es_event.specs.declared.plan.AgentPlan.{AgentPlan}
use Rattle.es_event.specs.declared.plan.Plan.{Plan}

-- the command waits at a word or notifies (Atomics.wait and notify)
abbrev pub is_for_sleep : Command → Bool
is_for_sleep (Command.Atomic a) = is_of_sleep a.operation
is_for_sleep _ = false

-- no command of the agent does, in a job or in a callback
abbrev pub never_sleeps_in : AgentPlan → Bool
never_sleeps_in plan = list_all (λ j. not (list_any is_for_sleep j.run)) plan.jobs && list_all (λ c. not (list_any is_for_sleep c.run)) plan.callbacks

abbrev pub never_sleeps : Plan → Bool
never_sleeps plan = list_all never_sleeps_in plan.agents
