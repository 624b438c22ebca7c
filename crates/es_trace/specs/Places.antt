-- To believe: where an agent is in its plan, as the writer of a trace keeps it, and that its history says the same.
use Rattle.std.specs.Prelude.{ℕ, ◌≡◌, List, [], ◌∷◌, drop, Option, Some, None, nat_lt, ◌+◌, if◌then◌else◌}
use Rattle.es_event.specs.declared.command.Command.{Command}
use Rattle.es_event.specs.declared.event.Event.{Event}
use Rattle.es_event.specs.declared.plan.AgentPlan.{AgentPlan}
use Rattle.es_event.specs.History.{History}
use Rattle.es_event.specs.Jobs.{cleaning}
use Rattle.es_event.specs.Order.{left, job_commands, callback_commands}
use Rattle.std.specs.Option.{option_and_then}
use Rattle.es_event.specs.Registrations.{callback}
use Rattle.es_trace.specs.declared.place.Running.{Running}
use Rattle.es_trace.specs.declared.place.Running.TheVariants.{Nothing, Job, Callback}
use Rattle.es_trace.specs.declared.place.Place.{Place}

-- the commands that run
abbrev pub commands_in : AgentPlan → Running → List Command
commands_in plan Nothing = []
commands_in plan (Job n) = job_commands plan n
commands_in plan (Callback c) = callback_commands plan c

-- those of this callback, if there is one
abbrev pub running_callback : Option ℕ → Running
running_callback None = Nothing
running_callback (Some c) = Callback c

-- after one more of so many
abbrev pub one_more : ℕ → ℕ → ℕ
one_more done count = if nat_lt done count then done + 1 else done

-- the place is where the history leads
pub record IsPlace (plan : AgentPlan) (h : History) (p : Place) : Type 0 where
  pub left : left plan h ≡ drop p.done (commands_in plan p.running)
  pub cleaning : cleaning h ≡ p.registry

-- after the event it is there still; where the event takes a cell, o is the callback of its registry
abbrev pub Leads : AgentPlan → Event → Option ℕ → Place → Place → Type 0
Leads plan e o old new = (h : History) → IsPlace plan h old → o ≡ option_and_then (callback h) (cleaning h) → IsPlace plan (e ∷ h) new
