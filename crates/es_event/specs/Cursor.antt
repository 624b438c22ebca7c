-- To believe: where an agent is in its plan, and that its history says the same.
use Rattle.std.specs.Prelude.{ℕ, ◌≡◌, ◌≤◌, length, drop, List, [], ◌∷◌, Option, Some, None}
use Rattle.std.specs.Option.{option_map_or}
use Rattle.es_event.specs.declared.command.Command.{Command}
use Rattle.es_event.specs.declared.plan.AgentPlan.{AgentPlan}
use Rattle.es_event.specs.History.{History}
use Rattle.es_event.specs.Jobs.{job, cleaning}
use Rattle.es_event.specs.Order.{phase, between, inside, stopped, ended, job_commands, callback_commands, job_catches, callback_catches, left, left_catches, handed}
use Rattle.es_event.specs.declared.cursor.Cursor.{Cursor}
use Rattle.es_event.specs.declared.cursor.Cleanup.{Cleanup}
use Rattle.es_event.specs.declared.cursor.Position.{Position}
use Rattle.es_event.specs.declared.cursor.Position.TheVariants.{Between, Handed, Inside, Stopped, Cleaning, CleanupStopped, Ended}

-- the commands of this callback, none where there is no callback
abbrev pub commands_of : AgentPlan → Option ℕ → List Command
commands_of plan c = option_map_or (callback_commands plan) c []

-- the variables that catch refusals in this callback, none where there is no callback
abbrev pub catches_of : AgentPlan → Option ℕ → List (Option (List ℕ))
catches_of plan c = option_map_or (callback_catches plan) c []

-- these catch the refusals of the commands that are left, where some are
abbrev pub Catches : AgentPlan → History → List (Option (List ℕ)) → Type 0
Catches plan h xs = (c : Command) (cs : List Command) → left plan h ≡ c ∷ cs → left_catches plan h ≡ xs

-- the cleanup job of its registry runs, with so many commands of the callback done
pub record IsCleaning (plan : AgentPlan) (h : History) (c : Cleanup) : Type 0 where
  pub phase : phase h ≡ inside
  pub cleaning : cleaning h ≡ Some c.registry
  pub left : left plan h ≡ drop c.at (commands_of plan c.callback)
  pub catches : Catches plan h (drop c.at (catches_of plan c.callback))

-- the history leads to this place
abbrev pub IsAt : AgentPlan → History → Position → Type 0
IsAt plan h Between = (phase h ≡ between) × (cleaning h ≡ None)
IsAt plan h Handed = (phase h ≡ handed) × (cleaning h ≡ None) × (job h ≤ length plan.jobs)
IsAt plan h (Inside at) = (phase h ≡ inside) × (cleaning h ≡ None) × (left plan h ≡ drop at (job_commands plan (job h))) × (job h ≤ length plan.jobs) × Catches plan h (drop at (job_catches plan (job h)))
IsAt plan h Stopped = (phase h ≡ stopped) × (cleaning h ≡ None) × (job h ≤ length plan.jobs)
IsAt plan h (Cleaning c) = IsCleaning plan h c
IsAt plan h (CleanupStopped r) = (phase h ≡ stopped) × (cleaning h ≡ Some r)
IsAt plan h Ended = (phase h ≡ ended) × (cleaning h ≡ None)

-- the cursor stands where the history leads: at its job, and at its place in it
pub record IsCursorOf (plan : AgentPlan) (h : History) (c : Cursor) : Type 0 where
  pub job : c.job ≡ job h
  pub position : IsAt plan h c.position
