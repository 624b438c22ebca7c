-- Internal: where a cursor is after an event, as the code has it.
use Rattle.std.specs.Prelude.{ℕ, ◌+◌, length, nat_lt, Option, if◌then◌else◌}
use Rattle.es_event.specs.declared.plan.AgentPlan.{AgentPlan}
use Rattle.es_event.specs.Order.{job_commands}
use Rattle.es_event.specs.declared.cursor.Cursor.{Cursor}
use Rattle.es_event.specs.declared.cursor.Position.{Position}
use Rattle.es_event.specs.declared.cursor.Position.TheVariants.{Inside, Stopped, Cleaning, CleanupStopped}
use Rattle.es_event.specs.Cursor.{commands_of}

-- after one more of so many commands
abbrev pub at_after : ℕ → ℕ → ℕ
at_after at count = if nat_lt at count then at + 1 else at

-- the job after the end of a job, of so many jobs
abbrev pub passed_at : Position → ℕ → ℕ → ℕ
passed_at (Cleaning c) n jobs = n
passed_at (CleanupStopped r) n jobs = n
passed_at _ n jobs = at_after n (jobs + 1)

-- the job after the end of the one at which the cursor stands
abbrev pub job_passed : Cursor → ℕ → ℕ
job_passed c jobs = passed_at c.position c.job jobs

-- after one more command of job n, or of the running callback
abbrev pub position_after : AgentPlan → ℕ → Position → Position
position_after plan n (Inside at) = Inside (at_after at (length (job_commands plan n)))
position_after plan n (Cleaning c) = Cleaning (record c { at = at_after c.at (length (commands_of plan c.callback)) })
position_after plan n p = p

-- after a refusal
abbrev pub position_stopped : Position → Position
position_stopped (Cleaning c) = CleanupStopped c.registry
position_stopped _ = Stopped

-- after the taking of a cell
abbrev pub position_taken : Option ℕ → Position → Position
position_taken callback (Cleaning c) = Cleaning (record { registry = c.registry; callback = callback; at = 0 })
position_taken callback p = p
