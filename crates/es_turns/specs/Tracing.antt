-- To believe: the trace of a plan, and that of the bytes of one.
use Rattle.std.specs.Prelude.{ℕ, List}
use Rattle.es_event.specs.declared.plan.Plan.{Plan}
use Rattle.es_script.specs.Fault.{IsPlanOf}
use Rattle.es_cluster.specs.State.{first_state}
use Rattle.es_options.specs.declared.view.View.{View}
use Rattle.es_turns.specs.Told.{IsTraceFrom}

-- what this view shows of what the plan's agents do by turns
abbrev pub IsTraceByTurns : View → Plan → List ℕ → Type 0
IsTraceByTurns v plan text = IsTraceFrom v (first_state plan) text

-- of the plan that the bytes stand for
abbrev pub IsTraceOf : View → List ℕ → List ℕ → Type 0
IsTraceOf v bytes text = (p : Plan) × IsPlanOf bytes p × IsTraceByTurns v p text
