-- Internal: the plan of a run that nobody named.
use Rattle.std.specs.Prelude.{[]}
use Rattle.es_event.specs.declared.plan.Plan.{Plan}

abbrev pub no_plan : Plan
no_plan = record { agents = [] }
