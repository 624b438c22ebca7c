-- To believe: what contracts see of a member, that its tickets are the ledger's rows of its agent, and that it has its plan.
use Rattle.std.specs.Prelude.{◌≡◌, ◌+◌, Bool, List, Some, map, count_by, slice_get, if◌then◌else◌}
use Rattle.es_event.specs.declared.plan.Plan.{Plan}
use Rattle.es_event.specs.declared.row.Row.{Row}
use Rattle.es_ticket.specs.Stakes.{StakeView}
use Rattle.es_record.specs.AgentView.{AgentView}
use Rattle.es_agent.specs.Tickets.{tickets}

-- the agent, and its side of the ledger
pub record MemberView : Type 0 where
  pub core : AgentView
  pub stake : StakeView

-- what the agent's tickets name
abbrev pub rows_of : AgentView → List Row
rows_of b = map (λ t. t.1) (tickets b)

-- the same rows, each as often
abbrev pub SameRows : List Row → List Row → Type 0
SameRows xs ys = (p : Row → Bool) → count_by p xs ≡ count_by p ys

-- the stake is this agent's, and has its tickets
abbrev pub Holds : AgentView → StakeView → Type 0
Holds b s = (s.agent ≡ b.number) × SameRows (rows_of b) s.rows

-- it has one ticket more
abbrev pub HoldsBeside : Row → AgentView → StakeView → Type 0
HoldsBeside r b s = (s.agent ≡ b.number) × ((p : Row → Bool) → count_by p s.rows ≡ count_by p (rows_of b) + (if p r then 1 else 0))

-- its plan is what the whole plan has for the agent of its number
abbrev pub IsPlanned : Plan → AgentView → Type 0
IsPlanned p b = slice_get p.agents b.number ≡ Some b.plan

abbrev pub member_of : AgentView → StakeView → MemberView
member_of b s = record { core = b; stake = s }
