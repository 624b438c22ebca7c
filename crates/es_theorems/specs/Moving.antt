-- To believe: the turns of a run in which agents moved.
use Rattle.std.specs.Prelude.{ℕ, List, [], ◌∷◌, ◌++◌, Option, slice_get}
use Rattle.es_cluster.specs.declared.member.Progress.{Progress}
use Rattle.es_cluster.specs.declared.member.Progress.TheVariants.{Moved, Waiting, Ended}
use Rattle.es_record.specs.AgentView.{AgentView}
use Rattle.es_cluster.specs.Watched.{TakenTurn}

-- whose turn it was, and what the agent was after it, with one event more
abbrev pub move_in : Progress → ℕ → Option AgentView → List (ℕ × Option AgentView)
move_in Moved n b = (n, b) ∷ []
move_in Waiting n b = []
move_in Ended n b = []

-- so of each turn in which the agent moved
abbrev pub moves_of : List TakenTurn → List (ℕ × Option AgentView)
moves_of [] = []
moves_of (t ∷ ts) = move_in t.progress t.agent (slice_get t.after.agents t.agent) ++ moves_of ts
