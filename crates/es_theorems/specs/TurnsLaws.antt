-- To believe: what is said of runs by turns as a whole: that two come to the same; that agents go on, and that each plan comes to an end. Each
-- is the contract of a function of its name that does nothing.
use Rattle.std.specs.Prelude.{ℕ, ◌≡◌, ◌<◌, true, false, None, List, length}
use Rattle.std.specs.List.{list_all}
use Rattle.es_event.specs.declared.outcome.Outcome.{Outcome}
use Rattle.es_event.specs.declared.plan.Plan.{Plan}
use Rattle.es_event.specs.Jobs.{callbacks_collect_nothing}
use Rattle.es_event.specs.Others.{all_name_others}
use Rattle.es_cluster.specs.declared.member.Progress.{Progress}
use Rattle.es_cluster.specs.declared.member.Progress.TheVariants.{Moved}
use Rattle.es_cluster.specs.Ends.{EndsIn}
use Rattle.es_cluster.specs.Moves.{RunsToEnd, all_over}
use Rattle.es_cluster.specs.State.{ClusterView, first_state}
use Rattle.es_cluster.specs.Turns.{AllTurned, Turned}
use Rattle.es_cluster.specs.Watched.{AreMoves, AreTurns, TakenTurn}
use Rattle.es_theorems.specs.Alike.{SameEnd}
use Rattle.es_theorems.specs.Moving.{moves_of}

-- One end

-- What two runs by turns of one plan end in is the same, with messages and shared buffers too.
abbrev pub TurnsHaveOneEnd : Type 0
TurnsHaveOneEnd =
    (plan : Plan) (c d : ClusterView) (o q : Outcome) → RunsToEnd (first_state plan) c → EndsIn c o → RunsToEnd (first_state plan) d → EndsIn d q → SameEnd o q

-- So is what two runs by turns end in of what is left of a plan, once any agents took turns, in whatever order.
abbrev pub WhatIsLeftHasOneEnd : Type 0
WhatIsLeftHasOneEnd =
    (plan : Plan) (turns : List ℕ) (from c d : ClusterView) (o q : Outcome) → AllTurned turns (first_state plan) from
    → RunsToEnd from c → EndsIn c o → RunsToEnd from d → EndsIn d q → SameEnd o q

-- And the turns in which agents moved are the same, one after the other: what agents do differs in waits alone.
abbrev pub TurnsAreOneRun : Type 0
TurnsAreOneRun =
    (plan : Plan) (ts us : List TakenTurn) (c d : ClusterView) → AreTurns ts (first_state plan) c → AreMoves None ts None → all_over c ≡ true
    → AreTurns us (first_state plan) d → AreMoves None us None → all_over d ≡ true → moves_of ts ≡ moves_of us

-- An end. The plans: each agent posts to others alone, and waits for messages of others alone. Where a run is to end, no callback collects.

-- Whichever agents took turns, each agent that is asked takes one: it has one event more, or waits on for a message or at a word, or has ended.
abbrev pub EachAgentTakesATurn : Type 0
EachAgentTakesATurn =
    (plan : Plan) (turns : List ℕ) (c : ClusterView) (n : ℕ) → all_name_others plan ≡ true → AllTurned turns (first_state plan) c → n < length c.agents
    → (p : Progress) × (d : ClusterView) × Turned p n c d

-- an agent has one event more, once others were asked, which changes no agent
pub record SomeAgentMoves (c : ClusterView) : Type 0 where
  pub waits : List ℕ
  pub mid : ClusterView
  pub waited : AllTurned waits c mid
  pub agents : mid.agents ≡ c.agents
  pub mover : ℕ
  pub after : ClusterView
  pub moves : Turned Moved mover mid after

-- No cluster is stuck: whichever agents took turns, if some agent has not ended, some agent moves. All may have to be asked before, as a wait in
-- vain, and a sleep, counts once it is recorded.
abbrev pub NoClusterIsStuck : Type 0
NoClusterIsStuck =
    (plan : Plan) (turns : List ℕ) (c : ClusterView) → all_name_others plan ≡ true → AllTurned turns (first_state plan) c → all_over c ≡ false → SomeAgentMoves c

-- Each plan has an end by turns, also one whose agents sleep.
abbrev pub EachPlanComesToAnEnd : Type 0
EachPlanComesToAnEnd =
    (plan : Plan) → all_name_others plan ≡ true → list_all callbacks_collect_nothing plan.agents ≡ true → (c : ClusterView) × (o : Outcome) × RunsToEnd (first_state plan) c × EndsIn c o

-- So has what is left of it, whichever agents took turns, in whatever order.
abbrev pub WhatIsLeftComesToAnEnd : Type 0
WhatIsLeftComesToAnEnd =
    (plan : Plan) (turns : List ℕ) (from : ClusterView) → all_name_others plan ≡ true → list_all callbacks_collect_nothing plan.agents ≡ true → AllTurned turns (first_state plan) from
    → (c : ClusterView) × (o : Outcome) × RunsToEnd from c × EndsIn c o
