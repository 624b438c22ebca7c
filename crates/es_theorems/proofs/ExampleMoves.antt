-- Turns of two agents, each with one job without commands: which lists are those of moves, and what the moves are.
use Rattle.std.proofs.Common.{◌≡◌, ℕ, false, refl, List, [], ◌∷◌, Option, Some, None, codes, true, inl, inr}
use Rattle.es_event.specs.declared.event.Event.TheVariants.{JobBegun, JobEnded}
use Rattle.es_event.specs.declared.plan.AgentPlan.{AgentPlan}
use Rattle.es_event.specs.History.{History}
use Rattle.es_record.specs.AgentView.{AgentView}
use Rattle.es_cluster.specs.declared.member.Progress.{Progress}
use Rattle.es_cluster.specs.declared.member.Progress.TheVariants.{Moved, Waiting, Ended}
use Rattle.es_cluster.specs.State.{ClusterView, first_state}
use Rattle.es_cluster.specs.Watched.{AreMoves, FitsIn, TakenTurn, busy, busy_after, GoesAhead}
use Rattle.es_theorems.specs.Moving.{moves_of}

abbrev idle : List ℕ → AgentPlan
idle name = record { name = name; callbacks = []; jobs = record { on = None; catches = []; run = [] } ∷ [] }

abbrev agent : ℕ → List ℕ → History → AgentView
agent n name h = record { plan = idle name; number = n; agents = 2; over = []; history = h }

-- the cluster where the agents have these histories
abbrev at : History → History → ClusterView
at h g = record { agents = agent 0 (codes "a") h ∷ agent 1 (codes "b") g ∷ []; ledger = record { agents = 2; history = [] }; failed = false }

abbrev begun : History
begun = JobBegun 1 ∷ []

abbrev done : History
done = JobEnded ∷ begun

first_is : first_state (record { agents = idle (codes "a") ∷ idle (codes "b") ∷ [] }) ≡ at [] []
first_is = refl

abbrev turn : Progress → ℕ → ClusterView → ClusterView → TakenTurn
turn p n c d = record { progress = p; agent = n; before = c; after = d }

-- the first agent's job, then the second's
abbrev a_begins : TakenTurn
a_begins = turn Moved 0 (at [] []) (at begun [])

abbrev a_ends : TakenTurn
a_ends = turn Moved 0 (at begun []) (at done [])

-- a move is under way from a job's beginning to its end
whose : (busy 0 (at begun []) ≡ Some 0) × (busy 0 (at done []) ≡ None) × (busy_after Waiting 0 (at begun []) ≡ None) × (busy_after Ended 0 (at begun []) ≡ None)
whose = (refl, refl, refl, refl)

one_move : AreMoves None (a_begins ∷ a_ends ∷ []) None
one_move = ((λ e. refl), ((inl refl, refl), refl))

-- an agent that has ended does not go ahead
no_ahead : {P : Type 0} (h g k f : History) → GoesAhead (turn Ended 1 (at h g) (at k f)) → P
no_ahead h g k f (inl e) = let clash : Ended ≡ Moved = e in cc
no_ahead h g k f (inr begins) = let clash : false ≡ true = begins.2 in cc

-- an agent that is asked, and waits on or has ended, may come between two moves
asked_first : AreMoves None (turn Ended 1 (at [] []) (at [] []) ∷ a_begins ∷ []) (Some 0)
asked_first = ((λ e. no_ahead [] [] [] [] e), ((λ e. refl), refl))

-- and not within one
not_within : AreMoves None (a_begins ∷ turn Ended 1 (at begun []) (at begun []) ∷ a_ends ∷ []) None → ⊥
not_within are = no_ahead begun [] begun [] are.1.0.0

-- the second agent does not begin where the first can move, nor while its move is under way
not_the_mover : FitsIn None (turn Moved 1 (at [] []) (at [] begun)) → ⊥
not_the_mover fits = let clash : ◌≡◌ {A = Option ℕ} (Some 0) (Some 1) = fits (inl refl) in cc

not_beside : AreMoves None (a_begins ∷ turn Moved 1 (at begun []) (at begun begun) ∷ []) (Some 1) → ⊥
not_beside are = let clash : ◌≡◌ {A = ℕ} 1 0 = are.1.0.1 in cc

-- a move that is not at its end is under way still
not_over : AreMoves None (a_begins ∷ []) None → ⊥
not_over are = let clash : ◌≡◌ {A = Option ℕ} None (Some 0) = are.1 in cc

-- what moved, turn by turn: whose turn, and what the agent is after it
moved : moves_of (turn Waiting 1 (at [] []) (at [] []) ∷ a_begins ∷ turn Ended 1 (at begun []) (at begun []) ∷ a_ends ∷ []) ≡ (0, Some (agent 0 (codes "a") begun)) ∷ (0, Some (agent 0 (codes "a") done)) ∷ []
moved = refl
