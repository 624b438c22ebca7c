-- To believe: what a watcher of a run by turns is told.
use Rattle.std.specs.Prelude.{ℕ, ◌≡◌, ◌⊎◌, List, [], ◌∷◌, Option, Some, None, if◌then◌else◌}
use Rattle.es_cluster.specs.declared.member.Progress.{Progress}
use Rattle.es_cluster.specs.declared.member.Progress.TheVariants.{Moved, Waiting, Ended}
use Rattle.es_cluster.specs.Moves.{BeginsToSleep, RunsOut, mover, rests_at, with_drained}
use Rattle.es_cluster.specs.State.{ClusterView}
use Rattle.es_cluster.specs.Turns.{Turned}

-- what is told of a turn: what came of it, whose it was, and the cluster before and after it
pub record TakenTurn : Type 0 where
  pub progress : Progress
  pub agent : ℕ
  pub before : ClusterView
  pub after : ClusterView

-- these turns were taken, one after the other, and led from the one cluster to the other
abbrev pub AreTurns : List TakenTurn → ClusterView → ClusterView → Type 0
AreTurns [] old new = new ≡ old
AreTurns (t ∷ ts) old new = (t.before ≡ old) × Turned t.progress t.agent t.before t.after × AreTurns ts t.after new

-- whose move is under way after a turn of agent n: its own until it rests
abbrev pub busy : ℕ → ClusterView → Option ℕ
busy n c = if rests_at n c then None else Some n

-- the same after any turn: nobody's where the agent waits or sleeps, or has ended
abbrev pub busy_after : Progress → ℕ → ClusterView → Option ℕ
busy_after Moved n c = busy n c
busy_after Waiting n c = None
busy_after Ended n c = None

-- the agent goes ahead: it has one event more, or begins to sleep
abbrev pub GoesAhead : TakenTurn → Type 0
GoesAhead t = (t.progress ≡ Moved) ⊎ BeginsToSleep t.agent t.before t.after

-- a turn among moves: while a move is under way its agent goes ahead; between two moves the mover begins its own, or an agent is asked that
-- waits or sleeps on, or that has ended
abbrev pub FitsIn : Option ℕ → TakenTurn → Type 0
FitsIn (Some n) t = GoesAhead t × (t.agent ≡ n)
FitsIn None t = GoesAhead t → mover t.before ≡ Some t.agent

-- these turns are those of moves, of which the one was under way before them, and the other is after them
abbrev pub AreMoves : Option ℕ → List TakenTurn → Option ℕ → Type 0
AreMoves first [] last = last ≡ first
AreMoves first (t ∷ ts) last = FitsIn first t × AreMoves (busy_after t.progress t.agent t.after) ts last

-- a watcher was told of these turns, of each once and in this order; what it says of a turn is of itself before and after it was told
abbrev pub IsToldOf : {W : Type 0} → (TakenTurn → W → W → Type 0) → List TakenTurn → W → W → Type 0
IsToldOf tells [] was now = now ≡ was
IsToldOf {W} tells (t ∷ ts) was now = (mid : W) × tells t was mid × IsToldOf tells ts mid now

-- it was told of the turns that led from the one cluster to the other, which are those of moves, and of nothing else
abbrev pub IsTold : {W : Type 0} → (TakenTurn → W → W → Type 0) → (first last : Option ℕ) → ClusterView → ClusterView → W → W → Type 0
IsTold tells first last old new was now = (ts : List TakenTurn) × AreTurns ts old new × AreMoves first ts last × IsToldOf tells ts was now

-- a run of moves to its end, of which it was told from the first turn to the last: no move is under way before and after. What it knows then
-- is the cluster before the messages that nobody took are taken out
pub record IsWatched {W : Type 0} (knows : ClusterView → W → Type 0) (tells : TakenTurn → W → W → Type 0) (old new : ClusterView) (was now : W) : Type 0 where
  pub end : ClusterView
  pub runs : RunsOut old end
  pub told : IsTold tells None None old end was now
  pub known : knows end now
  pub drained : new ≡ with_drained end
