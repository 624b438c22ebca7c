-- Along a run by turns agents go on, and plans stay; so what it ends in is an outcome.
use Rattle.std.proofs.Common.{true, ◌≡◌, ℕ, suc, ◌∙◌, ap, refl, List, [], ◌∷◌, length, inl, inr}
use Rattle.es_event.specs.declared.outcome.Outcome.{Outcome}
use Rattle.es_cluster.specs.declared.member.Progress.{Progress}
use Rattle.es_cluster.specs.declared.member.Progress.TheVariants.{Moved, Waiting}
use Rattle.es_record.specs.AgentView.{AgentView}
use Rattle.es_cluster.specs.Ends.{EndsIn}
use Rattle.es_cluster.specs.Moves.{all_over, with_drained, IsMove, Rest, RunsOut, RunsToEnd, moves, over, rested, slept, turned as rests_later, waits}
use Rattle.es_cluster.specs.State.{ClusterView, plans}
use Rattle.es_cluster.specs.Turns.{AllTurned, Turned}
use Rattle.es_theorems.proofs.Cluster.{Well, plans_turned, well_turned}
use Rattle.es_theorems.proofs.Arriving.{ends}

-- the same plans, and as many agents in the ledger
pub record SamePlans (c d : ClusterView) : Type 0 where
  pub plans_are : plans d.agents ≡ plans c.agents
  pub number : d.ledger.agents ≡ c.ledger.agents

plans_then : (b c d : ClusterView) → SamePlans b c → SamePlans c d → SamePlans b d
plans_then b c d x y = record { plans_are = y.plans_are ∙ x.plans_are; number = y.number ∙ x.number }

plans_after : (p : Progress) (n : ℕ) (c d : ClusterView) → Turned p n c d → SamePlans c d
plans_after p n c d t = record { plans_are = plans_turned p n c d t; number = t.number }

plans_rest : (n : ℕ) (c d : ClusterView) → Rest n c d → SamePlans c d
plans_rest n c d (rested is) = record { plans_are = refl; number = refl }
plans_rest n c d (slept is begins) = plans_after Waiting n c d begins.0
plans_rest n c d (rests_later {mid = mid} is t more) = plans_then c mid d (plans_after Moved n c mid t) (plans_rest n mid d more)

plans_move : (n : ℕ) (c d : ClusterView) → IsMove n c d → SamePlans c d
plans_move n c d (inl move) = plans_then c move.0 d (plans_after Moved n c move.0 move.1) (plans_rest n move.0 d move.2)
plans_move n c d (inr begins) = plans_after Waiting n c d begins.0

plans_run : (c d : ClusterView) → RunsOut c d → SamePlans c d
plans_run c d (over is) = record { plans_are = refl; number = refl }
plans_run c d (waits n {mid = mid} t quiet more) = plans_then c mid d (plans_after Waiting n c mid t) (plans_run mid d more)
plans_run c d (moves n {mid = mid} is move more) = plans_then c mid d (plans_move n c mid move) (plans_run mid d more)

pub plans_to_end : (c d : ClusterView) → RunsToEnd c d → SamePlans c d
plans_to_end c d run =
    let same = plans_run c run.0 run.1 in
    record { plans_are = ap (λ d. plans d.agents) run.2 ∙ same.plans_are; number = ap (λ d. d.ledger.agents) run.2 ∙ same.number }

pub plans_all : (ns : List ℕ) (c d : ClusterView) → AllTurned ns c d → SamePlans c d
plans_all [] c d turned = record { plans_are = ap (λ d. plans d.agents) turned; number = ap (λ d. d.ledger.agents) turned }
plans_all (n ∷ ns) c d turned = plans_then c turned.1 d (plans_after turned.0 n c turned.1 turned.2) (plans_all ns turned.1 d turned.3)

pub plans_length : (bs : List AgentView) → length (plans bs) ≡ length bs
plans_length [] = refl
plans_length (b ∷ bs) = ap suc (plans_length bs)

-- Agents go on

well_rest : (n : ℕ) (c d : ClusterView) → Well c → Rest n c d → Well d
well_rest n c d w (rested is) = w
well_rest n c d w (slept is begins) = well_turned Waiting n c d w begins.0
well_rest n c d w (rests_later {mid = mid} is t more) = well_rest n mid d (well_turned Moved n c mid w t) more

well_move : (n : ℕ) (c d : ClusterView) → Well c → IsMove n c d → Well d
well_move n c d w (inl move) = well_rest n move.0 d (well_turned Moved n c move.0 w move.1) move.2
well_move n c d w (inr begins) = well_turned Waiting n c d w begins.0

well_run : (c d : ClusterView) → Well c → RunsOut c d → Well d
well_run c d w (over is) = w
well_run c d w (waits n {mid = mid} t quiet more) = well_run mid d (well_turned Waiting n c mid w t) more
well_run c d w (moves n {mid = mid} is move more) = well_run mid d (well_move n c mid w move) more

pub over_run : (c d : ClusterView) → RunsOut c d → all_over d ≡ true
over_run c d (over is) = is
over_run c d (waits n {mid = mid} t quiet more) = over_run mid d more
over_run c d (moves n {mid = mid} is move more) = over_run mid d more

pub run_has_an_outcome : (c d : ClusterView) → Well c → RunsOut c d → (o : Outcome) × EndsIn (with_drained d) o
run_has_an_outcome c d w run = ends d (well_run c d w run) (over_run c d run)
