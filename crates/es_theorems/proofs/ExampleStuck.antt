-- Two agents that wait for each other: at first none of them moves when it is asked, as no wait is recorded yet.
use Rattle.std.proofs.Common.{◌≡◌, ℕ, zero, suc, List, [], ◌∷◌, Some, codes, refl, sym, ◌∙◌, subst}
use Rattle.std.specs.Prelude.{slice_get}
use Rattle.es_event.specs.declared.plan.AgentPlan.{AgentPlan}
use Rattle.es_event.specs.declared.plan.Plan.{Plan}
use Rattle.es_event.proofs.Entries.{inner}
use Rattle.es_record.specs.AgentView.{AgentView}
use Rattle.es_cluster.specs.Turned.{WaitsRightly}
use Rattle.es_cluster.specs.declared.member.Progress.TheVariants.{Moved}
use Rattle.es_cluster.specs.State.{ClusterView, first_state}
use Rattle.es_cluster.specs.Turns.{Turned}

abbrev waits_for : List ℕ → ℕ → AgentPlan
waits_for name s = record { name = name; callbacks = []; jobs = record { on = Some (s, codes "m"); catches = []; run = [] } ∷ [] }

abbrev each_for_the_other : Plan
each_for_the_other = record { agents = waits_for (codes "a") 1 ∷ waits_for (codes "b") 0 ∷ [] }

abbrev first_of : AgentView
first_of = record { plan = waits_for (codes "a") 1; number = 0; agents = 2; over = []; history = [] }

abbrev second_of : AgentView
second_of = record { plan = waits_for (codes "b") 0; number = 1; agents = 2; over = []; history = [] }

told_right : (n : ℕ) (b : AgentView) (d : ClusterView) → slice_get (first_state each_for_the_other).agents n ≡ Some b → Turned Moved n (first_state each_for_the_other) d → WaitsRightly Moved b (first_state each_for_the_other).ledger d.ledger
told_right n b d is t = subst (λ (b : AgentView). WaitsRightly Moved b (first_state each_for_the_other).ledger d.ledger) (inner (sym t.agent ∙ is)) t.told

none_moves_at_once : (n : ℕ) (d : ClusterView) → Turned Moved n (first_state each_for_the_other) d → ⊥
none_moves_at_once zero d t = (told_right 0 first_of d refl t).0 1 refl refl
none_moves_at_once (suc zero) d t = (told_right 1 second_of d refl t).0 0 refl refl
none_moves_at_once (suc (suc n)) d t = let here : ◌≡◌ (slice_get (first_state each_for_the_other).agents (suc (suc n))) (Some t.before) = t.agent in cc
