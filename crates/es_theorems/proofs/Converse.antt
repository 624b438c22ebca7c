-- What turns end in is an outcome of a run in threads; so each plan has one.
use Rattle.std.proofs.Common.{◌≡◌, ℕ, ◌∙◌, ap, sym, subst, true, List, length, map, reverse}
use Rattle.std.specs.List.{list_all}
use Rattle.es_event.specs.declared.outcome.Outcome.{Outcome}
use Rattle.es_event.specs.declared.plan.Plan.{Plan}
use Rattle.es_event.specs.Jobs.{callbacks_collect_nothing}
use Rattle.es_event.specs.LegalLedger.{LegalLedger}
use Rattle.es_event.specs.Others.{all_name_others}
use Rattle.es_cluster.specs.Ends.{EndsIn}
use Rattle.es_cluster.specs.Moves.{RunsToEnd, with_drained}
use Rattle.es_cluster.specs.State.{ClusterView, accounts, first_state}
use Rattle.es_cluster.specs.Turns.{AllTurned}
use Rattle.es_cluster.proofs.Beginning.{first_plans}
use Rattle.es_theorems.proofs.Plans.{SamePlans, plans_all, plans_to_end}
use Rattle.es_theorems.proofs.Arriving.{plan_comes_to_an_end}
use Rattle.es_outcome.specs.Outcomes.{IsClusterOutcome}
use Rattle.es_outcome.proofs.Ended.{told_plans}
use Rattle.es_outcome.proofs.Telling.{told_histories}
use Rattle.es_theorems.proofs.Ending.{names_are}

-- a cluster that has the plans of the plan still
outcome_of : (p : Plan) (c : ClusterView) (q : Outcome) → SamePlans (first_state p) c → EndsIn c q → IsClusterOutcome p q
outcome_of p c q same ends =
    let all : map (λ a. a.plan) (accounts c.agents) ≡ p.agents = told_plans c.agents ∙ same.plans_are ∙ first_plans (length p.agents) 0 p.agents in
    record {
      names = ends.names ∙ names_are c.agents ∙ ap (map (λ a. a.name)) all;
      agents = accounts c.agents;
      runs = record { plans_are = all; histories_are = told_histories c.agents ∙ sym ends.agents.are; whole = ends.agents.runs };
      legal = subst (λ n. LegalLedger n (reverse q.ledger)) same.number ends.legal;
      cluster = ends.cluster;
      tickets = ends.tickets;
      messages = ends.messages;
    }

pub outcome_of_turns : (p : Plan) (ns : List ℕ) (c : ClusterView) (q : Outcome) → AllTurned ns (first_state p) c → EndsIn (with_drained c) q → IsClusterOutcome p q
outcome_of_turns p ns c q turned ends =
    let same = plans_all ns (first_state p) c turned in
    outcome_of p (with_drained c) q (record { plans_are = same.plans_are; number = same.number }) ends

pub outcome_of_run : (p : Plan) (c : ClusterView) (q : Outcome) → RunsToEnd (first_state p) c → EndsIn c q → IsClusterOutcome p q
outcome_of_run p c q run ends = outcome_of p c q (plans_to_end (first_state p) c run) ends

pub some_outcome : (p : Plan) → all_name_others p ≡ true → list_all callbacks_collect_nothing p.agents ≡ true → (o : Outcome) × IsClusterOutcome p o
some_outcome p others quiet = let e = plan_comes_to_an_end p others quiet in (e.1, outcome_of_run p e.0 e.1 e.2 e.3)
