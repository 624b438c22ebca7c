-- What a cluster's end says of the plan's outcome, and the totals of its agents.
use Rattle.std.proofs.Common.{◌≡◌, suc, List, [], ◌∷◌, map, reverse, length, sym, ◌∙◌, ap, refl, subst}
use Rattle.es_event.specs.declared.outcome.Outcome.{Outcome}
use Rattle.es_event.specs.declared.plan.Plan.{Plan}
use Rattle.es_event.specs.LegalLedger.{LegalLedger}
use Rattle.es_cluster.proofs.Beginning.{first_plans}
use Rattle.es_cluster.specs.Ends.{EndsIn}
use Rattle.es_cluster.specs.State.{ClusterView, accounts, first_state, names_of, plans}
use Rattle.es_record.specs.AgentView.{AgentView}
use Rattle.es_registry.specs.declared.slot.Tally.{Tally}
use Rattle.es_report.specs.Tallies.{end_tally, AreTallies}
use Rattle.es_outcome.proofs.Ended.{told_plans}
use Rattle.es_outcome.proofs.Tallied.{of_cores, of_events}
use Rattle.es_outcome.proofs.Telling.{told_histories}
use Rattle.es_outcome.specs.Outcomes.{IsClusterOutcome}

-- Plans

names_by_plans : (bs : List AgentView) → names_of bs ≡ map (λ p. p.name) (plans bs)
names_by_plans [] = refl
names_by_plans (b ∷ bs) = ap (λ ns. b.plan.name ∷ ns) (names_by_plans bs)

plans_length : (bs : List AgentView) → length (plans bs) ≡ length bs
plans_length [] = refl
plans_length (b ∷ bs) = ap suc (plans_length bs)

pub outcome_of : (plan : Plan) (c : ClusterView) (o : Outcome) → plans c.agents ≡ plan.agents → length c.agents ≡ c.ledger.agents → EndsIn c o → IsClusterOutcome plan o
outcome_of plan c o same number end = record {
  names = end.names ∙ names_by_plans c.agents ∙ ap (λ ps. map (λ p. p.name) ps) same;
  agents = accounts c.agents;
  runs = record {
    plans_are = told_plans c.agents ∙ same;
    histories_are = told_histories c.agents ∙ sym end.agents.are;
    whole = end.agents.runs;
  };
  legal = subst (λ n. LegalLedger n (reverse o.ledger)) (sym number ∙ sym (plans_length c.agents) ∙ ap length same) end.legal;
  cluster = end.cluster;
  tickets = end.tickets;
  messages = end.messages;
}

-- Totals

pub tallies_of_outcome : (c : ClusterView) (o : Outcome) (ts : List Tally) → EndsIn c o → ts ≡ map (λ b. end_tally b.history) c.agents → AreTallies o.histories ts
tallies_of_outcome c o ts end are = are ∙ of_cores c.agents ∙ ap (map end_tally) (sym end.agents.are) ∙ sym (of_events o.histories)

-- A cluster of the plan

-- before its first event it has the plans of the plan
pub begins_planned : (plan : Plan) (c : ClusterView) → c ≡ first_state plan → plans c.agents ≡ plan.agents
begins_planned plan c is = ap (λ c. plans c.agents) is ∙ first_plans (length plan.agents) 0 plan.agents
