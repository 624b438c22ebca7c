-- By turns each plan has an answer, and no two; and so has what is left of it.
use Rattle.std.proofs.Common.{◌≡◌, ℕ, Bool, true, false, sym, ◌∙◌, ap, refl, subst, List, [], length}
use Rattle.std.specs.Prelude.{codes}
use Rattle.es_event.specs.declared.outcome.Outcome.{Outcome}
use Rattle.es_event.specs.declared.plan.Plan.{Plan}
use Rattle.es_event.specs.Others.{all_name_others}
use Rattle.es_event.specs.Report.{report}
use Rattle.es_event.proofs.Entries.{inner}
use Rattle.es_cluster.specs.Ends.{EndsIn}
use Rattle.es_cluster.specs.Moves.{RunsToEnd}
use Rattle.es_cluster.specs.State.{ClusterView, first_state, plans}
use Rattle.es_cluster.specs.Turns.{AllTurned}
use Rattle.es_cluster.proofs.Beginning.{first_plans}
use Rattle.es_theorems.proofs.Ends.{one_end, rest_has_one_end}
use Rattle.es_theorems.proofs.Telling.{same_report}
use Rattle.es_theorems.proofs.Plans.{SamePlans, plans_all, plans_length, plans_to_end}
use Rattle.es_theorems.proofs.Arriving.{plan_comes_to_an_end, rest_comes_to_an_end}
use Rattle.es_script.specs.Fault.{IsPlanOf}
use Rattle.es_script.specs.Grammar.{StandsFor, no_callback_collects}
use Rattle.es_script.proofs.Collecting.{agents_harmless_at}
use Rattle.es_script.proofs.Others.{agents_others_at}
use Rattle.es_script.proofs.Whole.{stands_for_one}
use Rattle.es_outcome.specs.Outcomes.{IsClusterOutcome}
use Rattle.es_turns.specs.Answer.{IsAnswer, IsAnswerTo, IsReportOfRest}
use Rattle.es_turns.proofs.Whole.{outcome_of}

-- No two

pub one_answer : (check : Bool) (plan : Plan) (s t : List ℕ) → IsAnswer check true plan s → IsAnswer check true plan t → s ≡ t
one_answer true plan s t first second = first ∙ sym second
one_answer false plan s t first second =
    let one = first.2 in
    let other = second.2 in
    first.3 ∙ same_report first.0 second.0 (one_end plan one.0 other.0 first.0 second.0 one.1 one.2 other.1 other.2) ∙ sym second.3

-- One

-- what a cluster of the plan comes to is an outcome of it
ended_outcome : (plan : Plan) (ns : List ℕ) (from c : ClusterView) (o : Outcome) → AllTurned ns (first_state plan) from → RunsToEnd from c → EndsIn c o → IsClusterOutcome plan o
ended_outcome plan ns from c o turned run end =
    let before : SamePlans (first_state plan) from = plans_all ns (first_state plan) from turned in
    let after : SamePlans from c = plans_to_end from c run in
    let are : plans c.agents ≡ plan.agents = after.plans_are ∙ before.plans_are ∙ first_plans (length plan.agents) 0 plan.agents in
    outcome_of plan c o are (sym (plans_length c.agents) ∙ ap length are ∙ sym (after.number ∙ before.number)) end

pub has_an_answer : (check : Bool) (plan : Plan) → all_name_others plan ≡ true → no_callback_collects plan ≡ true → (text : List ℕ) × IsAnswer check true plan text
has_an_answer true plan others quiet = (codes "ok\n", refl)
has_an_answer false plan others quiet =
    let e = plan_comes_to_an_end plan others quiet in
    (report e.1, (e.1, ended_outcome plan [] (first_state plan) e.0 e.1 refl e.2 e.3, (e.0, e.2, e.3), refl))

one_plan : (bytes : List ℕ) (p q : Plan) → IsPlanOf bytes p → IsPlanOf bytes q → p ≡ q
one_plan bytes p q a b = let same : a.0 ≡ b.0 = inner (sym a.1 ∙ b.1) in stands_for_one b.0 p q (subst (λ d. StandsFor d p) same a.2) b.2

pub one_answer_to : (check : Bool) (bytes : List ℕ) (plan : Plan) → IsPlanOf bytes plan → (text : List ℕ) × IsAnswerTo check bytes text × ((other : List ℕ) → IsAnswerTo check bytes other → other ≡ text)
one_answer_to check bytes plan is =
    let others : all_name_others plan ≡ true = agents_others_at is.2.version _ plan.agents is.2.agents in
    let quiet : no_callback_collects plan ≡ true = agents_harmless_at is.2.version _ plan.agents is.2.agents in
    let a = has_an_answer check plan others quiet in (
      a.0,
      (plan, is, a.1),
      λ other answer. one_answer check plan other a.0 (subst (λ p. IsAnswer check true p other) (one_plan bytes answer.0 plan answer.1 is) answer.2) a.1,
    )

pub one_report_of_rest : (plan : Plan) (ns : List ℕ) (from : ClusterView) → all_name_others plan ≡ true → no_callback_collects plan ≡ true → AllTurned ns (first_state plan) from
    → (text : List ℕ) × IsReportOfRest plan from text × ((other : List ℕ) → IsReportOfRest plan from other → other ≡ text)
one_report_of_rest plan ns from others quiet turned =
    let e = rest_comes_to_an_end plan ns from others quiet turned in (
      report e.1,
      (e.1, ended_outcome plan ns from e.0 e.1 turned e.2 e.3, (e.0, e.2, e.3), refl),
      λ other answer.
          (let ends = answer.2 in
          answer.3 ∙ same_report answer.0 e.1 (rest_has_one_end plan ns from ends.0 e.0 answer.0 e.1 turned ends.1 ends.2 e.2 e.3)),
    )
