-- A plan has one outcome, if its agents stay alone.
use Rattle.std.proofs.Common.{◌≡◌, true, sym, ◌∙◌, ap, refl, List, [], ◌∷◌, reverse}
use Rattle.std.specs.List.{list_all}
use Rattle.std.proofs.lemmas.Bool.{and_parts}
use Rattle.std.proofs.lemmas.List.{reverse-reverse}
use Rattle.es_event.specs.declared.event.Event.{Event}
use Rattle.es_event.specs.declared.outcome.Outcome.{Outcome}
use Rattle.es_event.specs.declared.plan.AgentPlan.{AgentPlan}
use Rattle.es_event.specs.declared.plan.Plan.{Plan}
use Rattle.es_event.specs.Jobs.{stays_alone}
use Rattle.es_event.specs.Runs.{IsWholeRun, AreWholeRuns, IsOutcome}
use Rattle.es_event.proofs.Alone.{one_whole_run}

one_reversed : (plan : AgentPlan) (g h : List Event) → stays_alone plan ≡ true → IsWholeRun plan (reverse g) → IsWholeRun plan (reverse h) → g ≡ h
one_reversed plan g h alone a b =
    sym (reverse-reverse g) ∙ (ap reverse (one_whole_run a.0 b.0 plan (reverse g) (reverse h) alone (a.1, a.2) (b.1, b.2)) ∙ reverse-reverse h)

same_runs : (plans : List AgentPlan) (gs hs : List (List Event)) → list_all stays_alone plans ≡ true → AreWholeRuns plans gs → AreWholeRuns plans hs → gs ≡ hs
same_runs [] [] [] alone a b = refl
same_runs [] [] (h ∷ hs) alone a b = absurd b
same_runs [] (g ∷ gs) hs alone a b = absurd a
same_runs (p ∷ ps) [] hs alone a b = absurd a
same_runs (p ∷ ps) (g ∷ gs) [] alone a b = absurd b
same_runs (p ∷ ps) (g ∷ gs) (h ∷ hs) alone a b =
    let each = and_parts (stays_alone p) (list_all stays_alone ps) alone in
    ap (λ k. k ∷ gs) (one_reversed p g h each.0 a.0 b.0) ∙ ap (λ ks. h ∷ ks) (same_runs ps gs hs each.1 a.1 b.1)

pub one_outcome : (plan : Plan) (a b : Outcome) → list_all stays_alone plan.agents ≡ true → IsOutcome plan a → IsOutcome plan b → (a.names ≡ b.names) × (a.histories ≡ b.histories)
one_outcome plan a b alone x y = (x.names ∙ sym y.names, same_runs plan.agents a.histories b.histories alone x.runs y.runs)
