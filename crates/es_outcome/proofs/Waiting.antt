-- An agent that waits for nobody has no message that found no room.
use Rattle.std.proofs.Common.{◌≡◌, ℕ, zero, suc, ◌-◌, ◌++◌, Bool, true, false, is_none, List, [], ◌∷◌, Option, Some, None, refl, ◌∙◌, ap, cond}
use Rattle.std.specs.Prelude.{slice_get}
use Rattle.std.specs.List.{list_all}
use Rattle.std.specs.Option.{option_and_then, option_map_or}
use Rattle.std.proofs.lemmas.Bool.{and_parts}
use Rattle.es_event.specs.declared.plan.AgentPlan.{AgentPlan}
use Rattle.es_event.specs.declared.plan.Job.{Job}
use Rattle.es_event.specs.History.{History}
use Rattle.es_event.specs.Jobs.{job, waits_for_nobody}
use Rattle.es_match.specs.Asks.{asks, between_jobs}
use Rattle.es_match.specs.Cluster.{awaited, is_refusal_asked, refused_senders}

none : {A : Type 0} (o : Option A) → is_none o ≡ true → o ≡ None
none None e = refl
none (Some x) e = cc

pub none_on : (jobs : List Job) → list_all (λ j. is_none j.on) jobs ≡ true → (i : ℕ) → option_and_then (λ j. j.on) (slice_get jobs i) ≡ None
none_on [] each i = refl
none_on (j ∷ jobs) each zero = none j.on (and_parts (is_none j.on) (list_all (λ j. is_none j.on) jobs) each).0
none_on (j ∷ jobs) each (suc i) = none_on jobs (and_parts (is_none j.on) (list_all (λ j. is_none j.on) jobs) each).1 i

either_none : (b : Bool) → ◌≡◌ {A = List ℕ} (cond b [] []) []
either_none true = refl
either_none false = refl

pub none_refused : (plan : AgentPlan) → waits_for_nobody plan ≡ true → (h : History) → refused_senders plan h ≡ []
none_refused plan nobody [] = refl
none_refused plan nobody (e ∷ h) =
    let none_awaited : awaited plan (job h) ≡ [] = ap (λ on. option_map_or (λ on. on.0 ∷ []) on []) (none_on plan.jobs nobody (job h - 1)) in
    ap (λ s. s ++ cond (is_refusal_asked (asks (between_jobs h) e)) (awaited plan (job h)) []) (none_refused plan nobody h)
    ∙ ap (λ s. cond (is_refusal_asked (asks (between_jobs h) e)) s []) none_awaited
    ∙ either_none (is_refusal_asked (asks (between_jobs h) e))
