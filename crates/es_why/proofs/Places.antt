-- What stands at a place of the names, or of an object's keys.
use Rattle.std.proofs.Common.{◌≡◌, ℕ, ◌<◌, sym, ◌∙◌, ap, List, length, Option, refl}
use Rattle.std.specs.Prelude.{slice_get}
use Rattle.std.specs.Option.{option_and_then}
use Rattle.std.proofs.Math.ListN.{get_or}
use Rattle.std.proofs.lemmas.Option.{slice_get_read}
use Rattle.es_value.specs.declared.value.Value.{Value}
use Rattle.es_event.specs.History.{History}
use Rattle.es_event.specs.Identities.{identity}
use Rattle.es_event.specs.Jobs.{receivers}
use Rattle.es_event.specs.Variables.{var}
use Rattle.es_event.specs.Properties.{prop, keys}
use Rattle.es_record.specs.AgentView.{AgentView}
use Rattle.es_record.specs.Leading.{property_at}
use Rattle.es_why.specs.Leads.{variable_at}

pub variable_said : (b : AgentView) (names : List (List ℕ)) (place : ℕ) (x : List ℕ) (v : Value) (id : Option ℕ) → place < length names → x ≡ get_or names place x → v ≡ var (receivers b.plan.jobs) b.history x
    → id ≡ identity v → id ≡ variable_at b names place
variable_said b names place x v id within is said found =
    found ∙ ap identity said ∙ sym (ap (option_and_then (λ y. identity (var (receivers b.plan.jobs) b.history y))) (slice_get_read names (length names) place x refl within is))

pub property_said : (h : History) (o place : ℕ) (ks : List (List ℕ)) (k : List ℕ) (id : Option ℕ) → place < length ks → ks ≡ keys h o → k ≡ get_or ks place k → id ≡ option_and_then identity (prop h o k)
    → id ≡ property_at h o place
property_said h o place ks k id within same is found =
    found
    ∙ sym (ap (λ (l : List (List ℕ)). option_and_then (λ y. option_and_then identity (prop h o y)) (slice_get l place)) (sym same)
    ∙ ap (option_and_then (λ y. option_and_then identity (prop h o y))) (slice_get_read ks (length ks) place k refl within is))
