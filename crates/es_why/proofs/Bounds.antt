-- What a step leads to was made.
use Rattle.std.proofs.Common.{◌≡◌, ℕ, ◌≤◌, List, arith}
use Rattle.std.specs.Prelude.{slice_get}
use Rattle.es_event.specs.Identities.{identity, made}
use Rattle.es_event.specs.Jobs.{receivers}
use Rattle.es_event.specs.Variables.{var}
use Rattle.es_event.specs.Properties.{prop, keys}
use Rattle.es_event.specs.Ephemerons.{entry}
use Rattle.es_event.specs.Registrations.{callback, cell, fate}
use Rattle.es_event.specs.Sharing.{Buffers}
use Rattle.es_event.specs.Legal.{LegalBy}
use Rattle.std.specs.Option.{option_and_then}
use Rattle.es_event.proofs.Keeping.{kept_within}
use Rattle.es_event.proofs.Objects.{var_within, prop_within, value_within}
use Rattle.es_event.proofs.Registries.{holding_within}
use Rattle.es_mark.specs.declared.step.Step.{Step}
use Rattle.es_mark.specs.declared.step.Step.TheVariants.{Variable, Kept, Registry, Held, Property, Entry}
use Rattle.es_mark.specs.Finds.{IsBound}
use Rattle.es_record.specs.AgentView.{AgentView}
use Rattle.es_record.specs.Leading.{held_in}
use Rattle.es_record.proofs.Reached.{called_within}
use Rattle.es_why.specs.Leads.{LeadsTo}
use Rattle.es_why.proofs.Parts.{both_some, some_there, held_parts}

module _ (over : Buffers) (b : AgentView) (names : List (List ℕ)) (legal : LegalBy over (receivers b.plan.jobs) b.history) where
  pub leads_bound : (s : Step) (i : ℕ) → LeadsTo b names s i → i ≤ made b.history
  leads_bound (Variable n) i led =
      let p = both_some (λ x. identity (var (receivers b.plan.jobs) b.history x)) (slice_get names n) i led in
      (var_within over (receivers b.plan.jobs) b.history legal p.0 i p.2).1
  leads_bound Kept i led = (kept_within over (receivers b.plan.jobs) b.history legal i led).1
  leads_bound Registry i led = let c = some_there (callback b.history i) led in (called_within over (receivers b.plan.jobs) b.history legal i c.0 c.1).1
  leads_bound (Held n) i led =
      let p = both_some (held_in (fate b.history n)) (cell b.history n) i led in
      (holding_within over (receivers b.plan.jobs) b.history legal n p.0 i p.1 (held_parts (fate b.history n) p.0 i p.2).1).1
  leads_bound (Property o n) i led =
      let p = both_some (λ k. option_and_then identity (prop b.history o k)) (slice_get (keys b.history o) n) i led.1 in
      let q = both_some identity (prop b.history o p.0) i p.2 in
      (prop_within over (receivers b.plan.jobs) b.history legal o p.0 q.0 i q.1 q.2).1
  leads_bound (Entry m k) i led =
      let q = both_some identity (entry b.history m k) i led.1 in
      (value_within over (receivers b.plan.jobs) b.history legal m k q.0 i q.1 q.2).1

  pub bound : (n : ℕ) → n ≡ made b.history → IsBound (LeadsTo b names) n
  bound n is s i led = let l : i ≤ made b.history = leads_bound s i led in omega arith
