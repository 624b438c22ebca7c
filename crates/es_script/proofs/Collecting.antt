-- No callback of a plan that is read collects, at once or later.
use Rattle.std.proofs.Common.{ℕ, ◌≡◌, ◌+◌, ◌||◌, not, Bool, true, false, List, [], ◌∷◌, Option, Some, refl, ap}
use Rattle.std.specs.Prelude.{codes}
use Rattle.std.specs.List.{list_any, list_all}
use Rattle.std.proofs.lemmas.Bool.{and_parts}
use Rattle.serde_json.specs.Data.{Data, array, Items, no_items, item}
use Rattle.serde_json.specs.Find.{get}
use Rattle.es_event.specs.declared.command.Command.{Command}
use Rattle.es_event.specs.declared.plan.AgentPlan.{AgentPlan}
use Rattle.es_event.specs.Commands.{opens_or_collects}
use Rattle.es_event.specs.Jobs.{callbacks_collect_nothing}
use Rattle.es_reading.specs.Scope.{Scope, scope_of}
use Rattle.es_script.specs.Grammar.{IsBody, AreAgents, HasAgents}
use Rattle.es_script.proofs.Sound.{both_true}
use Rattle.es_script.proofs.Passing.{command_harmless, body_passes, callbacks_pass_at}
use Rattle.es_reading.specs.declared.version.Version.{Version}

neither : (b c : Bool) → not b ≡ true → not c ≡ true → not (b || c) ≡ true
neither true c h k = cc
neither false c h k = k

none_collects : (cs : List Command) → list_all (λ c. not (opens_or_collects c)) cs ≡ true → not (list_any opens_or_collects cs) ≡ true
none_collects [] h = refl
none_collects (c ∷ cs) h =
    let parts = and_parts (not (opens_or_collects c)) (list_all (λ c. not (opens_or_collects c)) cs) h in
    neither (opens_or_collects c) (list_any opens_or_collects cs) parts.0 (none_collects cs parts.1)

body_harmless : (scope : Scope) (o : Option Data) (cs : List Command) (xs : List (Option (List ℕ))) → IsBody scope true o cs xs → not (list_any opens_or_collects cs) ≡ true
body_harmless scope o cs xs h = none_collects cs (body_passes (λ c. not (opens_or_collects c)) scope true (λ d c k. ap not (command_harmless scope d c k)) o cs xs h)

agents_harmless : (v : Version) (agents : Items) (a : ℕ) (ds : Items) (ps : List AgentPlan) → AreAgents v agents a ds ps → list_all callbacks_collect_nothing ps ≡ true
agents_harmless v agents a no_items [] h = refl
agents_harmless v agents a no_items (p ∷ ps) h = absurd h
agents_harmless v agents a (item d ds) [] h = absurd h
agents_harmless v agents a (item d ds) (p ∷ ps) h =
    let scope = scope_of v agents a d in
    both_true _ _ (callbacks_pass_at (λ cs. not (list_any opens_or_collects cs)) scope (body_harmless scope) (get (codes "callbacks") d) p.callbacks h.0.callbacks)
    (agents_harmless v agents (a + 1) ds ps h.1)

pub agents_harmless_at : (v : Version) (o : Option Data) (ps : List AgentPlan) → HasAgents v o ps → list_all callbacks_collect_nothing ps ≡ true
agents_harmless_at v (Some (array ds)) ps h = agents_harmless v ds 0 ds ps h.0
agents_harmless_at v _ ps h = absurd h
