-- What the steps reach is what the definitions reach.
use Rattle.std.proofs.Common.{◌≡◌, ℕ, ◌&&◌, Bool, true, ◌∙◌, ap, List}
use Rattle.std.specs.Prelude.{is_some, slice_get}
use Rattle.std.specs.List.{AllByRecursion}
use Rattle.std.specs.Option.{option_and_then}
use Rattle.std.proofs.lemmas.Bool.{and_parts, and_from}
use Rattle.es_event.specs.Identities.{identity, is_there}
use Rattle.es_event.specs.Jobs.{receivers}
use Rattle.es_event.specs.Variables.{var}
use Rattle.es_event.specs.Properties.{prop, keys}
use Rattle.es_event.specs.Ephemerons.{entry}
use Rattle.es_event.specs.Registrations.{callback, cell, fate}
use Rattle.es_event.specs.Sharing.{Buffers}
use Rattle.es_event.specs.Reach.{IsClosed as IsClosedBy}
use Rattle.es_event.specs.Runs.{IsRunOver}
use Rattle.es_event.proofs.Alive.{stays_along}
use Rattle.es_event.proofs.KeysOf.{keys_are}
use Rattle.es_mark.specs.Graph.{IsClosed as IsClosedIn}
use Rattle.es_mark.specs.declared.step.Step.{Step}
use Rattle.es_mark.specs.declared.step.Step.TheVariants.{Variable, Kept, Registry, Held, Property, Entry}
use Rattle.es_mark.specs.declared.way.Way.{Way}
use Rattle.es_mark.specs.Ways.{sources, AreWays, AreShortest}
use Rattle.es_record.specs.AgentView.{AgentView}
use Rattle.es_record.specs.Graph.{HasRoots, HasEdges, HasEntries}
use Rattle.es_record.specs.Leading.{held_in}
use Rattle.es_record.proofs.Reached.{there_closed}
use Rattle.es_why.specs.Leads.{LeadsTo, AreAllNames, AreReasons}
use Rattle.es_why.proofs.Parts.{both_some, some_there, held_parts, held_from, key_place}

module _ (b : AgentView) (names : List (List ℕ)) where
  -- a closed set by the definitions is closed by the steps
  closed_by_steps : (m : ℕ → Bool) → IsClosedBy (receivers b.plan.jobs) b.history (λ j. m j ≡ true) → (s : Step) (i : ℕ) → LeadsTo b names s i
      → AllByRecursion (λ j. m j ≡ true) (sources s) → m i ≡ true
  closed_by_steps m closed (Variable n) i led comes =
      let p = both_some (λ x. identity (var (receivers b.plan.jobs) b.history x)) (slice_get names n) i led in closed.variables p.0 i p.2
  closed_by_steps m closed Kept i led comes = closed.kept i led
  closed_by_steps m closed Registry i led comes = let c = some_there (callback b.history i) led in closed.registries i c.0 c.1
  closed_by_steps m closed (Held n) i led comes =
      let p = both_some (held_in (fate b.history n)) (cell b.history n) i led in
      let q = held_parts (fate b.history n) p.0 i p.2 in closed.cells n p.0 i p.1 q.0 q.1
  closed_by_steps m closed (Property o n) i led comes =
      let p = both_some (λ k. option_and_then identity (prop b.history o k)) (slice_get (keys b.history o) n) i led.1 in
      let q = both_some identity (prop b.history o p.0) i p.2 in closed.properties o p.0 q.0 i comes.0 q.1 q.2
  closed_by_steps m closed (Entry w k) i led comes = let q = both_some identity (entry b.history w k) i led.1 in closed.entries w k q.0 i comes.0 comes.1.0 q.1 q.2

  -- a set that is closed by the steps is closed by the definitions, as far as it is there
  closed_by_rules : (t : ℕ → Bool) → AreAllNames b names → IsClosedIn (HasRoots b) (HasEdges b) (HasEntries b) (is_there b.history)
      → ((s : Step) (i : ℕ) → LeadsTo b names s i → AllByRecursion (λ j. t j ≡ true) (sources s) → t i ≡ true)
      → IsClosedBy (receivers b.plan.jobs) b.history (λ j. (t j && is_there b.history j) ≡ true)
  closed_by_rules t all there closed = record {
    variables = λ x i e.
        let p = key_place names x (all x i e) in
        and_from (t i) (is_there b.history i)
        (closed (Variable p.0) i (ap (option_and_then (λ x. identity (var (receivers b.plan.jobs) b.history x))) p.1 ∙ e) tt) (there.has_roots.variables x i e);
    kept = λ i e. and_from (t i) (is_there b.history i) (closed Kept i e tt) (there.has_roots.kept i e);
    registries = λ r c e. and_from (t r) (is_there b.history r) (closed Registry r (ap is_some e) tt) (there.has_roots.registries r c e);
    cells = λ n c i e p is.
        and_from (t i) (is_there b.history i)
        (closed (Held n) i (ap (option_and_then (held_in (fate b.history n))) e ∙ held_from (fate b.history n) c i p is) tt) (there.has_roots.cells n c i e p is);
    properties = λ o k v i both e is.
        let parts = and_parts (t o) (is_there b.history o) both in
        let p = key_place (keys b.history o) k (keys_are b.history o k ∙ ap is_some e) in
        and_from (t i) (is_there b.history i)
        (closed (Property o p.0) i (parts.1, ap (option_and_then (λ k. option_and_then identity (prop b.history o k))) p.1 ∙ ap (option_and_then identity) e ∙ is) (parts.0, tt))
        (there.follows o parts.1 parts.1 k v i e is);
    entries = λ w k v i of_map of_key e is.
        let maps = and_parts (t w) (is_there b.history w) of_map in
        let keys_of = and_parts (t k) (is_there b.history k) of_key in
        and_from (t i) (is_there b.history i) (closed (Entry w k) i (maps.1, ap (option_and_then identity) e ∙ is) (maps.0, (keys_of.0, tt)))
        (there.enters k keys_of.1 w v i maps.1 maps.1 e is);
  }

  pub are_reasons : (over : Buffers) (ws : List Way) → IsRunOver over b.plan b.history → AreAllNames b names → AreWays (LeadsTo b names) ws → AreShortest (LeadsTo b names) ws → AreReasons b names ws
  are_reasons over ws run all ways shortest = record {
    names_all = all;
    ordered = ways.ordered;
    shortest = shortest;
    reached = λ i. (
      λ e m closed. ways.only i e m (closed_by_steps m closed),
      λ r. ways.every i
          (λ t closed.
          (and_parts (t i) (is_there b.history i)
          (r (λ j. t j && is_there b.history j) (closed_by_rules t all (there_closed over b run.0 (stays_along over b.plan b.history run.0 run.1)) closed))).0),
    );
  }
