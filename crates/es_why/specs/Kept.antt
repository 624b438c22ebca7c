-- To believe: what is held weakly, and the values that stay, each with what keeps it (WeakRef Objects, WeakMap Objects, WeakSet Objects,
-- FinalizationRegistry Objects; Execution).
use Rattle.std.specs.Prelude.{ℕ, ◌≡◌, ◌↔◌, ◌||◌, Bool, true, false, List, [], ◌∷◌, map, Some, slice_get, unwrap_or, if◌then◌else◌}
use Rattle.es_value.specs.declared.value.Value.{Value}
use Rattle.es_event.specs.History.{History}
use Rattle.es_event.specs.Identities.{identity, is_in, is_there}
use Rattle.es_event.specs.Properties.{keys}
use Rattle.es_event.specs.WeakRefs.{target}
use Rattle.es_event.specs.Ephemerons.{entry, is_member}
use Rattle.es_event.specs.Registrations.{Cell, live, cell, fate, same_fate, is_present}
use Rattle.es_mark.specs.declared.step.Step.{Step}
use Rattle.es_mark.specs.declared.step.Step.TheVariants.{Variable, Kept as KeptAlive, Registry, Held, Property, Entry}
use Rattle.es_mark.specs.declared.way.Way.{Way}
use Rattle.es_mark.specs.declared.kept.Kept.{Kept}
use Rattle.es_mark.specs.declared.kept.Reason.{Reason}
use Rattle.es_mark.specs.declared.kept.Reason.TheVariants.{Variable as ByVariable, KeptAlive as ByKeptAlive, Registry as AsRegistry, Registration as ByRegistration, Property as ByProperty, Entry as ByEntry}
use Rattle.es_mark.specs.Ways.{sources}
use Rattle.es_record.specs.AgentView.{AgentView}
use Rattle.es_why.specs.Leads.{AreReasons}

-- i is the target of a WeakRef that is there, has an entry in a WeakMap that is there, is a member of a WeakSet that is there, or is the target of
-- a live cell or the token of a cell that is in its registry
pub data IsHeldWeakly (h : History) : ℕ → Type 0 where
  by_weakref : (w : ℕ) (v : Value) (i : ℕ) → is_there h w ≡ true → target h w ≡ Some v → identity v ≡ Some i → IsHeldWeakly h i
  by_entry : (m i : ℕ) (v : Value) → is_there h m ≡ true → entry h m i ≡ Some v → IsHeldWeakly h i
  by_member : (s i : ℕ) → is_there h s ≡ true → is_member h s i ≡ true → IsHeldWeakly h i
  by_target : (n : ℕ) (c : Cell) (i : ℕ) → cell h n ≡ Some c → same_fate (fate h n) live ≡ true → c.target ≡ i → IsHeldWeakly h i
  by_token : (n : ℕ) (c : Cell) (i : ℕ) → cell h n ≡ Some c → is_present (fate h n) ≡ true → c.token ≡ Some i → IsHeldWeakly h i

-- the name at this place
abbrev pub at_place : List (List ℕ) → ℕ → List ℕ
at_place names place = unwrap_or (slice_get names place) []

-- the step, in the words of the plan
abbrev pub reason_of : History → List (List ℕ) → Step → Reason
reason_of h names (Variable place) = ByVariable (at_place names place)
reason_of h names KeptAlive = ByKeptAlive
reason_of h names Registry = AsRegistry
reason_of h names (Held n) = ByRegistration n
reason_of h names (Property o place) = ByProperty o (at_place (keys h o) place)
reason_of h names (Entry m k) = ByEntry m k

abbrev pub kept_by : History → List (List ℕ) → Way → Kept
kept_by h names w = record { value = w.value; reason = reason_of h names w.step }

-- one of the ways comes from i
abbrev pub is_source : List Way → ℕ → Bool
is_source [] i = false
is_source (w ∷ ws) i = is_in (sources w.step) i || is_source ws i

-- the ways to what the set has, and to what these come from
abbrev pub ways_for : (ℕ → Bool) → List Way → List Way
ways_for t [] = []
ways_for t (w ∷ ws) = if t w.value || is_source (ways_for t ws) w.value then w ∷ ways_for t ws else ways_for t ws

-- all values that the agent reaches, or those that are held weakly with all that lies on their ways: each once, with the last step of a shortest way
-- to it, after those that the way comes from
pub record AreKept (b : AgentView) (all : Bool) (ks : List Kept) : Type 0 where
  pub names : List (List ℕ)
  pub ways : List Way
  pub told : ℕ → Bool
  pub reasons : AreReasons b names ways
  pub every : all ≡ true → (i : ℕ) → told i ≡ true
  pub weak : all ≡ false → (i : ℕ) → (told i ≡ true) ↔ IsHeldWeakly b.history i
  pub are : ks ≡ map (kept_by b.history names) (ways_for told ways)
