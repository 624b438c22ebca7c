-- To believe: an agent as a graph: which sets have what it leads to, and that marks are what it reaches.
use Rattle.std.specs.Prelude.{ℕ, ◌≡◌, ◌↔◌, Bool, true, List, [], Some}
use Rattle.es_value.specs.declared.value.Value.{Value}
use Rattle.es_event.specs.History.{History}
use Rattle.es_event.specs.Identities.{identity, is_in, is_made, is_there}
use Rattle.es_event.specs.Jobs.{receivers}
use Rattle.es_event.specs.Variables.{var}
use Rattle.es_event.specs.Properties.{prop}
use Rattle.es_event.specs.WeakRefs.{kept}
use Rattle.es_event.specs.Ephemerons.{entry}
use Rattle.es_event.specs.Registrations.{Cell, callback, cell, fate, is_present}
use Rattle.es_event.specs.Later.{snapshot, derefed_since}
use Rattle.es_event.specs.Reach.{IsReached}
use Rattle.es_mark.specs.Marks.{IsLeast, is_marked}
use Rattle.es_record.specs.AgentView.{AgentView}

-- the set has what variables hold, KeptAlive, the registries, and what cells in their registries hold
pub record HasRoots (b : AgentView) (t : ℕ → Bool) : Type 0 where
  pub variables : (x : List ℕ) (i : ℕ) → identity (var (receivers b.plan.jobs) b.history x) ≡ Some i → t i ≡ true
  pub kept : (i : ℕ) → is_in (kept b.history) i ≡ true → t i ≡ true
  pub registries : (r c : ℕ) → callback b.history r ≡ Some c → t r ≡ true
  pub cells : (n : ℕ) (c : Cell) (i : ℕ) → cell b.history n ≡ Some c → is_present (fate b.history n) ≡ true → identity c.held ≡ Some i → t i ≡ true

-- the set has what the properties of o hold, where o is there
abbrev pub HasEdges : AgentView → ℕ → (ℕ → Bool) → Type 0
HasEdges b o t = is_there b.history o ≡ true → (k : List ℕ) (v : Value) (i : ℕ) → prop b.history o k ≡ Some v → identity v ≡ Some i → t i ≡ true

-- the set has the value of each entry with key k whose WeakMap it has and is there
abbrev pub HasEntries : AgentView → ℕ → (ℕ → Bool) → Type 0
HasEntries b k t = (m : ℕ) (v : Value) (i : ℕ) → is_there b.history m ≡ true → t m ≡ true → entry b.history m k ≡ Some v → identity v ≡ Some i → t i ≡ true

-- the marks are those of the agent's graph: its least closed set
abbrev pub AreMarksOf : AgentView → List Bool → Type 0
AreMarksOf b marks = IsLeast (HasRoots b) (HasEdges b) (HasEntries b) marks

-- the marks have exactly what the agent's history reaches
abbrev pub AreReached : AgentView → List Bool → Type 0
AreReached b marks = (i : ℕ) → (is_marked marks i ≡ true) ↔ IsReached (receivers b.plan.jobs) b.history i

-- Later collections

-- the agent as it was at p, as a graph: its definitions read its plan and p alone
abbrev pub as_at : AgentView → History → AgentView
as_at b p = record { plan = b.plan; number = b.number; agents = b.agents; over = []; history = p }

-- the set has what derefs gave since the copy of the open collection was taken at p, of what was made then
abbrev pub HasDerefed : AgentView → History → (ℕ → Bool) → Type 0
HasDerefed b p t = (i : ℕ) → is_in (derefed_since b.history) i ≡ true → is_made p i ≡ true → t i ≡ true

-- the marks are those of the agent's graph as it was when that copy was taken, with what derefs gave since as roots too
abbrev pub AreLateMarks : AgentView → List Bool → Type 0
AreLateMarks b marks = (p : History) → snapshot b.history ≡ Some p → IsLeast (λ t. HasRoots (as_at b p) t × HasDerefed b p t) (HasEdges (as_at b p)) (HasEntries (as_at b p)) marks
