-- To believe: the steps that lead to an agent's values, and that ways are shortest lists of them to all that is reached (ECMA-262, Execution).
use Rattle.std.specs.Prelude.{ℕ, ◌≡◌, ◌↔◌, true, List, [], Option, Some, is_some, slice_get}
use Rattle.std.specs.Option.{option_and_then}
use Rattle.es_event.specs.Identities.{identity, is_in, is_there}
use Rattle.es_event.specs.Jobs.{receivers}
use Rattle.es_event.specs.Variables.{var}
use Rattle.es_event.specs.Properties.{has_key}
use Rattle.es_event.specs.WeakRefs.{kept}
use Rattle.es_event.specs.Registrations.{callback}
use Rattle.es_event.specs.Reach.{IsReached}
use Rattle.es_mark.specs.declared.step.Step.{Step}
use Rattle.es_mark.specs.declared.step.Step.TheVariants.{Variable, Kept, Registry, Held, Property, Entry}
use Rattle.es_mark.specs.declared.way.Way.{Way}
use Rattle.es_mark.specs.Ways.{has_way, AreOrdered, AreShortest}
use Rattle.es_record.specs.AgentView.{AgentView}
use Rattle.es_record.specs.Leading.{held_of, property_at, entry_at}

-- the identity that the variable holds whose name has this place among the names
abbrev pub variable_at : AgentView → List (List ℕ) → ℕ → Option ℕ
variable_at b names place = option_and_then (λ x. identity (var (receivers b.plan.jobs) b.history x)) (slice_get names place)

-- the step leads to i: a variable, KeptAlive, a registry to itself, a cell that is in its registry, a property of an object that is there, an
-- entry of a WeakMap that is there
abbrev pub LeadsTo : AgentView → List (List ℕ) → Step → ℕ → Type 0
LeadsTo b names (Variable place) i = variable_at b names place ≡ Some i
LeadsTo b names Kept i = is_in (kept b.history) i ≡ true
LeadsTo b names Registry i = is_some (callback b.history i) ≡ true
LeadsTo b names (Held n) i = held_of b.history n ≡ Some i
LeadsTo b names (Property o place) i = (is_there b.history o ≡ true) × (property_at b.history o place ≡ Some i)
LeadsTo b names (Entry m k) i = (is_there b.history m ≡ true) × (entry_at b.history m k ≡ Some i)

-- the names of all variables that hold what has an identity are among these
abbrev pub AreAllNames : AgentView → List (List ℕ) → Type 0
AreAllNames b names = (x : List ℕ) (i : ℕ) → identity (var (receivers b.plan.jobs) b.history x) ≡ Some i → has_key names x ≡ true

-- one shortest way to each value that the agent reaches, and to no other, each after those that it comes from
pub record AreReasons (b : AgentView) (names : List (List ℕ)) (ws : List Way) : Type 0 where
  pub names_all : AreAllNames b names
  pub ordered : AreOrdered (LeadsTo b names) [] ws
  pub shortest : AreShortest (LeadsTo b names) ws
  pub reached : (i : ℕ) → (has_way ws i ≡ true) ↔ IsReached (receivers b.plan.jobs) b.history i
