-- Internal: which identities a call adds to a list, by the sets that have them.
use Rattle.std.specs.Prelude.{ℕ, ◌≡◌, Bool, true, List, ◌++◌, Some}
use Rattle.es_value.specs.declared.value.Value.{Value}
use Rattle.es_ephemeron.specs.Ephemerons.{Records}
pub use Rattle.es_ephemeron.specs.Ephemerons.{record_at}
pub use Rattle.es_props.specs.Variables.{Adds, HasBound}
use Rattle.std.specs.List.{AllByRecursion}
use Rattle.es_mark.specs.Graph.{HasAll, HasValue, HasValues}
use Rattle.es_registry.specs.Registries.{RegistriesView as RegistryContents, is_root}
use Rattle.es_tables.specs.Tables.{TablesView}

-- the set has the registries, and what cells in them hold
abbrev pub HasRegistryRoots : RegistryContents → (ℕ → Bool) → Type 0
HasRegistryRoots c t = (i : ℕ) → is_root c i ≡ true → t i ≡ true

-- the set has all roots: what variables hold, what is kept, the registries and what cells in them hold
pub record HasHeld (s : TablesView) (t : ℕ → Bool) : Type 0 where
  pub variables : HasBound s.variables t
  pub kept : HasAll s.weakrefs.kept t
  pub registries : HasRegistryRoots s.registries t

-- the set has the value of each entry with key k whose map it has
abbrev pub HasEntered : List (Records Value) → ℕ → (ℕ → Bool) → Type 0
HasEntered all k t = (m : ℕ) (v : Value) → t m ≡ true → record_at all m k ≡ Some v → HasValue t v

-- entries with key k are added, and a set has the value of each whose map it has exactly where it has all that it asks for
pub record AddsEntries (all : List (Records Value)) (k : ℕ) (old new : List (ℕ × Value)) : Type 0 where
  pub entries : List (ℕ × Value)
  pub added : new ≡ old ++ entries
  pub recorded : AllByRecursion (λ e. record_at all e.0 k ≡ Some e.1) entries
  pub only : (t : ℕ → Bool) → HasEntered all k t → HasValues entries t
  pub all_of : (t : ℕ → Bool) → HasValues entries t → HasEntered all k t
