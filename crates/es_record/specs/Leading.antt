-- To believe: what one step leads to: the value of a cell, of a property by its place, of an entry; what a call finds of entries and of WeakSets; and what
-- is kept of a registration.
use Rattle.std.specs.Prelude.{ℕ, ◌≡◌, true, false, List, ◌++◌, Option, Some, None, nat_eq, slice_get, if◌then◌else◌}
use Rattle.std.specs.List.{AllByRecursion, IsDistinct}
use Rattle.std.specs.Option.{option_and_then}
use Rattle.es_value.specs.declared.value.Value.{Value}
use Rattle.es_ephemeron.specs.Ephemerons.{held_by, holders}
use Rattle.es_event.specs.History.{History}
use Rattle.es_event.specs.Identities.{identity, is_in, is_gone}
use Rattle.es_event.specs.Properties.{prop, keys}
use Rattle.es_event.specs.Ephemerons.{entry, is_member}
use Rattle.es_event.specs.Registrations.{Cell, Fate, live, awaiting, unregistered, taken, cell, fate, is_present}
use Rattle.es_registry.specs.declared.slot.Registration.{Registration}

-- the identity that a cell of this fate holds, if it is in its registry
abbrev pub held_in : Fate → Cell → Option ℕ
held_in f c = if is_present f then identity c.held else None

-- the identity that the cell of registration n holds, if the cell is in its registry (FinalizationRegistry.prototype.register)
abbrev pub held_of : History → ℕ → Option ℕ
held_of h n = option_and_then (held_in (fate h n)) (cell h n)

-- the identity that the property of o holds whose key has this place among the keys (OrdinaryOwnPropertyKeys, OrdinaryGet)
abbrev pub property_at : History → ℕ → ℕ → Option ℕ
property_at h o place = option_and_then (λ k. option_and_then identity (prop h o k)) (slice_get (keys h o) place)

-- the identity that the entry of WeakMap m under key k has (WeakMap.prototype.get)
abbrev pub entry_at : History → ℕ → ℕ → Option ℕ
entry_at h m k = option_and_then identity (entry h m k)

-- WeakMap and value of each entry with key k are added, of WeakMaps that are not emptied, none twice
pub record AddsUnder (h : History) (k : ℕ) (old new : List (ℕ × Value)) : Type 0 where
  pub entries : List (ℕ × Value)
  pub added : new ≡ old ++ entries
  pub only : AllByRecursion (λ e. (is_gone h e.0 ≡ false) × (entry h e.0 k ≡ Some e.1)) entries
  pub every : (m : ℕ) (v : Value) → is_gone h m ≡ false → entry h m k ≡ Some v → held_by entries m ≡ Some v
  pub once : IsDistinct nat_eq (holders entries)

-- WeakSets that have the member v are added, of those that are not emptied: each that has it, none twice
pub record AddsSets (h : History) (v : ℕ) (old new : List ℕ) : Type 0 where
  pub sets : List ℕ
  pub added : new ≡ old ++ sets
  pub only : AllByRecursion (λ s. (is_gone h s ≡ false) × (is_member h s v ≡ true)) sets
  pub every : (s : ℕ) → is_gone h s ≡ false → is_member h s v ≡ true → is_in sets s ≡ true
  pub once : IsDistinct nat_eq sets

-- what is kept of registration n, which was made with this cell, if the cell is in its registry: without its target where that was emptied
abbrev pub registration_in : ℕ → Fate → Cell → Option Registration
registration_in n live c = Some (record { registry = c.registry; target = Some c.target; token = c.token; cell = record { registration = n; held = c.held } })
registration_in n awaiting c = Some (record { registry = c.registry; target = None; token = c.token; cell = record { registration = n; held = c.held } })
registration_in n unregistered c = None
registration_in n taken c = None

-- what is kept of registration n (FinalizationRegistry.prototype.register); none where it was not made
abbrev pub registration_said : History → ℕ → Option Registration
registration_said h n = option_and_then (registration_in n (fate h n)) (cell h n)
