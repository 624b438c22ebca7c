-- Internal: what is held weakly, as flags, while the identities and the registrations are gone through.
use Rattle.std.specs.Prelude.{ℕ, ◌≡◌, ◌↔◌, ◌<◌, ◌≤◌, ◌||◌, Bool, true, false, List, length, Option, Some, None, if◌then◌else◌}
use Rattle.std.specs.Option.{option_and_then}
use Rattle.es_value.specs.declared.value.Value.{Value}
use Rattle.es_event.specs.History.{History}
use Rattle.es_event.specs.Identities.{identity, made, is_gone, is_there}
use Rattle.es_event.specs.WeakRefs.{target}
use Rattle.es_event.specs.Ephemerons.{entry, is_member}
use Rattle.es_event.specs.Registrations.{Cell, live, cell, fate, same_fate, is_present}
use Rattle.es_registry.specs.declared.slot.Registration.{Registration}
use Rattle.es_why.specs.Flags.{is_set, is_this}
use Rattle.es_why.specs.Kept.{IsHeldWeakly}

-- the identity of the target of w, if w is a WeakRef that is there
abbrev pub target_of : History → ℕ → Option ℕ
target_of h w = if is_there h w then option_and_then identity (target h w) else None

-- the target or the token of a registration whose cell is in its registry
abbrev pub is_watched : Option Registration → ℕ → Bool
is_watched None i = false
is_watched (Some r) i = is_this r.target i || is_this r.token i

-- a WeakMap that is not emptied has an entry under i
pub record TellsEntry (h : History) (i : ℕ) (b : Bool) : Type 0 where
  pub only : b ≡ true → IsHeldWeakly h i
  pub every : (m : ℕ) (v : Value) → is_gone h m ≡ false → entry h m i ≡ Some v → b ≡ true

-- a WeakSet that is not emptied has i
pub record TellsMember (h : History) (i : ℕ) (b : Bool) : Type 0 where
  pub only : b ≡ true → IsHeldWeakly h i
  pub every : (s : ℕ) → is_gone h s ≡ false → is_member h s i ≡ true → b ≡ true

-- the flags have what is held weakly on account of the first identities, as WeakRefs, keys and members, and of the first registrations
pub record Passed (h : History) (identities registrations : ℕ) (flags : List Bool) : Type 0 where
  pub room : made h < length flags
  pub only : (i : ℕ) → is_set flags i ≡ true → IsHeldWeakly h i
  pub targets : (w i : ℕ) → 0 < w → w ≤ identities → target_of h w ≡ Some i → is_set flags i ≡ true
  pub entries : (m i : ℕ) (v : Value) → 0 < i → i ≤ identities → is_gone h m ≡ false → entry h m i ≡ Some v → is_set flags i ≡ true
  pub members : (s i : ℕ) → 0 < i → i ≤ identities → is_gone h s ≡ false → is_member h s i ≡ true → is_set flags i ≡ true
  pub cells : (n : ℕ) (c : Cell) → 0 < n → n ≤ registrations → cell h n ≡ Some c → same_fate (fate h n) live ≡ true → is_set flags c.target ≡ true
  pub tokens : (n i : ℕ) (c : Cell) → 0 < n → n ≤ registrations → cell h n ≡ Some c → is_present (fate h n) ≡ true → c.token ≡ Some i → is_set flags i ≡ true

-- the flags are those of what is held weakly
abbrev pub AreFlagged : History → List Bool → Type 0
AreFlagged h flags = (i : ℕ) → (is_set flags i ≡ true) ↔ IsHeldWeakly h i
