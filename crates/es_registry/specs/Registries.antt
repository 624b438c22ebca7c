-- To believe: FinalizationRegistries, their cells and the cleanup queue (FinalizationRegistry Objects), as contracts see them.
use Rattle.std.specs.Prelude.{ℕ, ◌≡◌, ◌<◌, ◌≤◌, Bool, ◌&&◌, ◌||◌, ◌==◌, not, nat_eq, List, [], ◌∷◌, Option, Some, None, is_some, if◌then◌else◌, ⊤}
use Rattle.std.specs.List.{list_any, find}
use Rattle.std.specs.List.Sorted.{IsStrictlyIncreasing}
use Rattle.std.specs.Option.{option_and_then}
use Rattle.es_value.specs.Ids.{is_in}
use Rattle.es_value.specs.declared.value.Value.{Value}
use Rattle.es_registry.specs.declared.slot.Cell.{Cell}
use Rattle.es_registry.specs.declared.slot.Slot.{Slot}
use Rattle.es_registry.specs.declared.slot.Slot.TheVariants.{Present}
use Rattle.es_registry.specs.Slots.{is_losing, awaits, cell_of, holds}

-- each registry with its callback, what became of each registration (the nth is registration n), the
-- registries whose cleanup job is to run, the first one first, and for how many more there is room: of
-- registries, of registrations (of slots, of places, and of places by registry and token) and of queued
-- ones
pub record RegistriesView : Type 0 where
  pub callbacks : List (ℕ × ℕ)
  pub cells : List Slot
  pub queue : List ℕ
  pub registry_room : ℕ
  pub slot_room : ℕ
  pub place_room : ℕ
  pub token_rooms : List ((ℕ × ℕ) × ℕ)
  pub queue_room : ℕ

-- the callback of r among these
abbrev pub found : List (ℕ × ℕ) → ℕ → Option ℕ
found [] r = None
found (p ∷ ps) r = if p.0 == r then Some p.1 else found ps r

-- the callback of the registry r
abbrev pub callback : RegistriesView → ℕ → Option ℕ
callback t r = found t.callbacks r

-- r has this callback, and every other registry its own
abbrev pub AddsRegistry : RegistriesView → ℕ → ℕ → RegistriesView → Type 0
AddsRegistry old r c new = (q : ℕ) → callback new q ≡ (if r == q then Some c else callback old q)

-- every registry has the callback that it had
abbrev pub SameCallbacks : RegistriesView → RegistriesView → Type 0
SameCallbacks old new = (q : ℕ) → callback new q ≡ callback old q

-- the same registry and the same token
abbrev pub pair_eq : ℕ × ℕ → ℕ × ℕ → Bool
pair_eq p q = nat_eq p.0 q.0 && nat_eq p.1 q.1

-- for how many more cells of r with the token k there is room among these
abbrev pub room_at : List ((ℕ × ℕ) × ℕ) → ℕ → ℕ → ℕ
room_at [] r k = 0
room_at (e ∷ es) r k = if pair_eq (r, k) e.0 then e.1 else room_at es r k

-- there is room for one more, by the token if there is one
abbrev pub HasTokenRoom : List ((ℕ × ℕ) × ℕ) → ℕ → Option ℕ → Type 0
HasTokenRoom rooms r None = ⊤
HasTokenRoom rooms r (Some k) = 0 < room_at rooms r k

-- there is room for a registration in r with this token
pub record CanRegister (t : RegistriesView) (r : ℕ) (token : Option ℕ) : Type 0 where
  pub of_slots : 0 < t.slot_room
  pub of_places : 0 < t.place_room
  pub of_token : HasTokenRoom t.token_rooms r token

-- what could be registered still can
pub record KeepsCellRoom (old new : RegistriesView) : Type 0 where
  pub of_slots : old.slot_room ≤ new.slot_room
  pub of_places : old.place_room ≤ new.place_room
  pub of_tokens : new.token_rooms ≡ old.token_rooms

-- registration n of a target that is there
abbrev pub registered : ℕ → ℕ → Value → Option ℕ → ℕ → Slot
registered r t h token n = Present (record { registry = r; target = Some t; token = token; cell = record { registration = n; held = h } })

-- the oldest cell of r whose target was emptied
abbrev pub oldest : RegistriesView → ℕ → Option Cell
oldest t r = option_and_then cell_of (find (awaits r) t.cells)

-- a registry, or an identity that a cell holds
abbrev pub is_root : RegistriesView → ℕ → Bool
is_root t i = is_some (callback t i) || list_any (holds i) t.cells

-- a cell of r loses its target where ids are emptied
abbrev pub loses : List ℕ → ℕ → List Slot → Bool
loses ids r cells = list_any (is_losing ids r) cells

-- these join the queue, by rising identity: the registries of which a cell loses its target and that
-- are not queued
pub record Joins (old : RegistriesView) (ids more : List ℕ) : Type 0 where
  pub rising : IsStrictlyIncreasing more
  pub exactly : (r : ℕ) → is_in more r ≡ (loses ids r old.cells && not (is_in old.queue r))
