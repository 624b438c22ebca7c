-- To believe: what became of a registration, and what is asked of it (FinalizationRegistry Objects).
use Rattle.std.specs.Prelude.{ℕ, Bool, true, false, ◌&&◌, ◌==◌, List, Option, Some, None, is_some, is_none, if◌then◌else◌, slice_get}
use Rattle.std.specs.List.{count_by}
use Rattle.std.specs.Option.{option_and_then, option_map_or}
use Rattle.es_value.specs.Ids.{is_in}
use Rattle.es_value.specs.Values.{identity}
use Rattle.es_registry.specs.declared.slot.Cell.{Cell}
use Rattle.es_registry.specs.declared.slot.Registration.{Registration}
use Rattle.es_registry.specs.declared.slot.Tally.{Tally}
use Rattle.es_registry.specs.declared.slot.Slot.{Slot}
use Rattle.es_registry.specs.declared.slot.Slot.TheVariants.{Present, Unregistered, Taken}

-- none where it is among these
abbrev pub unless_among : List ℕ → ℕ → Option ℕ
unless_among ids t = if is_in ids t then None else Some t

-- it is there, and is this one
abbrev pub is_this : ℕ → Option ℕ → Bool
is_this t o = option_map_or (λ s. s == t) o false

-- the cell is there
abbrev pub is_present : Slot → Bool
is_present (Present c) = true
is_present Unregistered = false
is_present Taken = false

-- the cell is there, and so is its target
abbrev pub is_live : Slot → Bool
is_live (Present c) = is_some c.target
is_live Unregistered = false
is_live Taken = false

-- the cell is there, and its target was emptied
abbrev pub is_awaiting : Slot → Bool
is_awaiting (Present c) = is_none c.target
is_awaiting Unregistered = false
is_awaiting Taken = false

-- the cell was taken out by its token
abbrev pub is_unregistered : Slot → Bool
is_unregistered (Present c) = false
is_unregistered Unregistered = true
is_unregistered Taken = false

-- the cell was handed to the callback
abbrev pub is_taken : Slot → Bool
is_taken (Present c) = false
is_taken Unregistered = false
is_taken Taken = true

-- how many there are of each fate
abbrev pub tally_of : List Slot → Tally
tally_of cells = record { live = count_by is_live cells; awaiting = count_by is_awaiting cells; unregistered = count_by is_unregistered cells; taken = count_by is_taken cells }

-- the cell is in r, and its target was emptied
abbrev pub awaits : ℕ → Slot → Bool
awaits r (Present c) = (c.registry == r) && is_none c.target
awaits r Unregistered = false
awaits r Taken = false

-- the cell is in r and has the token t
abbrev pub has_token : ℕ → ℕ → Slot → Bool
has_token r t (Present c) = (c.registry == r) && is_this t c.token
has_token r t Unregistered = false
has_token r t Taken = false

-- the registry whose cell loses its target where ids are emptied
abbrev pub losing : List ℕ → Slot → Option ℕ
losing ids (Present c) = if option_map_or (is_in ids) c.target false then Some c.registry else None
losing ids Unregistered = None
losing ids Taken = None

-- a cell of r loses its target where ids are emptied
abbrev pub is_losing : List ℕ → ℕ → Slot → Bool
is_losing ids r s = is_this r (losing ids s)

-- the target is gone if it is among ids
abbrev pub emptied : List ℕ → Slot → Slot
emptied ids (Present c) = Present (record c { target = option_and_then (unless_among ids) c.target })
emptied ids Unregistered = Unregistered
emptied ids Taken = Taken

-- without the cell, if it is in r and has the token t
abbrev pub unregistered_by : ℕ → ℕ → Slot → Slot
unregistered_by r t s = if has_token r t s then Unregistered else s

-- changed where b is true
abbrev pub changed_if : (Slot → Slot) → Bool → Slot → Slot
changed_if change b s = if b then change s else s

-- the cell, if it is there
abbrev pub cell_of : Slot → Option Cell
cell_of (Present c) = Some c.cell
cell_of Unregistered = None
cell_of Taken = None

-- what is kept of the registration, if its cell is there
abbrev pub registration_of : Slot → Option Registration
registration_of (Present c) = Some c
registration_of Unregistered = None
registration_of Taken = None

-- the registry of a cell that is there
abbrev pub registry_of : Slot → Option ℕ
registry_of (Present c) = Some c.registry
registry_of Unregistered = None
registry_of Taken = None

-- the cell is there, and in r
abbrev pub is_of : ℕ → Slot → Bool
is_of r s = is_this r (registry_of s)

-- the identity that a cell that is there holds
abbrev pub held_identity : Slot → Option ℕ
held_identity (Present c) = identity c.cell.held
held_identity Unregistered = None
held_identity Taken = None

-- a cell that is there holds this identity
abbrev pub holds : ℕ → Slot → Bool
holds i s = is_this i (held_identity s)

-- the slot at a place passes
abbrev pub passes_at : (Slot → Bool) → List Slot → ℕ → Bool
passes_at test cells k = option_map_or test (slice_get cells k) false
