-- Internal: the slots of all registrations, how many of them are of each fate, and where cells are.
use Rattle.std.specs.Prelude.{ℕ, ◌≡◌, true, List}
use Rattle.std.specs.List.{count_by}
use Rattle.es_value.specs.Ids.{is_in}
use Rattle.es_registry.specs.declared.slot.Slot.{Slot}
use Rattle.es_registry.specs.Slots.{is_present, is_awaiting, is_unregistered, is_taken, passes_at}

-- the slots, the oldest registration first, and for how many more there is room, of slots and of places
pub record CellsView : Type 0 where
  pub all : List Slot
  pub slot_room : ℕ
  pub place_room : ℕ

-- every place with a cell is among these
abbrev pub ListsPresent : List ℕ → List Slot → Type 0
ListsPresent places cells = (k : ℕ) → passes_at is_present cells k ≡ true → is_in places k ≡ true

-- the numbers are those of the cells that await their callback, of the unregistered and of the taken,
-- and the places have every cell that is there
pub record Counts (cells : List Slot) (places : List ℕ) (awaiting unregistered taken : ℕ) : Type 0 where
  pub of_awaiting : awaiting ≡ count_by is_awaiting cells
  pub of_unregistered : unregistered ≡ count_by is_unregistered cells
  pub of_taken : taken ≡ count_by is_taken cells
  pub listed : ListsPresent places cells
