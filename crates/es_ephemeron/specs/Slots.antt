-- Internal: a slot as it is held, and the records that stand in it.
use Rattle.std.specs.Prelude.{ℕ, ◌-◌, List, [], ◌∷◌, slice_index_or}
use Rattle.std.specs.HashMap.{spare}
use Rattle.es_ephemeron.specs.declared.slot.Held.{Held}
use Rattle.es_ephemeron.specs.declared.slot.Held.TheVariants.{Nothing, One, Many}
use Rattle.es_ephemeron.specs.Ephemerons.{Records}

-- the slot of a key: its records, and for how many more it has room
pub record SlotView (V : Type 0) : Type 0 where
  pub records : Records V
  pub room : ℕ

abbrev pub place_of : {V : Type 0} → Held V → SlotView V
place_of Nothing = record { records = []; room = 1 }
place_of (One m v) = record { records = (m, v) ∷ []; room = 0 }
place_of (Many t) = record { records = t.value.entries; room = spare t.value }

-- the slot of key k, where the first is that of identity 1
abbrev pub place_at : {V : Type 0} → List (SlotView V) → ℕ → SlotView V
place_at ps k = slice_index_or ps (k - 1) (record { records = []; room = 0 })
