-- Internal: places as they are held, and the objects that stand in them.
use Rattle.std.specs.Prelude.{ℕ, List, [], ◌∷◌, ◌-◌, ◌+◌, Option, Some, None, slice_index_or}
use Rattle.std.specs.Option.{option_map_or}
use Rattle.indexmap.specs.IndexMap.{spare}
use Rattle.es_props.specs.declared.slot.Held.{Held}
use Rattle.es_props.specs.declared.slot.Held.TheVariants.{Nothing, Bare, Room, One, Few, Many}
use Rattle.es_props.specs.Heap.{Properties, Store}

-- the place of an identity: the properties of its object, none where no object stands there, and for how many more properties it has room
pub record SlotView : Type 0 where
  pub object : Option Properties
  pub room : ℕ

abbrev pub place_of : Held → SlotView
place_of Nothing = record { object = None; room = 0 }
place_of Bare = record { object = Some []; room = 0 }
place_of (Room r) = record { object = Some []; room = 1 }
place_of (One p) = record { object = Some (p.value ∷ []); room = 0 }
place_of (Few f) = record { object = Some f.value.entries; room = f.value.room }
place_of (Many t) = record { object = Some t.value.entries; room = spare t.value }

-- the objects that stand in these places, of which the first is that of identity n
abbrev pub objects_from : ℕ → List SlotView → Store
objects_from n [] = []
objects_from n (p ∷ ps) = option_map_or (λ o. (n, o) ∷ objects_from (n + 1) ps) p.object (objects_from (n + 1) ps)

abbrev pub place_at : List SlotView → ℕ → SlotView
place_at ps i = slice_index_or ps (i - 1) (record { object = None; room = 0 })
