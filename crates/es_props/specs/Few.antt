-- Internal: the properties of an object that has few, and the place of a key among them.
use Rattle.std.specs.Prelude.{ℕ, ◌≡◌, ◌<◌, true, List, length, take, slice_index_or, None}
use Rattle.std.specs.Str.{bytes_eq}
use Rattle.es_value.specs.declared.value.Value.{Value}
use Rattle.es_props.specs.Heap.{Properties, value_at}

-- the properties, and for how many more there is room
pub record FewView : Type 0 where
  pub entries : Properties
  pub room : ℕ

-- the first entry under the key stands in this place
pub record IsPlace (ps : Properties) (k : List ℕ) (i : ℕ) : Type 0 where
  pub within : i < length ps
  pub before : value_at (take i ps) k ≡ None
  pub here : (d : List ℕ × Value) → bytes_eq (slice_index_or ps i d).0 k ≡ true
