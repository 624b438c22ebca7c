-- Internal: a table of buffer objects, with room, and the identity of its newest.
use Rattle.std.specs.Prelude.{ℕ, [], ◌∷◌}
use Rattle.es_event.specs.Sharing.{Buffers}

pub record BufferTableView : Type 0 where
  pub rows : Buffers
  -- for how many more there is room
  pub room : ℕ

-- the identity of the newest buffer object, 0 where there is none
abbrev pub newest : Buffers → ℕ
newest [] = 0
newest (b ∷ bs) = b.0
