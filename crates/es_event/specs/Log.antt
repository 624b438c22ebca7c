-- Internal: a log as callers see it.
use Rattle.std.specs.Prelude.{ℕ, List}

-- the events, the newest first, and for how many more there is room
pub record LogView (E : Type 0) : Type 0 where
  pub events : List E
  pub room : ℕ
