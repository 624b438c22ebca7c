-- To believe: what was made, as a test.
use Rattle.std.specs.Prelude.{ℕ, ◌&&◌, Bool, nat_lt, nat_le}

-- the number was made
abbrev pub is_made : ℕ → ℕ → Bool
is_made made i = nat_lt 0 i && nat_le i made
