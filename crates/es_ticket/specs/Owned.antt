-- Internal: that an agent holds the tickets of a rack, which the tests keep.
use Rattle.std.specs.Prelude.{ℕ, ◌≤◌, List, Bool}
use Rattle.std.specs.List.{count_by}
use Rattle.es_event.specs.declared.row.Row.{Row}

-- these rows are at least those of the tickets, each as often
abbrev pub Owns : List Row → List (ℕ × Row) → Type 0
Owns rows ts = (p : Row → Bool) → count_by (λ t. p t.1) ts ≤ count_by p rows
