-- To believe: what contracts see of the ledger's table, of a stake and of a rack.
use Rattle.std.specs.Prelude.{ℕ, List, [], ◌∷◌, Bool, true, false, not, Option, Some, None, if◌then◌else◌, cond, nat_lt, ◌==◌, ◌||◌}
use Rattle.std.specs.List.{filter}
use Rattle.es_event.specs.Identities.{is_in}
use Rattle.es_event.specs.declared.row.Row.{Row}
use Rattle.es_event.specs.declared.row.Entry.{Entry}

-- the ledger's table, a line for each serial that was made, and how many agents it has
pub record RowsView : Type 0 where
  pub rows : List Entry
  pub agents : ℕ

-- an agent, and the rows that it holds, by rising serial
pub record StakeView : Type 0 where
  pub agent : ℕ
  pub rows : List Row

-- the rows without the one of this serial
abbrev pub erase : ℕ → List Row → List Row
erase s [] = []
erase s (r ∷ rs) = cond (r.serial == s) rs (r ∷ erase s rs)

-- a row of this serial is there
abbrev pub has_serial : ℕ → List Row → Bool
has_serial s [] = false
has_serial s (r ∷ rs) = (r.serial == s) || has_serial s rs

-- Racks

-- the rows of tickets by buffer object, by rising identity, and for how many more there is room
pub record RackView : Type 0 where
  pub tickets : List (ℕ × Row)
  pub room : ℕ

-- the row at this identity
abbrev pub at : ℕ → List (ℕ × Row) → Option Row
at i [] = None
at i (t ∷ ts) = if t.0 == i then Some t.1 else at i ts

-- one more, in its place
abbrev pub placed : ℕ → Row → List (ℕ × Row) → List (ℕ × Row)
placed i r [] = (i, r) ∷ []
placed i r (t ∷ ts) = if nat_lt i t.0 then (i, r) ∷ t ∷ ts else t ∷ placed i r ts

-- those but for the one at this identity
abbrev pub removed : ℕ → List (ℕ × Row) → List (ℕ × Row)
removed i [] = []
removed i (t ∷ ts) = if t.0 == i then ts else t ∷ removed i ts

-- each identity is above those before it
abbrev pub is_rising_from : ℕ → List (ℕ × Row) → Bool
is_rising_from n [] = true
is_rising_from n (t ∷ ts) = if nat_lt n t.0 then is_rising_from t.0 ts else false

-- those whose identity is one of these
abbrev pub among : List ℕ → List (ℕ × Row) → List (ℕ × Row)
among ids ts = filter (λ t. is_in ids t.0) ts

-- the others
abbrev pub besides : List ℕ → List (ℕ × Row) → List (ℕ × Row)
besides ids ts = filter (λ t. not (is_in ids t.0)) ts
