-- To believe: tables whose lines are numbered by their serials.
use Rattle.std.specs.Prelude.{ℕ, ◌≡◌, ◌+◌, List, [], ◌∷◌}
use Rattle.es_event.specs.declared.row.Entry.{Entry}

-- the first line is that of this serial, and each other that of the next
abbrev pub IsNumberedFrom : ℕ → List Entry → Type 0
IsNumberedFrom n [] = Unit {0}
IsNumberedFrom n (e ∷ es) = (e.row.serial ≡ n) × IsNumberedFrom (n + 1) es
