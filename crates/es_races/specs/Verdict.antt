-- To believe: what is told of the races in a ledger's history (Memory Model, Data Races).
use Rattle.std.specs.Prelude.{◌≡◌, ◌&&◌, ◌||◌, Bool, true, false, List, [], ◌∷◌, Option, Some, None}
use Rattle.std.specs.List.{list_any}
use Rattle.es_event.specs.Ledger.{Ledger}
use Rattle.es_laws.specs.Races.{Mark as Marked, MarkedAccess, has_no_race, is_mark, marked, race}
use Rattle.es_races.specs.declared.race.Mark.{Mark}
use Rattle.es_races.specs.declared.race.Race.{Race}

abbrev pub said : Mark → Marked
said m = (m.agent, m.number)

-- of these accesses, the newest first, two with these marks race, and the one with the first mark came first
abbrev pub race_among : List MarkedAccess → Marked → Marked → Bool
race_among [] m n = false
race_among (y ∷ earlier) m n = (is_mark n y.mark && list_any (λ x. is_mark m x.mark && race x y) earlier) || race_among earlier m n

abbrev pub race_at : Ledger → Marked → Marked → Bool
race_at l m n = race_among (marked l) m n

-- no two race; or these two do, the earlier one first
abbrev pub IsVerdict : Ledger → Option Race → Type 0
IsVerdict l None = has_no_race l ≡ true
IsVerdict l (Some r) = race_at l (said r.earlier) (said r.later) ≡ true
