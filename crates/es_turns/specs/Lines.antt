-- To believe: the lines that a report has of an agent's newer events.
use Rattle.std.specs.Prelude.{ℕ, List, drop, reverse}
use Rattle.std.specs.List.{flat_map}
use Rattle.es_event.specs.History.{History}
use Rattle.es_event.specs.Report.{line}

-- those of its events from this number on, where the oldest event has the number 0
abbrev pub lines_from : ℕ → History → List ℕ
lines_from n h = flat_map line (drop n (reverse h))
