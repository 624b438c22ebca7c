use Rattle.std.proofs.Common.{◌≡◌, ◌≤◌, take}
use Rattle.es_event.specs.Numbers.{before_blanks}
use Rattle.es_event.proofs.numbers.before_blanks.Given as goal

abbrev pub invariant-loop-place : goal.invariant-loop-place
invariant-loop-place l = (take l.end l.text ≡ before_blanks (take l.place l.text)) × (l.end ≤ l.place)
