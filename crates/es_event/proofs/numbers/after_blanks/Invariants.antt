use Rattle.std.proofs.Common.{◌≡◌, drop}
use Rattle.es_event.specs.Numbers.{after_blanks}
use Rattle.es_event.proofs.numbers.after_blanks.Given as goal

abbrev pub invariant-loop-place : goal.invariant-loop-place
invariant-loop-place l = after_blanks l.text ≡ after_blanks (drop l.place l.text)
