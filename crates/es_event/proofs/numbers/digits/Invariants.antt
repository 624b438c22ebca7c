use Rattle.es_event.proofs.Digits.{Reads}
use Rattle.es_event.proofs.numbers.digits.Given as goal

abbrev pub invariant-loop-letter : goal.invariant-loop-letter
invariant-loop-letter l = Reads l.text l.number l.letter-index
