use Rattle.std.proofs.Common.{◌≡◌, IsUtf8, chars}
use Rattle.std.specs.Str.Iter.{chars_rest}
use Rattle.es_explain.specs.Causes.{first_other}
use Rattle.es_explain.specs.Coded.{has_letter}
use Rattle.es_explain.proofs.spelling.first_other.Given as goal

abbrev pub invariant-loop-letter : goal.invariant-loop-letter
invariant-loop-letter l =
    IsUtf8 (chars_rest l.letter-iterator) × (first_other (has_letter l.alphabet) (chars (chars_rest l.letter-iterator)) ≡ first_other (has_letter l.alphabet) (chars l.text))
