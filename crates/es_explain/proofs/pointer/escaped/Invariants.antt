use Rattle.std.proofs.Common.{◌≡◌, ◌++◌, IsUtf8, chars, string_bytes}
use Rattle.std.specs.Str.Iter.{chars_rest}
use Rattle.es_explain.specs.Texts.{escape_all, escaped}
use Rattle.es_explain.proofs.pointer.escaped.Given as goal

-- what is written, and what the rest becomes, is what the whole key becomes
abbrev pub invariant-loop-letter : goal.invariant-loop-letter
invariant-loop-letter l = IsUtf8 (chars_rest l.letter-iterator)
    × (string_bytes l.text ++ escape_all (chars (chars_rest l.letter-iterator)) ≡ escaped l.key)
