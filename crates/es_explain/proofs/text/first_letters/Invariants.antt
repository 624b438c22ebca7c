use Rattle.std.proofs.Common.{◌≡◌, ◌++◌, IsUtf8, chars, string_bytes}
use Rattle.std.specs.Str.Iter.{chars_rest}
use Rattle.es_explain.specs.Texts.{first_letters}
use Rattle.es_explain.proofs.text.first_letters.Given as goal

-- what is shown so far, and what the rest adds, is what the whole text shows
abbrev pub invariant-loop-character : goal.invariant-loop-character
invariant-loop-character l =
    IsUtf8 (chars_rest l.character-iterator) × (string_bytes l.shown ++ first_letters l.left (chars (chars_rest l.character-iterator)) ≡ first_letters l.most (chars l.text))
