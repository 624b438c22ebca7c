-- To believe: what is said of a text that is no JSON.
use Rattle.std.specs.Prelude.{ℕ, ◌+◌, ◌≡◌, ◌≤◌, ◌==◌, ◌&&◌, nat_le, nat_lt, List, [], ◌∷◌, length, take, codes, decimal, string_bytes, if◌then◌else◌}
use Rattle.es_explain.specs.declared.unread.Mistake.{Mistake}
use Rattle.es_explain.specs.declared.unread.Mistake.TheVariants.{Empty, NotUtf8, ByteOrderMark, Comment, Quotes, BareName, Word, NumberForm, NumberRange, CommaMissing, CommaBeforeEnd, ColonMissing, ValueMissing, NameMissing, ListOpen, ObjectOpen, ListEndWanted, ObjectEndWanted, TextOpen, ControlLetter, Escape, HalfPair, TooDeep, AfterEnd, Stray}
use Rattle.es_explain.specs.declared.found.Said.{Said}
use Rattle.es_explain.specs.Texts.{◌▸◌}

-- lines and columns are counted from 1, and a column is a letter
pub record Position : Type 0 where
  pub line : ℕ
  pub column : ℕ

-- after one more byte: a line ends with 0x0A, and a letter has one byte that is none of 0x80 to 0xBF
abbrev pub after : ℕ → Position → Position
after b p =
    if b == 10 then record { line = p.line + 1; column = 1 } else
    (if nat_le 128 b && nat_lt b 192 then p else record { line = p.line; column = p.column + 1 })

-- the place behind these bytes
abbrev pub behind : List ℕ → Position → Position
behind [] p = p
behind (b ∷ bs) p = behind bs (after b p)

abbrev pub first : Position
first = record { line = 1; column = 1 }

abbrev pub position_text : Position → List ℕ
position_text p = codes "line " ▸ decimal p.line ▸ codes " column " ▸ decimal p.column

abbrev pub mistake_text : Mistake → List ℕ
mistake_text Empty = codes "There is nothing here: a plan is an object."
mistake_text NotUtf8 = codes "This byte is no UTF-8."
mistake_text ByteOrderMark = codes "A byte order mark stands before the plan: JSON has none."
mistake_text Comment = codes "JSON has no comments."
mistake_text Quotes = codes "JSON has texts between double quotation marks alone."
mistake_text BareName = codes "A name stands between double quotation marks."
mistake_text Word = codes "JSON has three words, true, false and null, and this is none of them."
mistake_text NumberForm = codes "JSON has no number of this form: a number has no + and no 0 before it, and digits on both sides of a point."
mistake_text NumberRange = codes "This number is past the range of a double."
mistake_text CommaMissing = codes "A comma is missing before this."
mistake_text CommaBeforeEnd = codes "After this comma comes a closing bracket: JSON has no comma there."
mistake_text ColonMissing = codes "A colon is missing before this: it stands between a name and its value."
mistake_text ValueMissing = codes "A value is missing before this."
mistake_text NameMissing = codes "A name is missing before this."
mistake_text ListOpen = codes "This [ is never closed."
mistake_text ObjectOpen = codes "This { is never closed."
mistake_text ListEndWanted = codes "This } stands where ] is wanted."
mistake_text ObjectEndWanted = codes "This ] stands where } is wanted."
mistake_text TextOpen = codes "This text is not closed on its line."
mistake_text ControlLetter = codes "In a text JSON writes this letter with a backslash."
mistake_text Escape = codes "JSON has no such letter after a backslash."
mistake_text HalfPair = codes "This is half of a surrogate pair, and the other half is missing."
mistake_text TooDeep = codes "More than 127 brackets are open here."
mistake_text AfterEnd = codes "The plan has ended before this."
mistake_text Stray = codes "This can't stand here."

-- The place lies in the text or at its end, and the sentence is one of these. That the mistake is there is not claimed.
pub record IsUnread (bytes place : List ℕ) (said : Said) : Type 0 where
  pub offset : ℕ
  pub mistake : Mistake
  pub within : offset ≤ length bytes
  pub told : place ≡ position_text (behind (take offset bytes) first)
  pub sentence : string_bytes said.sentence ≡ mistake_text mistake
  pub found : string_bytes said.found ≡ []
