-- Internal: what the code's types stand for in the definitions.
use Rattle.std.specs.Prelude.{ℕ, Bool, List, map, string_bytes}
use Rattle.serde_json.specs.View.{view}
use Rattle.es_value.specs.Spelling.{is_name_byte, is_text_byte}
use Rattle.es_reading.specs.Forms as forms
use Rattle.es_explain.specs.declared.words.Row.{Row}
use Rattle.es_explain.specs.declared.kinds.Kind.{Kind}
use Rattle.es_explain.specs.declared.kinds.Kind.TheVariants.{Name, Literal, Text, Callback, Agent, Whole, Amount, Words}
use Rattle.es_explain.specs.declared.spelling.Alphabet.{Alphabet}
use Rattle.es_explain.specs.declared.spelling.Alphabet.TheVariants.{Names, Texts}
use Rattle.es_explain.specs.declared.wrong.Wrong.{Wrong}
use Rattle.es_explain.specs.declared.members.Trouble.{Trouble}
use Rattle.es_explain.specs.declared.unread.Position.{Position}
use Rattle.es_explain.specs.declared.unread.Unread.{Unread}
use Rattle.es_explain.specs.Unread as unread
use Rattle.es_explain.specs.Words as words
use Rattle.es_explain.specs.Misshapen as misshapen
use Rattle.es_explain.specs.Causes as causes

abbrev pub rows_of : List Row → List words.Row
rows_of rows = map (λ r. words.row r.0.now r.1.now) rows

-- the type of an operand
abbrev pub type_of : Kind → forms.OperandType
type_of Name = forms.name
type_of Literal = forms.literal
type_of Text = forms.text
type_of Callback = forms.callback
type_of Agent = forms.agent
type_of Whole = forms.whole
type_of Amount = forms.amount
type_of Words = forms.words

abbrev pub types_of : List Kind → List forms.OperandType
types_of ks = map type_of ks

-- whether a letter belongs to an alphabet
abbrev pub has_letter : Alphabet → ℕ → Bool
has_letter Names = is_name_byte
has_letter Texts = is_text_byte

abbrev pub wrong_of : Wrong → causes.Wrong
wrong_of w = record { number = w.number; type = type_of w.kind; operand = view w.operand.now }

abbrev pub trouble_of : Trouble → misshapen.Trouble
trouble_of t = record { place = string_bytes t.place; sentence = string_bytes t.sentence }

abbrev pub position_of : Position → unread.Position
position_of p = record { line = p.line; column = p.column }

abbrev pub TellsUnread : List ℕ → Unread → Type 0
TellsUnread bytes u = unread.IsUnread bytes (string_bytes u.place) u.said
