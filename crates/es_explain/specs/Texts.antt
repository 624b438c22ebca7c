-- To believe: the texts that a sentence is made of, and keys in a JSON Pointer.
use Rattle.std.specs.Prelude.{ℕ, zero, suc, ◌==◌, true, false, List, [], ◌∷◌, ◌++◌, codes, if◌then◌else◌}
use Rattle.std.specs.Str.{chars}
use Rattle.std.specs.Char.{encode_utf8}
use Rattle.serde_json.specs.Data.{Data, null, boolean, number, string, array, object, Num}
use Rattle.serde_json.specs.Find.{is_float}
use Rattle.serde_json.specs.Written.{compact_text, number_text}

-- a text, and then another
infixr 20 ◌▸◌
abbrev pub ◌▸◌ : List ℕ → List ℕ → List ℕ
s ▸ t = s ++ t

-- so many letters of a text, and two dots where it has more
abbrev pub first_letters : ℕ → List ℕ → List ℕ
first_letters n [] = []
first_letters zero (c ∷ cs) = codes ".."
first_letters (suc n) (c ∷ cs) = encode_utf8 c ++ first_letters n cs

-- a text as JSON has it, in quotation marks; 32 letters are shown
abbrev pub quoted : List ℕ → List ℕ
quoted s = compact_text (string (first_letters 32 (chars s)))

-- the letter in quotation marks
abbrev pub letter : ℕ → List ℕ
letter c = quoted (encode_utf8 c)

-- of a whole number the digits
abbrev pub number_name : Num → List ℕ
number_name x = if is_float x then codes "a number" else codes "the number " ▸ number_text x

-- what a value is
abbrev pub value_text : Data → List ℕ
value_text null = codes "null"
value_text (boolean true) = codes "true"
value_text (boolean false) = codes "false"
value_text (number x) = number_name x
value_text (string s) = codes "the text " ▸ quoted s
value_text (array ds) = codes "a list"
value_text (object ms) = codes "an object"

-- Keys in a pointer (RFC 6901)

-- a letter of a key: `~0` stands for `~`, and `~1` for `/`
abbrev pub escape : ℕ → List ℕ
escape c = if c == 126 then codes "~0" else (if c == 47 then codes "~1" else encode_utf8 c)

abbrev pub escape_all : List ℕ → List ℕ
escape_all [] = []
escape_all (c ∷ cs) = escape c ++ escape_all cs

abbrev pub escaped : List ℕ → List ℕ
escaped key = escape_all (chars key)
