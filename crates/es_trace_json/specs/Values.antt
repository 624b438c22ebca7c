-- To believe: values and lists as the lines of a trace have them in JSON, with no blanks.
use Rattle.std.specs.Prelude.{ℕ, true, false, List, [], ◌∷◌, ◌++◌, codes, decimal}
use Rattle.std.specs.List.{flat_map}
use Rattle.std.specs.Fmt.{signed_decimal}
use Rattle.es_value.specs.Printed.{quoted}
use Rattle.es_value.specs.declared.value.Value.{Value}
use Rattle.es_value.specs.declared.value.Value.TheVariants.{Undefined, Boolean, Number, Text, Registered, Object, Symbol}

-- undefined is null, as in plans; what JSON has no value of is an object with one member. No character of a text needs an escape
abbrev pub value_json : Value → List ℕ
value_json Undefined = codes "null"
value_json (Boolean true) = codes "true"
value_json (Boolean false) = codes "false"
value_json (Number n) = signed_decimal n
value_json (Text t) = quoted t
value_json (Registered t) = codes "{\"symbolfor\":" ++ (quoted t ++ codes "}")
value_json (Object i) = codes "{\"object\":" ++ (decimal i ++ codes "}")
value_json (Symbol i) = codes "{\"symbol\":" ++ (decimal i ++ codes "}")

-- an item of an array that is not the first
abbrev pub further : {A : Type 0} → (A → List ℕ) → A → List ℕ
further item x = codes "," ++ item x

abbrev pub array_json : {A : Type 0} → (A → List ℕ) → List A → List ℕ
array_json item [] = codes "[]"
array_json item (x ∷ xs) = codes "[" ++ (item x ++ (flat_map (further item) xs ++ codes "]"))
