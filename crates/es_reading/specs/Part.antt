-- Internal: what the reader of operands sees of a JSON value.
use Rattle.serde_json.specs.Data.{Data, null, boolean, number, string, array, no_items}
use Rattle.serde_json.specs.View.{number_view}
use Rattle.es_reading.specs.declared.part.Part.{Part}
use Rattle.es_reading.specs.declared.part.Part.TheVariants.{Null, Bool, Number, Text, List}

-- an array or an object reads as an array of nothing: neither is an operand
abbrev pub part_data : Part → Data
part_data Null = null
part_data (Bool b) = boolean b
part_data (Number x) = number (number_view x)
part_data (Text s) = string s.now
part_data List = array no_items
