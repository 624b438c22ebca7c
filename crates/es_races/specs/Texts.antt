-- To believe: how a race is told.
use Rattle.std.specs.Prelude.{List, ℕ, [], ◌++◌, codes, decimal}
use Rattle.std.specs.Option.{option_map_or}
use Rattle.es_trace.specs.declared.style.Style.TheVariants.{Words}
use Rattle.es_trace.specs.Commands.{plain_text}
use Rattle.es_races.specs.declared.place.Place.{Place}
use Rattle.es_races.specs.declared.place.Section.{Section}
use Rattle.es_races.specs.declared.place.Section.TheVariants.{Job, Callback}
use Rattle.es_races.specs.declared.text.Spot.{Spot}

abbrev pub section_text : Section → List ℕ
section_text (Job n) = codes ", job " ++ decimal n
section_text (Callback n) = codes ", callback for registration " ++ decimal n

abbrev pub place_text : Place → List ℕ
place_text p = section_text p.section ++ codes ", command " ++ decimal p.number ++ codes ": " ++ plain_text Words p.command.now

abbrev pub line_text : Spot → List ℕ
line_text s = s.name.now ++ option_map_or place_text s.place [] ++ codes "\n"

abbrev pub race_text : Spot → Spot → List ℕ
race_text x y = codes "race\n" ++ line_text x ++ line_text y
