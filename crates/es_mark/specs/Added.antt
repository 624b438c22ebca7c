-- Internal: ways that are added to a list, each if its value has none yet.
use Rattle.std.specs.Prelude.{◌≡◌, List, [], ◌∷◌, ◌++◌, if◌then◌else◌}
use Rattle.es_mark.specs.declared.way.Way.{Way}
use Rattle.es_mark.specs.Ways.{has_way}

-- with this way, if its value has none yet
abbrev pub with_way : List Way → Way → List Way
with_way ws w = if has_way ws w.value then ws else ws ++ w ∷ []

-- with these ways, one after the other
abbrev pub with_ways : List Way → List Way → List Way
with_ways ws [] = ws
with_ways ws (w ∷ more) = with_ways (with_way ws w) more

-- the list has grown by these
pub record AreAdded (more old new : List Way) : Type 0 where
  pub added : new ≡ with_ways old more
