-- Internal: which kinds of objects the tags stand for.
use Rattle.std.specs.Prelude.{Bool, false, Option}
use Rattle.es_event.specs.Commands.{Kind}
use Rattle.es_event.specs.Rules.{is_weakref, is_weakmap, is_weakset, is_registry, is_buffer}
use Rattle.es_tables.specs.declared.tags.Tag.{Tag}
use Rattle.es_tables.specs.declared.tags.Tag.TheVariants.{WeakRef, WeakMap, WeakSet, FinalizationRegistry, SharedArrayBuffer}

-- the object is of the kind that has this tag; only these five have commands of their own
abbrev pub is_of : Tag → Option Kind → Bool
is_of WeakRef k = is_weakref k
is_of WeakMap k = is_weakmap k
is_of WeakSet k = is_weakset k
is_of FinalizationRegistry k = is_registry k
is_of SharedArrayBuffer k = is_buffer k
is_of _ k = false
