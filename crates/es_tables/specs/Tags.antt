-- Internal: what each identity is, its tag: a symbol, or an object of some kind.
use Rattle.std.specs.Prelude.{ℕ, ◌-◌, Bool, true, false, List, Option, Some, None, slice_index_or, if◌then◌else◌}
use Rattle.es_event.specs.declared.command.Command.{Command}
use Rattle.es_value.specs.declared.value.Value.{Value}
use Rattle.es_value.specs.declared.value.Value.TheVariants.{Object}
use Rattle.es_event.specs.declared.event.Event.{Event}
use Rattle.es_event.specs.declared.event.Event.TheVariants.{JobBegun, CleanupBegun, Received, Did, Refused, Emptied, Taken, JobEnded, Skipped, Closed}
use Rattle.es_event.specs.Commands.{Kind, ordinary, weakref_to, weak_map, weak_set, registry_of, shared_buffer}
use Rattle.es_event.specs.History.{History}
use Rattle.es_event.specs.Identities.{kind, is_there}
use Rattle.es_tables.specs.declared.tags.Tag.{Tag}
use Rattle.es_tables.specs.declared.tags.Tag.TheVariants.{Symbol as SymbolTag, Ordinary, WeakRef as WeakRefTag, WeakMap as WeakMapTag, WeakSet as WeakSetTag, FinalizationRegistry as RegistryTag, SharedArrayBuffer as BufferTag}

-- the tags of identities, of which the first is numbered 1, and for how many more there is room
pub record TagsView : Type 0 where
  pub all : List (Option Tag)
  pub room : ℕ

-- the tag of identity i, none where it was not made or is emptied
abbrev pub tag_at : List (Option Tag) → ℕ → Option Tag
tag_at tags i = slice_index_or tags (i - 1) None

-- the tag of what is of this kind; what is of no kind is a symbol
abbrev pub tag_of : Option Kind → Tag
tag_of None = SymbolTag
tag_of (Some ordinary) = Ordinary
tag_of (Some (weakref_to v)) = WeakRefTag
tag_of (Some weak_map) = WeakMapTag
tag_of (Some weak_set) = WeakSetTag
tag_of (Some (registry_of c)) = RegistryTag
tag_of (Some shared_buffer) = BufferTag

abbrev pub is_weakref_tag : Option Tag → Bool
is_weakref_tag (Some WeakRefTag) = true
is_weakref_tag _ = false

abbrev pub is_weakmap_tag : Option Tag → Bool
is_weakmap_tag (Some WeakMapTag) = true
is_weakmap_tag _ = false

abbrev pub is_weakset_tag : Option Tag → Bool
is_weakset_tag (Some WeakSetTag) = true
is_weakset_tag _ = false

abbrev pub is_registry_tag : Option Tag → Bool
is_registry_tag (Some RegistryTag) = true
is_registry_tag _ = false

abbrev pub is_buffer_tag : Option Tag → Bool
is_buffer_tag (Some BufferTag) = true
is_buffer_tag _ = false

-- the tag is the one that is asked for; only these five are
abbrev pub is_tag : Tag → Option Tag → Bool
is_tag WeakRefTag t = is_weakref_tag t
is_tag WeakMapTag t = is_weakmap_tag t
is_tag WeakSetTag t = is_weakset_tag t
is_tag RegistryTag t = is_registry_tag t
is_tag BufferTag t = is_buffer_tag t
is_tag _ t = false

-- the tag of identity i by the history, none where it was not made or is emptied
abbrev pub tag_said : History → ℕ → Option Tag
tag_said h i = if is_there h i then Some (tag_of (kind h i)) else None

-- the tag of what the command makes; no other makes anything
abbrev pub tag_made : Command → Option Tag
tag_made (Command.New to) = Some Ordinary
tag_made (Command.Symbol to) = Some SymbolTag
tag_made (Command.WeakRef to y) = Some WeakRefTag
tag_made (Command.WeakMap to) = Some WeakMapTag
tag_made (Command.WeakSet to) = Some WeakSetTag
tag_made (Command.FinalizationRegistry to c) = Some RegistryTag
tag_made (Command.SharedArrayBuffer to n) = Some BufferTag
tag_made _ = None

-- a received object is a new buffer
abbrev pub tag_received : Value → Option Tag
tag_received (Object i) = Some BufferTag
tag_received _ = None

-- the tag of what the event makes
abbrev pub tag_made_at : Event → Option Tag
tag_made_at (JobBegun j) = None
tag_made_at (CleanupBegun q) = None
tag_made_at (Received t v) = tag_received v
tag_made_at (Did (c, vs, r)) = tag_made c
tag_made_at (Refused code) = None
tag_made_at (Emptied ids) = None
tag_made_at (Taken n held) = None
tag_made_at JobEnded = None
tag_made_at (Skipped j t) = None
tag_made_at Closed = None
