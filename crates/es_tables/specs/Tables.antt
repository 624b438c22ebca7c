-- Internal: what the tables of an agent say, and that they say what its history says.
use Rattle.std.specs.Prelude.{ℕ, ◌≡◌, ◌<◌, ◌&&◌, not, false, List, [], ◌++◌, map, Some, None, unwrap_or, is_some, length, reverse, if◌then◌else◌}
use Rattle.std.specs.Option.{option_map, option_and_then}
use Rattle.es_value.specs.Values.{identity}
use Rattle.es_props.specs.Heap.{Store, object, has, property, keys}
use Rattle.es_weakref.specs.WeakRefs.{WeakRefsView, unless_among}
pub use Rattle.es_weakref.specs.WeakRefs.{target}
use Rattle.es_ephemeron.specs.Ephemerons.{WeakTablesView as WeakContents, record_at, Unchanged, Empties}
use Rattle.es_registry.specs.declared.slot.Slot.{Slot}
use Rattle.es_registry.specs.declared.slot.Slot.TheVariants.{Present, Unregistered, Taken}
use Rattle.es_registry.specs.Slots.{emptied}
use Rattle.es_registry.specs.Registries.{RegistriesView as RegistryContents, callback, Joins}
use Rattle.es_event.specs.History.{History}
use Rattle.es_event.specs.Identities.{is_in, made, is_gone, kind}
use Rattle.es_event.specs.Jobs.{Receivers}
use Rattle.es_event.specs.Variables.{var}
use Rattle.es_event.specs.Properties.{prop, keys as keys_said}
use Rattle.es_event.specs.WeakRefs.{target as target_said, kept}
use Rattle.es_event.specs.Ephemerons.{entry, is_member}
use Rattle.es_event.specs.Order.{queue}
use Rattle.es_event.specs.Registrations.{Cell, Fate, live, awaiting, unregistered, taken, callback as callback_said, registrations, cell, fate}
pub use Rattle.es_props.specs.Variables.{VariablesView, bound}
use Rattle.es_tables.specs.Tags.{TagsView, tag_at, tag_said}

-- all tables of an agent
pub record TablesView : Type 0 where
  pub variables : VariablesView
  pub heap : Store
  -- for how many more properties each object has room
  pub rooms : List ℕ
  pub weakrefs : WeakRefsView
  -- entries of WeakMaps and members of WeakSets
  pub weak : WeakContents
  -- FinalizationRegistries, their cells and the cleanup queue
  pub registries : RegistryContents
  pub tags : TagsView

-- nothing assigned, nothing made
pub record IsNew (s : TablesView) : Type 0 where
  pub variables : s.variables.entries ≡ []
  pub heap : s.heap ≡ []
  pub targets : s.weakrefs.targets ≡ []
  pub kept : s.weakrefs.kept ≡ []
  pub entries : (m k : ℕ) → record_at s.weak.entries.all m k ≡ None
  pub members : (m k : ℕ) → record_at s.weak.members.all m k ≡ None
  pub callbacks : (r : ℕ) → callback s.registries r ≡ None
  pub cells : s.registries.cells ≡ []
  pub queue : s.registries.queue ≡ []
  pub tags : s.tags.all ≡ []

-- the heaps say the same
pub record SameHeap (s t : Store) : Type 0 where
  pub properties : (o : ℕ) (k : List ℕ) → property t o k ≡ property s o k
  pub keys : (o : ℕ) → keys t o ≡ keys s o
  pub objects : (o : ℕ) → has t o ≡ has s o

-- the tables say the same
pub record SameState (s t : TablesView) : Type 0 where
  pub variables : (x : List ℕ) → bound t.variables x ≡ bound s.variables x
  pub heap : SameHeap s.heap t.heap
  pub targets : (w : ℕ) → target t.weakrefs w ≡ target s.weakrefs w
  pub kept : t.weakrefs.kept ≡ s.weakrefs.kept
  pub entries : Unchanged s.weak.entries.all t.weak.entries.all
  pub members : Unchanged s.weak.members.all t.weak.members.all
  pub callbacks : (r : ℕ) → callback t.registries r ≡ callback s.registries r
  pub cells : t.registries.cells ≡ s.registries.cells
  pub queue : t.registries.queue ≡ s.registries.queue
  pub tags : t.tags.all ≡ s.tags.all

-- the tables after these identities were emptied: nothing is left of them, WeakRefs and cells with one of them as target have
-- none, no entry and no member has them as key, as WeakMap or as WeakSet, and each registry of which a cell lost its target
-- is queued
pub record Emptying (s : TablesView) (ids : List ℕ) (t : TablesView) : Type 0 where
  pub variables : (x : List ℕ) → bound t.variables x ≡ bound s.variables x
  pub objects : (o : ℕ) → object t.heap o ≡ (if is_in ids o then None else object s.heap o)
  pub targets : (w : ℕ) → target t.weakrefs w ≡ (if is_in ids w then None else option_and_then (unless_among ids) (target s.weakrefs w))
  pub kept : t.weakrefs.kept ≡ s.weakrefs.kept
  pub entries : Empties s.weak.entries.all ids t.weak.entries.all
  pub members : Empties s.weak.members.all ids t.weak.members.all
  pub callbacks : (r : ℕ) → callback t.registries r ≡ callback s.registries r
  pub cells : t.registries.cells ≡ map (emptied ids) s.registries.cells
  pub queue : (more : List ℕ) × (t.registries.queue ≡ s.registries.queue ++ more) × Joins s.registries ids more
  pub tags : (i : ℕ) → 0 < i → tag_at t.tags.all i ≡ (if is_in ids i then None else tag_at s.tags.all i)
  pub made : length t.tags.all ≡ length s.tags.all

-- the slot of registration n, of this fate and with this cell
abbrev pub slot_of : ℕ → Fate → Cell → Slot
slot_of n live c = Present (record { registry = c.registry; target = Some c.target; token = c.token; cell = record { registration = n; held = c.held } })
slot_of n awaiting c = Present (record { registry = c.registry; target = None; token = c.token; cell = record { registration = n; held = c.held } })
slot_of n unregistered c = Unregistered
slot_of n taken c = Taken

-- the slot of registration n by the history
abbrev pub slot_said : History → ℕ → Slot
slot_said h n = unwrap_or (option_map (slot_of n (fate h n)) (cell h n)) Taken

-- the tables say what the history says, of what is not emptied; of what is, no object, no entry, no member and no tag is
-- left
pub record Says (into : Receivers) (h : History) (s : TablesView) : Type 0 where
  pub variables : (x : List ℕ) → bound s.variables x ≡ var into h x
  pub objects : (o : ℕ) → has s.heap o ≡ (is_some (kind h o) && not (is_gone h o))
  pub properties : (o : ℕ) (k : List ℕ) → is_gone h o ≡ false → property s.heap o k ≡ prop h o k
  pub keys : (o : ℕ) → is_gone h o ≡ false → keys s.heap o ≡ keys_said h o
  pub targets : (w : ℕ) → is_gone h w ≡ false → target s.weakrefs w ≡ option_and_then identity (target_said h w)
  pub kept : reverse s.weakrefs.kept ≡ kept h
  pub entries : (m k : ℕ) → record_at s.weak.entries.all m k ≡ (if is_gone h m then None else entry h m k)
  pub members : (m k : ℕ) → is_some (record_at s.weak.members.all m k) ≡ (if is_gone h m then false else is_member h m k)
  pub callbacks : (r : ℕ) → callback s.registries r ≡ callback_said h r
  pub cells : s.registries.cells ≡ map (slot_said h) (registrations h)
  pub queue : s.registries.queue ≡ queue h
  pub tags : (i : ℕ) → 0 < i → tag_at s.tags.all i ≡ tag_said h i
  pub made : length s.tags.all ≡ made h
