-- Internal: when an event can be applied to the tables, and when there is room for it.
use Rattle.std.specs.Prelude.{⊤, ℕ, ◌≡◌, ◌<◌, nat_lt, nat_le, length, Bool, true, false, List, Option, is_some}
use Rattle.std.specs.Option.{option_map_or}
use Rattle.es_value.specs.declared.value.Value.{Value}
use Rattle.es_props.specs.Heap.{has, room_at}
use Rattle.es_weakref.specs.WeakRefs.{target}
use Rattle.es_ephemeron.specs.Ephemerons.{room_at as room_under}
use Rattle.es_tables.specs.declared.table_change.TableChange.{TableChange}
use Rattle.es_tables.specs.declared.table_change.TableChange.TheVariants.{NoChange, Property, Birth, WeakRefBirth, RegistryBirth, Keeping, Entry, Member, Registry, JobEnd}
use Rattle.es_tables.specs.Changes.{put_of, born_of, points_of, registry_of}
use Rattle.es_tables.specs.Registries.{CanChange, HasRoomFor}
use Rattle.es_tables.specs.Tables.{TablesView}

-- what is put is an object's, what is born is not there yet, and a cell that is taken awaits its cleanup
pub record CanApply (s : TablesView) (c : TableChange) : Type 0 where
  pub put : option_map_or (λ p. has s.heap p.0.0) (put_of c) true ≡ true
  pub born : option_map_or (has s.heap) (born_of c) false ≡ false
  pub points : option_map_or (λ p. is_some (target s.weakrefs p.0)) (points_of c) false ≡ false
  pub registry : CanChange s.registries (registry_of c)

-- object o has room for what is set; a delete needs none
abbrev pub has_room_at : List ℕ → ℕ → Option Value → Bool
has_room_at rooms o v = option_map_or (λ v. nat_lt 0 (room_at rooms o)) v true

-- there is room for what is put
abbrev pub has_room : List ℕ → Option ((ℕ × List ℕ) × Option Value) → Bool
has_room rooms put = option_map_or (λ p. has_room_at rooms p.0.0 p.1) put true

-- there is a place for what is born
abbrev pub has_place : List ℕ → Option ℕ → Bool
has_place rooms born = option_map_or (λ o. nat_le o (length rooms)) born true

-- there is room under the key for the entry that is set; a delete needs none
abbrev pub has_room_under : List ℕ → ℕ → Option Value → Bool
has_room_under rooms k v = option_map_or (λ v. nat_lt 0 (room_under rooms k)) v true

abbrev pub has_entry_room : List ℕ → Option ((ℕ × ℕ) × Option Value) → Bool
has_entry_room rooms entered = option_map_or (λ p. has_room_under rooms p.0.1 p.1) entered true

-- there is room for the member that is added; a delete needs none
abbrev pub has_room_for : List ℕ → ℕ → Bool → Bool
has_room_for rooms k true = nat_lt 0 (room_under rooms k)
has_room_for rooms k false = true

abbrev pub has_member_room : List ℕ → Option ((ℕ × ℕ) × Bool) → Bool
has_member_room rooms joined = option_map_or (λ p. has_room_for rooms p.0.1 p.1) joined true

-- there is room for all that the change adds
abbrev pub HasRoom : TablesView → TableChange → Type 0
HasRoom s NoChange = ⊤
HasRoom s (Property p) = has_room s.rooms p ≡ true
HasRoom s (Birth t b) = (has_place s.rooms b ≡ true) × (0 < s.tags.room)
HasRoom s (WeakRefBirth b p k) = (has_place s.rooms b ≡ true) × (0 < s.tags.room) × (0 < s.weakrefs.target_room) × (0 < s.weakrefs.kept_room)
HasRoom s (RegistryBirth b c) = (has_place s.rooms b ≡ true) × (0 < s.tags.room) × HasRoomFor s.registries c
HasRoom s (Keeping k) = 0 < s.weakrefs.kept_room
HasRoom s (Entry p) = has_entry_room s.weak.entries.rooms p ≡ true
HasRoom s (Member p) = has_member_room s.weak.members.rooms p ≡ true
HasRoom s (Registry c) = HasRoomFor s.registries c
HasRoom s (JobEnd c) = HasRoomFor s.registries c
