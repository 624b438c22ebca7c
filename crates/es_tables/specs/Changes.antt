-- Internal: what an event does to the tables beside an assignment, and what each table has of it.
use Rattle.std.specs.Prelude.{ℕ, Bool, true, false, List, [], Option, Some, None}
use Rattle.std.specs.Option.{option_map, option_map_or, option_to_list}
use Rattle.es_value.specs.declared.value.Value.{Value}
use Rattle.es_event.specs.declared.event.Answer.{Answer}
use Rattle.es_event.specs.declared.event.Answer.TheVariants.{Nothing, Gives, Listed}
use Rattle.es_event.specs.declared.event.Event.{Event}
use Rattle.es_event.specs.declared.event.Event.TheVariants.{JobBegun, CleanupBegun, Received, Did, Refused, Emptied, Taken, JobEnded, Skipped, Closed}
use Rattle.es_event.specs.declared.command.Command.{Command}
use Rattle.es_event.specs.Commands.{first}
use Rattle.es_event.specs.Identities.{identity, object_of, object_given}
use Rattle.es_event.specs.Properties.{put_by}
use Rattle.es_event.specs.Ephemerons.{entered_by, joined_by}
use Rattle.es_tables.specs.declared.table_change.TableChange.{TableChange}
use Rattle.es_tables.specs.declared.table_change.TableChange.TheVariants.{NoChange, Property, Birth, WeakRefBirth, RegistryBirth, Keeping, Entry, Member, Registry, JobEnd}
use Rattle.es_tables.specs.declared.registries.RegistryChange.{RegistryChange}
use Rattle.es_tables.specs.declared.registries.RegistryChange.TheVariants.{Leaves, Takes, Dequeues, Queues}
use Rattle.es_tables.specs.declared.tags.Tag.{Tag}
use Rattle.es_tables.specs.declared.tags.Tag.TheVariants.{WeakRef as WeakRefTag, FinalizationRegistry as RegistryTag}
use Rattle.es_tables.specs.Registries.{change_by, made_by}
use Rattle.es_tables.specs.Tags.{tag_made, tag_received}

-- the identity of the value that was given, if it has one
abbrev pub identity_kept : Answer → Option ℕ
identity_kept Nothing = None
identity_kept (Gives v) = identity v
identity_kept (Listed ks) = None

-- the WeakRef and its target, where both are there
abbrev pub pointing : Option ℕ → Option ℕ → Option (ℕ × ℕ)
pointing (Some w) t = option_map (λ t. (w, t)) t
pointing None t = None

abbrev pub with_option : Option (ℕ × ℕ) → Option (ℕ × Option ℕ)
with_option p = option_map (λ p. (p.0, Some p.1)) p

-- what a command does to the tables; no other command does anything
abbrev pub table_change_by : Command → List Value → Answer → TableChange
table_change_by (Command.New to) vs r = Birth (tag_made (Command.New to)) (object_given r)
table_change_by (Command.Symbol to) vs r = Birth (tag_made (Command.Symbol to)) None
table_change_by (Command.Set o k y) vs r = Property (put_by (Command.Set o k y) vs)
table_change_by (Command.Delete to o k) vs r = Property (put_by (Command.Delete to o k) vs)
table_change_by (Command.WeakRef to y) vs r = WeakRefBirth (object_given r) (pointing (object_given r) (identity (first vs))) (identity (first vs))
table_change_by (Command.Deref to w) vs r = Keeping (identity_kept r)
table_change_by (Command.WeakMap to) vs r = Birth (tag_made (Command.WeakMap to)) (object_given r)
table_change_by (Command.WeakMapSet m k y) vs r = Entry (entered_by (Command.WeakMapSet m k y) vs)
table_change_by (Command.WeakMapDelete to m k) vs r = Entry (entered_by (Command.WeakMapDelete to m k) vs)
table_change_by (Command.WeakSet to) vs r = Birth (tag_made (Command.WeakSet to)) (object_given r)
table_change_by (Command.WeakSetAdd s y) vs r = Member (joined_by (Command.WeakSetAdd s y) vs)
table_change_by (Command.WeakSetDelete to s y) vs r = Member (joined_by (Command.WeakSetDelete to s y) vs)
table_change_by (Command.FinalizationRegistry to c) vs r = RegistryBirth (object_given r) (made_by c r)
table_change_by (Command.Register q y v t) vs r = Registry (change_by (Command.Register q y v t) vs r)
table_change_by (Command.Unregister to q t) vs r = Registry (change_by (Command.Unregister to q t) vs r)
table_change_by (Command.SharedArrayBuffer to n) vs r = Birth (tag_made (Command.SharedArrayBuffer to n)) (object_given r)
table_change_by _ vs r = NoChange

-- what an event does to the tables; an emptying is done by a call of its own
abbrev pub table_change : Option ℕ → Event → TableChange
table_change again (JobBegun j) = NoChange
table_change again (CleanupBegun q) = Registry Dequeues
table_change again (Received t v) = Birth (tag_received v) (object_of v)
table_change again (Did (c, vs, r)) = table_change_by c vs r
table_change again (Refused code) = NoChange
table_change again (Emptied ids) = NoChange
table_change again (Taken n held) = Registry (Takes n)
table_change again JobEnded = JobEnd (option_map_or Queues again Leaves)
table_change again (Skipped j t) = NoChange
table_change again Closed = NoChange

-- What each table has of a change

-- the property that is written
abbrev pub put_of : TableChange → Option ((ℕ × List ℕ) × Option Value)
put_of (Property p) = p
put_of _ = None

-- the object that is made
abbrev pub born_of : TableChange → Option ℕ
born_of (Birth t b) = b
born_of (WeakRefBirth b p k) = b
born_of (RegistryBirth b c) = b
born_of _ = None

-- the WeakRef that is made, with its target
abbrev pub points_of : TableChange → Option (ℕ × Option ℕ)
points_of (WeakRefBirth b p k) = with_option p
points_of _ = None

-- the entry that is written
abbrev pub entered_of : TableChange → Option ((ℕ × ℕ) × Option Value)
entered_of (Entry p) = p
entered_of _ = None

-- the member that is written
abbrev pub joined_of : TableChange → Option ((ℕ × ℕ) × Bool)
joined_of (Member p) = p
joined_of _ = None

-- what changes of the FinalizationRegistries, their cells and the cleanup queue
abbrev pub registry_of : TableChange → RegistryChange
registry_of (RegistryBirth b c) = c
registry_of (Registry c) = c
registry_of (JobEnd c) = c
registry_of _ = Leaves

-- what is added to KeptAlive
abbrev pub kept_of : TableChange → List ℕ
kept_of (WeakRefBirth b p k) = option_to_list k
kept_of (Keeping k) = option_to_list k
kept_of _ = []

-- whether KeptAlive is emptied
abbrev pub clears : TableChange → Bool
clears (JobEnd c) = true
clears _ = false

-- the tag of what is made under the next identity
abbrev pub makes_of : TableChange → Option Tag
makes_of (Birth t b) = t
makes_of (WeakRefBirth b p k) = Some WeakRefTag
makes_of (RegistryBirth b c) = Some RegistryTag
makes_of _ = None
