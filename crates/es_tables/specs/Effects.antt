-- Internal: what an event does to the tables.
use Rattle.std.specs.Prelude.{⊤, ℕ, ◌≡◌, ◌==◌, ◌||◌, ◌++◌, false, List, [], map, Option, Some, None, unwrap_or, is_some, reverse, if◌then◌else◌}
use Rattle.std.specs.Option.{option_map, option_map_or, option_to_list}
use Rattle.std.specs.Str.{bytes_eq}
use Rattle.es_value.specs.declared.value.Value.{Value}
use Rattle.es_value.specs.declared.value.Value.TheVariants.{Object}
use Rattle.es_event.specs.declared.event.Answer.{Answer}
use Rattle.es_event.specs.declared.event.Answer.TheVariants.{Gives}
use Rattle.es_event.specs.declared.event.Event.{Event}
use Rattle.es_event.specs.declared.event.Event.TheVariants.{JobBegun, CleanupBegun, Received, Did, Refused, Emptied, Taken, JobEnded, Skipped, Closed}
use Rattle.es_event.specs.declared.command.Command.{Command}
use Rattle.es_event.specs.declared.command.Command.TheVariants.{WeakRef}
use Rattle.es_event.specs.Commands.{first}
use Rattle.es_event.specs.History.{at_key}
use Rattle.es_event.specs.Identities.{identity, born}
use Rattle.es_event.specs.Variables.{assigned}
use Rattle.es_event.specs.Properties.{same_key, keys_after}
use Rattle.es_event.specs.Ephemerons.{same_pair}
use Rattle.es_props.specs.Heap.{has, property, keys}
use Rattle.es_weakref.specs.WeakRefs.{target}
use Rattle.es_ephemeron.specs.Ephemerons.{record_at}
use Rattle.es_tables.specs.declared.table_change.TableChange.{TableChange}
use Rattle.es_tables.specs.declared.table_change.TableChange.TheVariants.{NoChange}
use Rattle.es_tables.specs.Changes.{table_change, put_of, born_of, points_of, entered_of, joined_of, registry_of, kept_of, clears, makes_of}
use Rattle.es_registry.specs.Registries.{callback}
use Rattle.es_tables.specs.Registries.{callback_after, cells_after, queue_after}
use Rattle.es_tables.specs.Tables.{TablesView, SameState, bound}

-- the object that the event makes
abbrev pub object_born : Event → Option ℕ
object_born e = option_map (λ b. b.0) (born e)

-- the WeakRef that the command makes, with the identity of its target; no other makes one
abbrev pub points_by : Command → List Value → Answer → Option (ℕ × Option ℕ)
points_by (WeakRef to y) vs (Gives (Object w)) = option_map (λ t. (w, Some t)) (identity (first vs))
points_by _ vs r = None

-- the WeakRef that the event makes, with its target
abbrev pub points : Event → Option (ℕ × Option ℕ)
points (JobBegun j) = None
points (CleanupBegun q) = None
points (Received t v) = None
points (Did (c, vs, r)) = points_by c vs r
points (Refused code) = None
points (Emptied ids) = None
points (Taken n held) = None
points JobEnded = None
points (Skipped j t) = None
points Closed = None

-- the event empties nothing
abbrev pub IsQuiet : Event → Type 0
IsQuiet (JobBegun j) = ⊤
IsQuiet (CleanupBegun q) = ⊤
IsQuiet (Received t v) = ⊤
IsQuiet (Did (c, vs, r)) = ⊤
IsQuiet (Refused code) = ⊤
IsQuiet (Emptied ids) = ⊥
IsQuiet (Taken n held) = ⊤
IsQuiet JobEnded = ⊤
IsQuiet (Skipped j t) = ⊤
IsQuiet Closed = ⊤

-- where the event is a receipt, its value goes to the variable of this name
abbrev pub AssignsTo : List ℕ → List ℕ → Event → Type 0
AssignsTo received to (JobBegun j) = ⊤
AssignsTo received to (CleanupBegun q) = ⊤
AssignsTo received to (Received t v) = to ≡ received
AssignsTo received to (Did (c, vs, r)) = ⊤
AssignsTo received to (Refused code) = ⊤
AssignsTo received to (Emptied ids) = ⊤
AssignsTo received to (Taken n held) = ⊤
AssignsTo received to JobEnded = ⊤
AssignsTo received to (Skipped j t) = ⊤
AssignsTo received to Closed = ⊤

-- what the event assigns, where the value of a receipt goes to the variable `received`
abbrev pub assigned_by : List ℕ → Event → Option (List ℕ × Value)
assigned_by received e = assigned (λ h. received) [] e

-- the event changes no table and assigns nothing
abbrev pub IsStill : Event → Type 0
IsStill e = ((again : Option ℕ) → NoChange ≡ table_change again e) × ((received : List ℕ) → None ≡ assigned_by received e)

-- the tables after the change
pub record Changed (s : TablesView) (c : TableChange) (t : TablesView) : Type 0 where
  pub properties : (o : ℕ) (k : List ℕ) → property t.heap o k ≡ unwrap_or (at_key same_key (o, k) (put_of c)) (property s.heap o k)
  pub keys : (o : ℕ) → keys t.heap o ≡ keys_after o (put_of c) (keys s.heap o)
  pub objects : (o : ℕ) → has t.heap o ≡ (option_map_or (λ b. b == o) (born_of c) false || has s.heap o)
  pub targets : (w : ℕ) → target t.weakrefs w ≡ unwrap_or (at_key (λ i j. i == j) w (points_of c)) (target s.weakrefs w)
  pub entries : (m k : ℕ) → record_at t.weak.entries.all m k ≡ unwrap_or (at_key same_pair (m, k) (entered_of c)) (record_at s.weak.entries.all m k)
  pub members : (m k : ℕ) → is_some (record_at t.weak.members.all m k) ≡ unwrap_or (at_key same_pair (m, k) (joined_of c)) (is_some (record_at s.weak.members.all m k))
  pub callbacks : (r : ℕ) → callback t.registries r ≡ callback_after (registry_of c) r (callback s.registries r)
  pub cells : t.registries.cells ≡ cells_after (registry_of c) s.registries.cells
  pub queue : t.registries.queue ≡ queue_after (registry_of c) s.registries.queue
  pub kept : reverse t.weakrefs.kept ≡ (if clears c then [] else kept_of c ++ reverse s.weakrefs.kept)
  pub tags : t.tags.all ≡ s.tags.all ++ map Some (option_to_list (makes_of c))

-- the tables after an assignment, if there is one, and a change, which were made in tables that said the same
pub record Takes (a : Option (List ℕ × Value)) (c : TableChange) (s t : TablesView) : Type 0 where
  pub before : TablesView
  pub same : SameState s before
  pub assigned : (x : List ℕ) → bound t.variables x ≡ unwrap_or (at_key bytes_eq x a) (bound before.variables x)
  pub changed : Changed before c t

-- the tables after the event
abbrev pub Advances : List ℕ → Option ℕ → Event → TablesView → TablesView → Type 0
Advances received again e s t = Takes (assigned_by received e) (table_change again e) s t
