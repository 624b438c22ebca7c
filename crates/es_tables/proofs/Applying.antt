-- What the next event does can be applied to the tables.
use Rattle.std.proofs.Common.{◌≡◌, ℕ, ◌+◌, ◌-◌, arith, ◌∷◌, ◌&&◌, not, Bool, true, false, cond, sym, ◌∙◌, ap, append-nil, refl, subst, List, [], Option, Some, None}
use Rattle.std.specs.Prelude.{is_some, unwrap_or}
use Rattle.std.specs.Str.{bytes_eq}
use Rattle.std.specs.Option.{option_map, option_map_or, option_and_then}
use Rattle.es_value.specs.declared.value.Value.{Value}
use Rattle.es_value.specs.declared.value.Value.TheVariants.{Object}
use Rattle.es_props.specs.Heap.{Store, Unchanged, has, property, keys, value_at, keys_of as keys_of_properties}
use Rattle.es_weakref.specs.WeakRefs.{target}
use Rattle.es_event.specs.declared.event.Answer.{Answer}
use Rattle.es_event.specs.declared.event.Answer.TheVariants.{Gives}
use Rattle.es_event.specs.declared.event.Event.{Event}
use Rattle.es_event.specs.declared.event.Event.TheVariants.{Did, Taken, JobEnded}
use Rattle.es_event.specs.declared.command.Command.TheVariants.{WeakRef, FinalizationRegistry, Register, Unregister}
use Rattle.es_event.specs.Commands.{first, Kind, reads}
use Rattle.es_event.specs.Sharing.{Buffers}
use Rattle.es_event.specs.History.{History, at_key}
use Rattle.es_event.specs.Identities.{identity, made, gone, is_gone, kind, born}
use Rattle.es_event.specs.Jobs.{Receivers}
use Rattle.es_event.specs.Properties.{put, same_key, keys_after}
use Rattle.es_event.specs.WeakRefs.{first_target, unless_gone}
use Rattle.es_event.specs.Heard.{silence}
use Rattle.es_event.specs.Legal.{Lawful, LegalBy}
use Rattle.es_event.proofs.Alive.{Stays, Alive, alive_at, next_alive}
use Rattle.es_event.proofs.Holds.{first_of, put_from}
use Rattle.es_event.proofs.Objects.{first_object}
use Rattle.es_tables.specs.declared.table_change.TableChange.TheVariants.{NoChange, Property}
use Rattle.es_tables.specs.declared.table_change.TableChange.{TableChange}
use Rattle.es_tables.specs.Effects.{Takes, Changed, object_born, points}
use Rattle.es_tables.specs.Ready.{CanApply}
use Rattle.es_tables.specs.Tables.{TablesView, SameState, VariablesView, bound, Says, slot_said}
use Rattle.es_event.specs.declared.command.Command.{Command}
use Rattle.es_event.specs.Registrations.{Cell, Fate, awaiting, callback as callback_said, callback_in, registers_by, registered, cell, fate}
use Rattle.es_event.proofs.Accepted.{is_result}
use Rattle.es_event.proofs.Cells.{cell_within}
use Rattle.es_event.proofs.Entries.{mapped}
use Rattle.es_registry.specs.Slots.{passes_at, is_awaiting}
use Rattle.es_registry.specs.Registries.{RegistriesView as RegistryContents, callback}
use Rattle.es_tables.specs.declared.registries.RegistryChange.TheVariants.{Leaves, Registers, Unregisters, Queues}
use Rattle.es_tables.specs.Changes.{table_change, put_of, born_of, points_of}
use Rattle.es_tables.proofs.Reading.{IsRead, is_read}
use Rattle.es_tables.specs.Registries.{CanChange, change, change_by, made_by as registry_made_by, again_at}
use Rattle.es_tables.proofs.Numbered.{get_numbered}
use Rattle.es_props.proofs.Overwritten.{unwrapped}
use Rattle.es_tables.proofs.Registering.{registers_change}
use Rattle.es_tables.proofs.Slots.{slots, slot_at}
use Rattle.es_event.proofs.Births.{next_kind, born_next}
use Rattle.es_tables.proofs.Fresh.{next_target}

if_some : {A : Type 0} (p : A → Bool) (o : Option A) (d : Bool) → ((a : A) → o ≡ Some a → p a ≡ d) → option_map_or p o d ≡ d
if_some p None d each = refl
if_some p (Some a) d each = each a refl

-- what is put is an object's
put_there : (over : Buffers) (into : Receivers) (h : History) (e : Event) (q : (ℕ × List ℕ) × Option Value) → LegalBy over into h → Lawful over into h e → put e ≡ Some q → is_some (kind h q.0.0) ≡ true
put_there over into h (Did (c, vs, r)) q legal lawful e = first_object over into h legal (reads c) vs q.0.0 lawful.0 (put_from c vs r q e).0
put_there over into h _ q legal lawful e = cc

-- what is born is not there yet
number_born : (over : Buffers) (into : Receivers) (h : History) (e : Event) (b : Option (ℕ × Option Kind)) (i : ℕ) → Lawful over into h e → born e ≡ b → option_map (λ b. b.0) b ≡ Some i → made h + 1 ≡ i
number_born over into h e None i lawful is o = cc
number_born over into h e (Some q) i lawful is o = let same : q.0 ≡ i = cc in born_next over into h e q lawful is ∙ same

not_born : (over : Buffers) (into : Receivers) (h : History) (e : Event) (i : ℕ) → LegalBy over into h → Lawful over into h e → object_born e ≡ Some i → is_some (kind h i) ≡ false
not_born over into h e i legal lawful is = subst (λ j. is_some (kind h j) ≡ false) (number_born over into h e _ i lawful refl is) (ap is_some (next_kind over into h legal))

-- a new WeakRef has no target yet
pointed : (y : List ℕ) (to : List ℕ) (vs : List Value) (r : Answer) (p : ℕ × Option ℕ) → points (Did (WeakRef to y, vs, r)) ≡ Some p → object_born (Did (WeakRef to y, vs, r)) ≡ Some p.0
pointed y to vs (Gives (Object w)) p e = numbers (identity (first vs)) w p e
  where
    numbers : (o : Option ℕ) (w : ℕ) (p : ℕ × Option ℕ) → option_map (λ t. (w, Some t)) o ≡ Some p → ◌≡◌ {A = Option ℕ} (Some w) (Some p.0)
    numbers None w p e = cc
    numbers (Some t) w p e = let g : (w, Some t) ≡ p = cc in ap (λ q. Some q.0) g
pointed y to vs r p e = cc

no_target : (over : Buffers) (into : Receivers) (h : History) (e : Event) (p : ℕ × Option ℕ) → LegalBy over into h → Lawful over into h e → points e ≡ Some p → first_target h p.0 ≡ None
no_target over into h (Did (WeakRef to y, vs, r)) p legal lawful e =
    subst (λ w. first_target h w ≡ None) (number_born over into h (Did (WeakRef to y, vs, r)) _ p.0 lawful refl (pointed y to vs r p e)) (next_target over into h legal)
no_target over into h _ p legal lawful e = cc

-- what is put is read from a variable, so it is there
put_alive : (over : Buffers) (into : Receivers) (h : History) (e : Event) (q : (ℕ × List ℕ) × Option Value) → Lawful over into h e → Stays into h → put e ≡ Some q → is_gone h q.0.0 ≡ false
put_alive over into h (Did (c, vs, r)) q lawful stays is =
    let read : Alive h (first vs) = subst (Alive h) (ap first (sym lawful.0)) (first_of (Alive h) into h (reads c) stays.held) in
    alive_at h (first vs) q.0.0 read (ap identity (put_from c vs r q is).0)
put_alive over into h _ q lawful stays is = cc

both_hold : (k g : Bool) → k ≡ true → g ≡ false → (k && not g) ≡ true
both_hold true false e f = refl
both_hold true true e f = cc
both_hold false g e f = cc

points_next : (over : Buffers) (into : Receivers) (h : History) (e : Event) (p : ℕ × Option ℕ) → Lawful over into h e → points e ≡ Some p → p.0 ≡ made h + 1
points_next over into h (Did (WeakRef to y, vs, r)) p lawful e = sym (number_born over into h (Did (WeakRef to y, vs, r)) _ p.0 lawful refl (pointed y to vs r p e))
points_next over into h _ p lawful e = cc

-- a registry that is made is not there yet
can_did : (over : Buffers) (into : Receivers) (h : History) (t : RegistryContents) (c : Command) (vs : List Value) (a : Answer) → LegalBy over into h → Lawful over into h (Did (c, vs, a)) → ((r : ℕ) → callback t r ≡ callback_said h r)
    → CanChange t (change_by c vs a)
can_did over into h t (FinalizationRegistry to n) vs a legal lawful callbacks =
    subst (λ a. CanChange t (registry_made_by n a)) (is_result over h (FinalizationRegistry to n) vs silence a lawful.1) (callbacks (made h + 1) ∙ ap (option_and_then callback_in) (next_kind over into h legal))
can_did over into h t (Register x y v k) vs a legal lawful callbacks = subst (CanChange t) (sym (registers_change x y v k vs a)) (at (registers_by (Register x y v k) vs))
  where
    at : (k : Option Cell) → CanChange t (option_map_or (λ k. Registers k.registry k.target k.held k.token) k Leaves)
    at None = tt
    at (Some k) = tt
can_did over into h t (Unregister to x k) (Object o ∷ w ∷ []) a legal lawful callbacks = at (identity w)
  where
    at : (i : Option ℕ) → CanChange t (option_map_or (Unregisters o) i Leaves)
    at None = tt
    at (Some i) = tt
can_did over into h t (Unregister to x k) vs a legal lawful callbacks = tt
can_did over into h t c vs a legal lawful callbacks = tt

-- a cell that is taken awaits its cleanup
awaits_at : (n : ℕ) (f : Fate) (k : Option Cell) (c : Cell) → f ≡ awaiting → k ≡ Some c → is_awaiting (slot_at n f k) ≡ true
awaits_at n f k c is at = ap (λ f. is_awaiting (slot_at n f k)) is ∙ ap (λ k. is_awaiting (slot_at n awaiting k)) at

can_end : (again : Option ℕ) (t : RegistryContents) → CanChange t (option_map_or Queues again Leaves)
can_end None t = tt
can_end (Some r) t = tt

can_change : (over : Buffers) (into : Receivers) (h : History) (t : RegistryContents) (e : Event) → LegalBy over into h → Lawful over into h e → ((r : ℕ) → callback t r ≡ callback_said h r) → t.cells ≡ slots h → CanChange t (change (again_at h) e)
can_change over into h t (Did (c, vs, a)) legal lawful callbacks cells = can_did over into h t c vs a legal lawful callbacks
can_change over into h t (Taken n held) legal lawful callbacks cells =
    let at = mapped (λ c. c.held) (cell h n) held lawful.0 in
    let numbered = cell_within h n at.0 at.1 in
    let place : 1 + (n - 1) ≡ n = omega (arith, numbered.0) in (
      numbered.0,
      ap (λ cs. passes_at is_awaiting cs (n - 1)) cells
          ∙ (ap (λ o. option_map_or is_awaiting o false) (get_numbered (slot_said h) 1 (registered h) (n - 1) (omega (arith, numbered.0, numbered.1)))
          ∙ (ap (λ j. is_awaiting (slot_said h j)) place ∙ awaits_at n (fate h n) (cell h n) at.0 lawful.1 at.1)),
    )
can_change over into h t JobEnded legal lawful callbacks cells = can_end (again_at h) t
can_change over into h t e legal lawful callbacks cells = tt

pub can_apply : (over : Buffers) (into : Receivers) (h : History) (s : TablesView) (e : Event)
    → LegalBy over into h → Lawful over into h e → Stays into h → Says into h s → CanApply s (table_change (again_at h) e)
can_apply over into h s e legal lawful stays says = let read : IsRead (again_at h) e (table_change (again_at h) e) = is_read (again_at h) e in record {
  put = if_some (λ p. has s.heap p.0.0) (put_of (table_change (again_at h) e)) true (λ q is.
      let put' = sym read.put ∙ is in
      says.objects q.0.0 ∙ both_hold (is_some (kind h q.0.0)) (is_gone h q.0.0) (put_there over into h e q legal lawful put') (put_alive over into h e q lawful stays put'));
  born = if_some (has s.heap) (born_of (table_change (again_at h) e)) false (λ i is. says.objects i ∙ ap (λ b. b && not (is_gone h i)) (not_born over into h e i legal lawful (sym read.born ∙ is)));
  points = if_some (λ p. is_some (target s.weakrefs p.0)) (points_of (table_change (again_at h) e)) false (λ q is.
      let pointed' = sym read.points ∙ is in
      let here = next_alive over into h legal q.0 (points_next over into h e q lawful pointed') in
      ap is_some (says.targets q.0 here ∙ ap (λ f. option_and_then identity (option_and_then (unless_gone (gone h)) f)) (no_target over into h e q legal lawful pointed')));
  registry = subst (CanChange s.registries) (sym read.registry) (can_change over into h s.registries e legal lawful says.callbacks says.cells);
}

-- tables with these variables, and with this heap

abbrev with_variables : VariablesView → TablesView → TablesView
with_variables b s = record { variables = b; heap = s.heap; rooms = s.rooms; weakrefs = s.weakrefs; weak = s.weak; registries = s.registries; tags = s.tags }

abbrev with_heap : Store → List ℕ → TablesView → TablesView
with_heap h rooms s = record { variables = s.variables; heap = h; rooms = rooms; weakrefs = s.weakrefs; weak = s.weak; registries = s.registries; tags = s.tags }

-- where every object is as it was, the tables say the same
same_objects : (s : TablesView) (h : Store) (rooms : List ℕ) → Unchanged s.heap h → SameState s (with_heap h rooms s)
same_objects s h rooms same = record {
  variables = λ x. refl;
  heap = record {
    properties = λ p x. ap (λ o. option_and_then (λ ps. value_at ps x) o) (same p);
    keys = λ p. ap (λ o. option_map_or keys_of_properties o []) (same p);
    objects = λ p. ap (λ o. is_some o) (same p);
  };
  targets = λ w. refl;
  kept = refl;
  entries = λ m k. refl;
  members = λ m k. refl;
  callbacks = λ r. refl;
  cells = refl;
  queue = refl;
  tags = refl;
}

-- an event that changes no table

changes_none : (s : TablesView) (b : VariablesView) → Changed s NoChange (with_variables b s)
changes_none s b = record {
  properties = λ o k. refl;
  keys = λ o. refl;
  objects = λ o. refl;
  targets = λ w. refl;
  entries = λ m k. refl;
  members = λ m k. refl;
  callbacks = λ r. refl;
  cells = refl;
  queue = refl;
  kept = refl;
  tags = sym (append-nil s.tags.all);
}

pub takes_alone : (a : Option (List ℕ × Value)) (c : TableChange) (s : TablesView) (b : VariablesView) → NoChange ≡ c
    → ((x : List ℕ) → bound b x ≡ unwrap_or (at_key bytes_eq x a) (bound s.variables x))
    → Takes a c s (with_variables b s)
takes_alone a c s b none assigned = record {
  before = s;
  same = same_objects s s.heap s.rooms (λ p. refl);
  assigned = assigned;
  changed = subst (λ c. Changed s c (with_variables b s)) none (changes_none s b);
}

-- a property that is set, once there is room for it: what is no object's stays as where nothing changes

pub takes_put : (s : TablesView) (mid new : Store) (mid_rooms rooms : List ℕ) (o : ℕ) (k : List ℕ) (v : Value) → Unchanged s.heap mid
    → ((p : ℕ) (x : List ℕ) → property new p x ≡ cond (same_key (o, k) (p, x)) (Some v) (property mid p x))
    → ((p : ℕ) → keys new p ≡ keys_after p (Some ((o, k), Some v)) (keys mid p))
    → ((p : ℕ) → has new p ≡ has mid p)
    → Takes None (Property (Some ((o, k), Some v))) s (with_heap new rooms s)
takes_put s mid new mid_rooms rooms o k v same properties' keys' objects' = let rest = changes_none s s.variables in record {
  before = with_heap mid mid_rooms s;
  same = same_objects s mid mid_rooms same;
  assigned = λ x. refl;
  changed = record {
    properties = λ p x. properties' p x ∙ sym (unwrapped (same_key (o, k) (p, x)) (Some v) None (property mid p x));
    keys = λ p. keys' p;
    objects = λ p. objects' p;
    targets = rest.targets;
    entries = rest.entries;
    members = rest.members;
    callbacks = rest.callbacks;
    cells = rest.cells;
    queue = rest.queue;
    kept = rest.kept;
    tags = rest.tags;
  };
}
