-- The tables still say what the history says after one more event that empties nothing.
use Rattle.std.proofs.Common.{◌≡◌, ℕ, ◌+◌, ◌==◌, ◌||◌, ◌&&◌, not, Bool, true, false, cond, sym, ◌∙◌, ap, refl, subst, List, [], ◌∷◌, ◌++◌, Option, Some, None}
use Rattle.std.specs.Prelude.{unwrap_or, is_some, reverse}
use Rattle.std.specs.Option.{option_map, option_map_or, option_and_then}
use Rattle.std.specs.Str.{bytes_eq}
use Rattle.std.proofs.lemmas.Bool.{eqb-true}
use Rattle.es_value.specs.declared.value.Value.{Value}
use Rattle.es_props.specs.Heap.{has, property, keys}
use Rattle.es_weakref.specs.WeakRefs.{target}
use Rattle.es_ephemeron.specs.Ephemerons.{record_at}
use Rattle.es_event.specs.declared.event.Answer.{Answer}
use Rattle.es_event.specs.declared.event.Refusal.TheVariants.{NotHeldWeakly}
use Rattle.es_value.specs.Values.{is_held_weakly}
use Rattle.es_event.specs.declared.event.Event.{Event}
use Rattle.es_event.specs.declared.event.Event.TheVariants.{Received, Did}
use Rattle.es_event.specs.declared.command.Command.{Command}
use Rattle.es_event.specs.declared.command.Command.TheVariants.{WeakRef}
use Rattle.es_event.specs.Commands.{first, reads, Kind, weakref_to, kind_made}
use Rattle.es_event.specs.Sharing.{Buffers}
use Rattle.es_event.specs.History.{History, at_key}
use Rattle.es_event.specs.Identities.{identity, made, gone, is_gone, is_in, empties, has_identity_in, kind, born}
use Rattle.es_event.specs.Jobs.{Receivers}
use Rattle.es_event.specs.Variables.{assigned}
use Rattle.es_event.specs.Properties.{put, same_key, keys_after}
use Rattle.es_event.specs.Ephemerons.{same_pair, entered, first_entry, joined, first_member}
use Rattle.es_event.specs.WeakRefs.{aims, first_target, unless_gone, keeps, ends_job}
use Rattle.es_event.specs.Rules.{result, first_refusal, tests, room}
use Rattle.es_event.specs.Heard.{silence}
use Rattle.es_event.specs.Legal.{Lawful, LegalBy}
use Rattle.es_event.proofs.Accepted.{accepted, first_holds}
use Rattle.es_event.proofs.Alive.{Stays, Alive, next_alive}
use Rattle.es_event.proofs.Births.{birth, born_some, received as received_object}
use Rattle.es_event.proofs.Holds.{first_of}
use Rattle.es_event.proofs.Targets.{held_weakly_identity}
use Rattle.es_tables.specs.Effects.{AssignsTo, Changed, assigned_by, object_born, points}
use Rattle.es_tables.specs.Tables.{TablesView, Says, bound}
use Rattle.es_event.proofs.Births.{born_next}
use Rattle.es_tables.proofs.Fresh.{next_target}
use Rattle.es_registry.specs.Registries.{callback}
use Rattle.es_tables.specs.Registries.{change, callback_after, cells_after, queue_after, again_at}
use Rattle.es_tables.proofs.Registering.{IsQuiet, quiet_empties, callback_next, cells_next, queue_next}
use Rattle.es_tables.specs.Changes.{table_change, kept_of, makes_of}
use Rattle.es_tables.proofs.Reading.{IsRead, is_read}
use Rattle.es_tables.proofs.Weak.{left_of, written, entered_there, joined_there}
use Rattle.es_tables.proofs.Tagging.{tags_after, made_after}

-- What is emptied

pub same_gone : (h : History) (e : Event) (i : ℕ) → empties e ≡ [] → is_gone (e ∷ h) i ≡ is_gone h i
same_gone h e i none = ap (λ ids. is_in (ids ++ gone h) i) none

-- Objects

there : (b : Option (ℕ × Option Kind)) (before : Option Kind) (g : Bool) (o : ℕ) → ((q : ℕ × Option Kind) → b ≡ Some q → (is_some q.1 ≡ true) × (q.0 ≡ o → g ≡ false))
    → (option_map_or (λ i. i == o) (option_map (λ b. b.0) b) false || (is_some before && not g)) ≡ (is_some (unwrap_or (at_key (λ i j. i == j) o b) before) && not g)
there None before g o some = refl
there (Some q) before g o some =
    elim (q.0 == o) as (λ t. q.0 == o ≡ t → (t || (is_some before && not g)) ≡ (is_some (unwrap_or (cond t (Some q.1) None) before) && not g))
    [ true ↦ λ t. new (is_some q.1) g (some q refl).0 ((some q refl).1 (eqb-true q.0 o t)) | false ↦ λ t. refl ] refl
  where
    new : (s g : Bool) → s ≡ true → g ≡ false → true ≡ (s && not g)
    new true false e f = refl
    new true true e f = cc
    new false g e f = cc

born_alive : (over : Buffers) (into : Receivers) (h : History) (e : Event) (o : ℕ) → LegalBy over into h → Lawful over into h e → (q : ℕ × Option Kind) → born e ≡ Some q → (is_some q.1 ≡ true) × (q.0 ≡ o → is_gone h o ≡ false)
born_alive over into h e o legal lawful q is = (born_some e q is, λ same. next_alive over into h legal o (sym (born_next over into h e q lawful is ∙ same)))

-- Targets

-- the identity of what stands of the target of a WeakRef of this kind
abbrev pub aimed_at : List ℕ → Option Kind → Option ℕ
aimed_at ids k = option_and_then identity (option_and_then (unless_gone ids) (option_and_then aims k))

-- an event that makes no WeakRef aims at nothing new
plain_target : (ids : List ℕ) (s : Option ℕ) (before : Option Kind) (b : Option (ℕ × Option Kind)) (w : ℕ)
    → s ≡ aimed_at ids before
    → ((q : ℕ × Option Kind) → b ≡ Some q → (option_and_then aims q.1 ≡ None) × (q.0 ≡ w → option_and_then aims before ≡ None))
    → s ≡ aimed_at ids (unwrap_or (at_key (λ i j. i == j) w b) before)
plain_target ids s before None w same none = same
plain_target ids s before (Some q) w same none =
    elim (q.0 == w) as (λ t. q.0 == w ≡ t → s ≡ aimed_at ids (unwrap_or (cond t (Some q.1) None) before))
    [ true ↦ λ t. same ∙ ap (λ v. option_and_then identity (option_and_then (unless_gone ids) v)) ((none q refl).1 (eqb-true q.0 w t) ∙ sym (none q refl).0) | false ↦ λ t. same ] refl

-- the new WeakRef aims at its target, which is there
new_target : (ids : List ℕ) (s : Option ℕ) (before : Option Kind) (n w t : ℕ) (v : Value) → identity v ≡ Some t → has_identity_in ids v ≡ false → s ≡ aimed_at ids before
    → unwrap_or (at_key (λ i j. i == j) w (option_map (λ t. (n, Some t)) (identity v))) s ≡ aimed_at ids (unwrap_or (at_key (λ i j. i == j) w (Some (n, Some (weakref_to v)))) before)
new_target ids s before n w t v is here same =
    subst (λ o. unwrap_or (at_key (λ i j. i == j) w (option_map (λ t. (n, Some t)) o)) s ≡ aimed_at ids (unwrap_or (at_key (λ i j. i == j) w (Some (n, Some (weakref_to v)))) before)) (sym is)
    (elim (n == w) as (λ b. unwrap_or (cond b (Some (Some t)) None) s ≡ aimed_at ids (unwrap_or (cond b (Some (Some (weakref_to v))) None) before))
    [ true ↦ sym is ∙ ap (λ b. option_and_then identity (cond b None (Some v))) (sym here) | false ↦ same ])

aims_at_none : (over : Buffers) (into : Receivers) (h : History) (e : Event) (w : ℕ) → LegalBy over into h → Lawful over into h e
    → ((q : ℕ × Option Kind) → born e ≡ Some q → option_and_then aims q.1 ≡ None)
    → (q : ℕ × Option Kind) → born e ≡ Some q → (option_and_then aims q.1 ≡ None) × (q.0 ≡ w → option_and_then aims (kind h w) ≡ None)
aims_at_none over into h e w legal lawful none q is = (
  none q is,
  λ same. subst (λ o. first_target h o ≡ None) (born_next over into h e q lawful is ∙ same) (next_target over into h legal),
)

ordinary_born : (c : Command) (vs : List Value) (r : Answer) → option_and_then aims (kind_made c vs) ≡ None → (q : ℕ × Option Kind) → born (Did (c, vs, r)) ≡ Some q → option_and_then aims q.1 ≡ None
ordinary_born c vs r none q e = let b = birth c vs r q e in ap (option_and_then aims) (b.1 ∙ sym b.2) ∙ none

target_step : (over : Buffers) (into : Receivers) (h : History) (e : Event) (s : Option ℕ) (w : ℕ) → LegalBy over into h → Lawful over into h e → Stays into h
    → s ≡ aimed_at (gone h) (kind h w) → unwrap_or (at_key (λ i j. i == j) w (points e)) s ≡ aimed_at (gone h) (kind (e ∷ h) w)
target_step over into h (Did (WeakRef to y, vs, r)) s w legal lawful stays same =
    let ok = accepted (first_refusal (tests over h (WeakRef to y) vs)) (result over h (WeakRef to y) vs silence) r lawful.1 in
    let held = held_weakly_identity (first vs) (first_holds (is_held_weakly (first vs)) NotHeldWeakly (room h ∷ []) ok.0).0 in
    let read : Alive h (first vs) = subst (Alive h) (ap first (sym lawful.0)) (first_of (Alive h) into h (reads (WeakRef to y)) stays.held) in
    subst (λ r. unwrap_or (at_key (λ i j. i == j) w (points (Did (WeakRef to y, vs, r)))) s ≡ aimed_at (gone h) (kind (Did (WeakRef to y, vs, r) ∷ h) w)) ok.1
    (new_target (gone h) s (kind h w) (made h + 1) w held.0 (first vs) held.1 read same)
target_step over into h (Did (c, vs, r)) s w legal lawful stays same =
    plain_target (gone h) s (kind h w) (born (Did (c, vs, r))) w same (aims_at_none over into h (Did (c, vs, r)) w legal lawful (ordinary_born c vs r refl))
target_step over into h (Received t v) s w legal lawful stays same =
    plain_target (gone h) s (kind h w) (born (Received t v)) w same (aims_at_none over into h (Received t v) w legal lawful (λ q is. ap (option_and_then aims) (received_object v q is).0))
target_step over into h e s w legal lawful stays same =
    plain_target (gone h) s (kind h w) (born e) w same (λ q is. cc)

-- Entries and members

left_still : {A : Type 0} (h : History) (e : Event) (m k : ℕ) (none a : A) → empties e ≡ [] → left_of none (is_gone h m) (is_gone h k) a ≡ left_of none (is_gone (e ∷ h) m) (is_gone (e ∷ h) k) a
left_still h e m k none a quiet = ap (λ b. left_of none b (is_gone h k) a) (sym (same_gone h e m quiet)) ∙ ap (λ b. left_of none (is_gone (e ∷ h) m) b a) (sym (same_gone h e k quiet))

-- All tables

assigns : (into : Receivers) (h : History) (received : List ℕ) (e : Event) → AssignsTo received (into h) e → assigned_by received e ≡ assigned into h e
assigns into h received (Received t v) to = ap (λ x. Some (x, v)) (sym to)
assigns into h received e to = refl

pub says_after : (over : Buffers) (into : Receivers) (h : History) (s t : TablesView) (e : Event)
    → LegalBy over into h → Lawful over into h e → Stays into h → IsQuiet e → Says into h s → (received : List ℕ) → AssignsTo received (into h) e
    → ((x : List ℕ) → bound t.variables x ≡ unwrap_or (at_key bytes_eq x (assigned_by received e)) (bound s.variables x)) → Changed s (table_change (again_at h) e) t → Says into (e ∷ h) t
says_after over into h s t e legal lawful stays silent says received to assigned' changed = let quiet : empties e ≡ [] = quiet_empties e silent in let read : IsRead (again_at h) e (table_change (again_at h) e) = is_read (again_at h) e in record {
  variables = λ x. assigned' x ∙ ap (λ p. unwrap_or (at_key bytes_eq x p) (bound s.variables x)) (assigns into h received e to) ∙ ap (unwrap_or (at_key bytes_eq x (assigned into h e))) (says.variables x);
  objects = λ o. changed.objects o
      ∙ ap (λ b. option_map_or (λ i. i == o) b false || has s.heap o) read.born
      ∙ ap (λ b. option_map_or (λ i. i == o) (object_born e) false || b) (says.objects o)
      ∙ there (born e) (kind h o) (is_gone h o) o (born_alive over into h e o legal lawful)
      ∙ ap (λ g. is_some (kind (e ∷ h) o) && not g) (sym (same_gone h e o quiet));
  properties = λ o k here. changed.properties o k ∙ ap (λ p. unwrap_or (at_key same_key (o, k) p) (property s.heap o k)) read.put
      ∙ ap (unwrap_or (at_key same_key (o, k) (put e))) (says.properties o k (sym (same_gone h e o quiet) ∙ here));
  keys = λ o here. changed.keys o ∙ ap (λ p. keys_after o p (keys s.heap o)) read.put ∙ ap (keys_after o (put e)) (says.keys o (sym (same_gone h e o quiet) ∙ here));
  targets = λ w here. changed.targets w ∙ ap (λ p. unwrap_or (at_key (λ i j. i == j) w p) (target s.weakrefs w)) read.points
      ∙ target_step over into h e (target s.weakrefs w) w legal lawful stays (says.targets w (sym (same_gone h e w quiet) ∙ here))
      ∙ ap (λ ids. aimed_at (ids ++ gone h) (kind (e ∷ h) w)) (sym quiet);
  callbacks = λ r. changed.callbacks r
      ∙ ap (λ c. callback_after c r (callback s.registries r)) read.registry
      ∙ ap (callback_after (change (again_at h) e) r) (says.callbacks r)
      ∙ callback_next over into h e r legal lawful;
  cells = changed.cells
      ∙ ap (λ c. cells_after c s.registries.cells) read.registry
      ∙ ap (cells_after (change (again_at h) e)) says.cells
      ∙ cells_next over into h e (lawful, legal) stays silent;
  queue = changed.queue
      ∙ ap (λ c. queue_after c s.registries.queue) read.registry
      ∙ ap (queue_after (change (again_at h) e)) says.queue
      ∙ queue_next h e silent;
  kept = changed.kept
      ∙ ap (λ b. cond b [] (kept_of (table_change (again_at h) e) ++ reverse s.weakrefs.kept)) read.clears
      ∙ ap (λ ids. cond (ends_job e) [] (ids ++ reverse s.weakrefs.kept)) read.kept
      ∙ ap (λ ids. cond (ends_job e) [] (keeps e ++ ids)) says.kept;
  entries = λ m k. changed.entries m k
      ∙ ap (λ p. unwrap_or (at_key same_pair (m, k) p) (record_at s.weak.entries.all m k)) read.entered
      ∙ ap (unwrap_or (at_key same_pair (m, k) (entered e))) (says.entries m k)
      ∙ written None m k (entered e) (is_gone h m) (is_gone h k) (first_entry h m k) (entered_there over into h e m k lawful stays)
      ∙ left_still h e m k None (first_entry (e ∷ h) m k) quiet;
  members = λ m k. changed.members m k
      ∙ ap (λ p. unwrap_or (at_key same_pair (m, k) p) (is_some (record_at s.weak.members.all m k))) read.joined
      ∙ ap (unwrap_or (at_key same_pair (m, k) (joined e))) (says.members m k)
      ∙ written false m k (joined e) (is_gone h m) (is_gone h k) (first_member h m k) (joined_there over into h e m k lawful stays)
      ∙ left_still h e m k false (first_member (e ∷ h) m k) quiet;
  tags = tags_after over into h e s.tags.all t.tags.all (makes_of (table_change (again_at h) e)) legal lawful (λ i. same_gone h e i quiet) says.made says.tags (sym read.makes) changed.tags;
  made = made_after h e s.tags.all t.tags.all (makes_of (table_change (again_at h) e)) says.made (sym read.makes) changed.tags;
}
