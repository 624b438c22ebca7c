-- What the tables say of registries, of their cells and of the cleanup queue after one more event.
use Rattle.std.proofs.Common.{◌≡◌, ℕ, ◌+◌, ◌==◌, Bool, true, false, cond, sym, ◌∙◌, ap, refl, subst, List, [], ◌∷◌, ◌++◌, filter, Option, Some, None}
use Rattle.std.specs.Prelude.{unwrap_or, slice_get, is_some}
use Rattle.std.specs.Option.{option_map, option_map_or, option_and_then, option_to_list}
use Rattle.std.proofs.lemmas.Bool.{eqb-true}
use Rattle.std.proofs.lemmas.List.{append-nil}
use Rattle.es_value.specs.declared.value.Value.{Value}
use Rattle.es_value.specs.declared.value.Value.TheVariants.{Object}
use Rattle.es_event.specs.declared.event.Answer.{Answer}
use Rattle.es_event.specs.declared.event.Answer.TheVariants.{Gives}
use Rattle.es_event.specs.declared.event.Event.{Event}
use Rattle.es_event.specs.declared.event.Event.TheVariants.{Received, Did, Emptied, Taken, JobEnded}
use Rattle.es_event.specs.declared.command.Command.{Command}
use Rattle.es_event.specs.declared.command.Command.TheVariants.{FinalizationRegistry, Register, Unregister}
use Rattle.es_event.specs.Commands.{first, second, reads, Kind, registry_of, kind_made}
use Rattle.es_event.specs.Sharing.{Buffers}
use Rattle.es_event.specs.History.{History, at_key}
use Rattle.es_event.specs.Identities.{identity, made, empties, kind, born}
use Rattle.es_event.specs.Jobs.{Receivers, cleaning}
use Rattle.es_event.specs.Order.{queue, queues_again, is_stopped, phase}
use Rattle.es_event.specs.Registrations.{Cell, unregistered, is_under, is_present, callback, callback_in, registers_by, cell, first_awaiting}
use Rattle.es_event.specs.Heard.{silence}
use Rattle.es_event.specs.Legal.{Lawful, LegalBy}
use Rattle.es_event.proofs.Accepted.{is_result}
use Rattle.es_event.proofs.Alive.{Stays, Alive, alive_at}
use Rattle.es_event.proofs.Births.{birth, received}
use Rattle.es_event.proofs.LookBacks.{at_either}
use Rattle.es_event.proofs.Cells.{made_by, cell_within}
use Rattle.es_event.proofs.Entries.{mapped}
use Rattle.es_event.proofs.Holds.{second_of}
use Rattle.es_tables.specs.declared.registries.RegistryChange.TheVariants.{Leaves, Registers, Unregisters, Queues}
pub use Rattle.es_tables.specs.Effects.{IsQuiet}
use Rattle.es_tables.specs.Registries.{change, change_by, made_by as registry_made_by, callback_after, cells_after, queue_after, again_at}
use Rattle.es_event.proofs.Births.{next_kind, born_next}
use Rattle.es_tables.proofs.Slots.{slots, slots_same, slots_registered, slots_unregistered, slots_taken}

pub quiet_empties : (e : Event) → IsQuiet e → empties e ≡ []
quiet_empties (Emptied ids) quiet = absurd quiet
quiet_empties e quiet = refl

-- Cells

-- what a register changes is what it registers
pub registers_change : (q y v : List ℕ) (t : Option (List ℕ)) (vs : List Value) (r : Answer)
    → change_by (Register q y v t) vs r ≡ option_map_or (λ k. Registers k.registry k.target k.held k.token) (registers_by (Register q y v t) vs) Leaves
registers_change q y v t (Object o ∷ w ∷ held ∷ rest) r = at (identity w)
  where
    at : (i : Option ℕ) → option_map_or (λ i. Registers o i held (identity (first rest))) i Leaves
        ≡ option_map_or (λ (k : Cell). Registers k.registry k.target k.held k.token) (option_map (λ i. record { registry = o; target = i; held = held; token = identity (first rest) }) i) Leaves
    at None = refl
    at (Some i) = refl
registers_change q y v t _ r = refl

register_cells : (over : Buffers) (into : Receivers) (h : History) (q y v : List ℕ) (t : Option (List ℕ)) (vs : List Value) (r : Answer) (k : Option Cell) → LegalBy over into (Did (Register q y v t, vs, r) ∷ h) → Stays into h
    → registers_by (Register q y v t) vs ≡ k → cells_after (option_map_or (λ k. Registers k.registry k.target k.held k.token) k Leaves) (slots h) ≡ slots (Did (Register q y v t, vs, r) ∷ h)
register_cells over into h q y v t vs r None legal stays is = slots_same (Did (Register q y v t, vs, r)) h is refl (λ n. refl)
register_cells over into h q y v t vs r (Some k) legal stays is =
    let alive : Alive h (second vs) = subst (Alive h) (ap second (sym legal.0.0)) (second_of (Alive h) into h (reads (Register q y v t)) stays.held) in
    slots_registered over into h (Register q y v t) vs r k legal is (alive_at h (second vs) k.target alive (made_by (Register q y v t) vs r k is).target) (λ n. refl)

unregister_cells : (h : History) (to q x : List ℕ) (vs : List Value) (r : Answer) → cells_after (change_by (Unregister to q x) vs r) (slots h) ≡ slots (Did (Unregister to q x, vs, r) ∷ h)
unregister_cells h to q x (Object o ∷ w ∷ []) r = at (identity w) refl
  where
    at : (i : Option ℕ) → identity w ≡ i → cells_after (option_map_or (Unregisters o) i Leaves) (slots h) ≡ slots (Did (Unregister to q x, Object o ∷ w ∷ [], r) ∷ h)
    at None is = slots_same (Did (Unregister to q x, Object o ∷ w ∷ [], r)) h refl refl (λ n. ap (λ i. cond (option_map_or (λ i. is_under h o i n) i false) (Some unregistered) None) is)
    at (Some t) is = slots_unregistered to q x o t w r h is
unregister_cells h to q x vs r = slots_same (Did (Unregister to q x, vs, r)) h refl refl (λ n. refl)

made_cells : (c : ℕ) (r : Answer) (cells : List _) → cells_after (registry_made_by c r) cells ≡ cells
made_cells c (Gives (Object o)) cells = refl
made_cells c _ cells = refl

did_cells : (over : Buffers) (into : Receivers) (h : History) (c : Command) (vs : List Value) (r : Answer) → LegalBy over into (Did (c, vs, r) ∷ h) → Stays into h → cells_after (change_by c vs r) (slots h) ≡ slots (Did (c, vs, r) ∷ h)
did_cells over into h (FinalizationRegistry to n) vs r legal stays = made_cells n r (slots h) ∙ slots_same (Did (FinalizationRegistry to n, vs, r)) h refl refl (λ n. refl)
did_cells over into h (Register q y v t) vs r legal stays =
    ap (λ c. cells_after c (slots h)) (registers_change q y v t vs r) ∙ register_cells over into h q y v t vs r (registers_by (Register q y v t) vs) legal stays refl
did_cells over into h (Unregister to q x) vs r legal stays = unregister_cells h to q x vs r
did_cells over into h c vs r legal stays = slots_same (Did (c, vs, r)) h refl refl (λ n. refl)

ended_cells : (again : Option ℕ) (cells : List _) → cells_after (option_map_or Queues again Leaves) cells ≡ cells
ended_cells None cells = refl
ended_cells (Some r) cells = refl

pub cells_next : (over : Buffers) (into : Receivers) (h : History) (e : Event) → LegalBy over into (e ∷ h) → Stays into h → IsQuiet e → cells_after (change (again_at h) e) (slots h) ≡ slots (e ∷ h)
cells_next over into h (Did (c, vs, r)) legal stays quiet = did_cells over into h c vs r legal stays
cells_next over into h (Taken n v) legal stays quiet =
    let at = mapped (λ c. c.held) (cell h n) v legal.0.0 in
    let numbered = cell_within h n at.0 at.1 in
    slots_taken h n v numbered.0 numbered.1 (ap is_present legal.0.1)
cells_next over into h JobEnded legal stays quiet = ended_cells (again_at h) (slots h) ∙ slots_same JobEnded h refl refl (λ n. refl)
cells_next over into h (Emptied ids) legal stays quiet = absurd quiet
cells_next over into h e legal stays quiet = slots_same e h refl refl (λ n. refl)

-- The cleanup queue

queued_again : (b : Bool) (p : ℕ → Bool) (r : Option ℕ) → cond b (filter p (option_to_list r)) [] ≡ option_to_list (slice_get (cond b (filter p (option_to_list r)) []) 0)
queued_again false p r = refl
queued_again true p None = refl
queued_again true p (Some r) = at (p r)
  where
    at : (b : Bool) → cond b (r ∷ []) [] ≡ option_to_list (slice_get (cond b (r ∷ []) []) 0)
    at true = refl
    at false = refl

pub again_is : (h : History) → queues_again h ≡ option_to_list (again_at h)
again_is h = queued_again (is_stopped (phase h)) (λ r. is_some (first_awaiting h r)) (cleaning h)

ended_queue : (again : Option ℕ) (q : List ℕ) → queue_after (option_map_or Queues again Leaves) q ≡ q ++ option_to_list again
ended_queue None q = sym (append-nil q)
ended_queue (Some r) q = refl

made_queue : (c : ℕ) (r : Answer) (q : List ℕ) → queue_after (registry_made_by c r) q ≡ q
made_queue c (Gives (Object o)) q = refl
made_queue c _ q = refl

registered_queue : (k : Option Cell) (q : List ℕ) → queue_after (option_map_or (λ k. Registers k.registry k.target k.held k.token) k Leaves) q ≡ q
registered_queue None q = refl
registered_queue (Some k) q = refl

unregistered_queue : (o : ℕ) (t : Option ℕ) (q : List ℕ) → queue_after (option_map_or (Unregisters o) t Leaves) q ≡ q
unregistered_queue o None q = refl
unregistered_queue o (Some t) q = refl

did_queue : (c : Command) (vs : List Value) (r : Answer) (q : List ℕ) → queue_after (change_by c vs r) q ≡ q
did_queue (FinalizationRegistry to n) vs r q = made_queue n r q
did_queue (Register x y v t) vs r q = ap (λ c. queue_after c q) (registers_change x y v t vs r) ∙ registered_queue (registers_by (Register x y v t) vs) q
did_queue (Unregister to x t) (Object o ∷ w ∷ []) r q = unregistered_queue o (identity w) q
did_queue (Unregister to x t) vs r q = refl
did_queue c vs r q = refl

pub queue_next : (h : History) (e : Event) → IsQuiet e → queue_after (change (again_at h) e) (queue h) ≡ queue (e ∷ h)
queue_next h (Did (c, vs, r)) quiet = did_queue c vs r (queue h)
queue_next h (Emptied ids) quiet = absurd quiet
queue_next h JobEnded quiet = ended_queue (again_at h) (queue h) ∙ ap (λ q. queue h ++ q) (sym (again_is h))
queue_next h e quiet = refl

-- Callbacks

-- an event that makes no registry leaves every callback
plain_callback : (before : Option Kind) (b : Option (ℕ × Option Kind)) (r : ℕ)
    → ((q : ℕ × Option Kind) → b ≡ Some q → (option_and_then callback_in q.1 ≡ None) × (q.0 ≡ r → option_and_then callback_in before ≡ None))
    → option_and_then callback_in before ≡ option_and_then callback_in (unwrap_or (at_key (λ i j. i == j) r b) before)
plain_callback before None r none = refl
plain_callback before (Some q) r none =
    elim (q.0 == r) as (λ t. q.0 == r ≡ t → option_and_then callback_in before ≡ option_and_then callback_in (unwrap_or (cond t (Some q.1) None) before))
    [ true ↦ λ t. (none q refl).1 (eqb-true q.0 r t) ∙ sym (none q refl).0 | false ↦ λ t. refl ] refl

none_called : (over : Buffers) (into : Receivers) (h : History) (e : Event) (r : ℕ) → LegalBy over into h → Lawful over into h e
    → ((q : ℕ × Option Kind) → born e ≡ Some q → option_and_then callback_in q.1 ≡ None)
    → (q : ℕ × Option Kind) → born e ≡ Some q → (option_and_then callback_in q.1 ≡ None) × (q.0 ≡ r → option_and_then callback_in (kind h r) ≡ None)
none_called over into h e r legal lawful none q is = (
  none q is,
  λ same. subst (λ o. callback h o ≡ None) (born_next over into h e q lawful is ∙ same) (ap (option_and_then callback_in) (next_kind over into h legal)),
)

uncalled : (c : Command) (vs : List Value) (r : Answer) → option_and_then callback_in (kind_made c vs) ≡ None → (q : ℕ × Option Kind) → born (Did (c, vs, r)) ≡ Some q → option_and_then callback_in q.1 ≡ None
uncalled c vs r none q e = let b = birth c vs r q e in ap (option_and_then callback_in) (b.1 ∙ sym b.2) ∙ none

new_callback : (h : History) (to : List ℕ) (n : ℕ) (vs : List Value) (r : ℕ)
    → callback_after (registry_made_by n (Gives (Object (made h + 1)))) r (callback h r) ≡ callback (Did (FinalizationRegistry to n, vs, Gives (Object (made h + 1))) ∷ h) r
new_callback h to n vs r = at (made h + 1 == r)
  where
    at : (b : Bool) → cond b (Some n) (option_and_then callback_in (kind h r)) ≡ option_and_then callback_in (unwrap_or (cond b (Some (Some (registry_of n))) None) (kind h r))
    at true = refl
    at false = refl

same_callback : (over : Buffers) (into : Receivers) (h : History) (c : Command) (vs : List Value) (a : Answer) (r : ℕ) → LegalBy over into h → Lawful over into h (Did (c, vs, a))
    → option_and_then callback_in (kind_made c vs) ≡ None → callback h r ≡ callback (Did (c, vs, a) ∷ h) r
same_callback over into h c vs a r legal lawful none = plain_callback (kind h r) (born (Did (c, vs, a))) r (none_called over into h (Did (c, vs, a)) r legal lawful (uncalled c vs a none))

registered_callback : (k : Option Cell) (r : ℕ) (before : Option ℕ) → callback_after (option_map_or (λ k. Registers k.registry k.target k.held k.token) k Leaves) r before ≡ before
registered_callback None r before = refl
registered_callback (Some k) r before = refl

unregistered_callback : (o : ℕ) (t : Option ℕ) (r : ℕ) (before : Option ℕ) → callback_after (option_map_or (Unregisters o) t Leaves) r before ≡ before
unregistered_callback o None r before = refl
unregistered_callback o (Some t) r before = refl

unregister_callback : (to x t : List ℕ) (vs : List Value) (a : Answer) (r : ℕ) (before : Option ℕ) → callback_after (change_by (Unregister to x t) vs a) r before ≡ before
unregister_callback to x t (Object o ∷ w ∷ []) a r before = unregistered_callback o (identity w) r before
unregister_callback to x t vs a r before = refl

did_callback : (over : Buffers) (into : Receivers) (h : History) (c : Command) (vs : List Value) (a : Answer) (r : ℕ) → LegalBy over into h → Lawful over into h (Did (c, vs, a))
    → callback_after (change_by c vs a) r (callback h r) ≡ callback (Did (c, vs, a) ∷ h) r
did_callback over into h (FinalizationRegistry to n) vs a r legal lawful =
    subst (λ a. callback_after (registry_made_by n a) r (callback h r) ≡ callback (Did (FinalizationRegistry to n, vs, a) ∷ h) r) (is_result over h (FinalizationRegistry to n) vs silence a lawful.1)
    (new_callback h to n vs r)
did_callback over into h (Register x y v t) vs a r legal lawful =
    ap (λ c. callback_after c r (callback h r)) (registers_change x y v t vs a) ∙ registered_callback (registers_by (Register x y v t) vs) r (callback h r)
    ∙ same_callback over into h (Register x y v t) vs a r legal lawful refl
did_callback over into h (Unregister to x t) vs a r legal lawful = unregister_callback to x t vs a r (callback h r) ∙ same_callback over into h (Unregister to x t) vs a r legal lawful refl
did_callback over into h c vs a r legal lawful = same_callback over into h c vs a r legal lawful refl

ended_callback : (again : Option ℕ) (r : ℕ) (before : Option ℕ) → callback_after (option_map_or Queues again Leaves) r before ≡ before
ended_callback None r before = refl
ended_callback (Some q) r before = refl

-- what is received is no registry
received_callback : (over : Buffers) (into : Receivers) (h : History) (t : ℕ) (v : Value) (r : ℕ) → LegalBy over into h → Lawful over into h (Received t v) → callback h r ≡ callback (Received t v ∷ h) r
received_callback over into h t v r legal lawful =
    at_either (λ k. callback h r ≡ option_and_then callback_in k) (λ i j. i == j) r (born (Received t v)) (kind h r)
    (λ q s m.
    let next : made h + 1 ≡ r = born_next over into h (Received t v) q lawful s ∙ eqb-true q.0 r m in
    ap (option_and_then callback_in) (subst (λ i. kind h i ≡ None) next (next_kind over into h legal)) ∙ sym (ap (option_and_then callback_in) (received v q s).0))
    refl

pub callback_next : (over : Buffers) (into : Receivers) (h : History) (e : Event) (r : ℕ) → LegalBy over into h → Lawful over into h e → callback_after (change (again_at h) e) r (callback h r) ≡ callback (e ∷ h) r
callback_next over into h (Received t v) r legal lawful = received_callback over into h t v r legal lawful
callback_next over into h (Did (c, vs, a)) r legal lawful = did_callback over into h c vs a r legal lawful
callback_next over into h JobEnded r legal lawful = ended_callback (again_at h) r (callback h r)
callback_next over into h e r legal lawful = refl
