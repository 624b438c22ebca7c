-- The slots of registrations after one more event, and after values were emptied.
use Rattle.std.proofs.Common.{◌≡◌, ℕ, suc, ◌+◌, ◌-◌, ◌<◌, ◌≤◌, ◌==◌, ◌&&◌, Bool, true, false, cond, sym, ◌∙◌, ap, refl, arith, length, List, [], ◌∷◌, ◌++◌, map, Option, Some, None, inl, inr}
use Rattle.std.specs.Prelude.{unwrap_or, slice_set}
use Rattle.std.specs.List.{range_with_len}
use Rattle.std.specs.Option.{option_map, option_map_or}
use Rattle.std.proofs.lemmas.Bool.{eqb-true, cases_Bool}
use Rattle.std.proofs.lemmas.List.FromFn.{length-map-range_with_len}
use Rattle.es_value.specs.declared.value.Value.{Value}
use Rattle.es_value.specs.declared.value.Value.TheVariants.{Object}
use Rattle.es_event.specs.declared.event.Answer.{Answer}
use Rattle.es_event.specs.declared.event.Event.{Event}
use Rattle.es_event.specs.declared.event.Event.TheVariants.{Did, Emptied, Taken}
use Rattle.es_event.specs.declared.command.Command.{Command}
use Rattle.es_event.specs.declared.command.Command.TheVariants.{Unregister}
use Rattle.es_event.specs.Sharing.{Buffers}
use Rattle.es_event.specs.History.{History}
use Rattle.es_event.specs.Identities.{identity, is_in, is_gone, empties}
use Rattle.es_event.specs.Jobs.{Receivers}
use Rattle.es_event.specs.Registrations.{Cell, Fate, live, awaiting, unregistered, taken, same_fate, is_present, has_token, is_under, registers, registered, registrations, unregisters_by, removes, cell, fate}
use Rattle.es_event.specs.Legal.{LegalBy}
use Rattle.es_event.proofs.Cells.{cell_before, cell_new, registered_same, registered_next, fate_stays, fate_left, fate_under, fate_taken, fate_untaken, fate_emptied, fate_new}
use Rattle.es_registry.specs.declared.slot.Slot.{Slot}
use Rattle.es_registry.specs.declared.slot.Slot.TheVariants.{Present, Unregistered as UnregisteredSlot, Taken as TakenSlot}
use Rattle.es_registry.specs.Slots.{unregistered_by, emptied}
use Rattle.es_registry.specs.Registries.{registered as registered_slot}
use Rattle.es_tables.specs.Tables.{slot_of, slot_said}
use Rattle.es_tables.proofs.Numbered.{map_same, map_more, map_set, map_map}

-- the slots of all registrations by the history
abbrev pub slots : History → List Slot
slots h = map (slot_said h) (registrations h)

-- the slot of a registration of this fate, if there is a cell
abbrev pub slot_at : ℕ → Fate → Option Cell → Slot
slot_at n f k = unwrap_or (option_map (slot_of n f) k) TakenSlot

pub count_slots : (h : History) → length (slots h) ≡ registered h
count_slots h = length-map-range_with_len (slot_said h) 1 (registered h)

within : (i n : ℕ) → i < 1 + n → i ≤ n
within i n l = omega (arith, l)

same_slot : (g h : History) (n : ℕ) → fate g n ≡ fate h n → cell g n ≡ cell h n → slot_said g n ≡ slot_said h n
same_slot g h n f k = ap (λ f. slot_at n f (cell g n)) f ∙ ap (slot_at n (fate h n)) k

-- slots that change by number
by_number : (e : Event) (h : History) (f : ℕ → Slot) → registered (e ∷ h) ≡ registered h → ((n : ℕ) → 1 ≤ n → n ≤ registered h → f n ≡ slot_said (e ∷ h) n)
    → map f (registrations h) ≡ slots (e ∷ h)
by_number e h f same each =
    map_same f (slot_said (e ∷ h)) 1 (registered h) (λ i l m. each i l (within i (registered h) m))
    ∙ ap (λ n. map (slot_said (e ∷ h)) (range_with_len 1 n)) (sym same)

-- an event that registers, takes out and empties nothing
pub slots_same : (e : Event) (h : History) → registers e ≡ None → empties e ≡ [] → ((n : ℕ) → removes n h e ≡ None) → slots h ≡ slots (e ∷ h)
slots_same e h none nothing stays =
    by_number e h (slot_said h) (registered_same e h none) (λ n l m. sym (same_slot (e ∷ h) h n (fate_stays e h n m nothing (stays n)) (cell_before e h n m)))

-- a registration adds its slot
pub slots_registered : (over : Buffers) (into : Receivers) (h : History) (c : Command) (vs : List Value) (r : Answer) (k : Cell) → LegalBy over into (Did (c, vs, r) ∷ h)
    → registers (Did (c, vs, r)) ≡ Some k → is_gone h k.target ≡ false → ((n : ℕ) → unregisters_by c vs h n ≡ false)
    → slots h ++ registered_slot k.registry k.target k.held k.token (length (slots h) + 1) ∷ [] ≡ slots (Did (c, vs, r) ∷ h)
slots_registered over into h c vs r k legal new here stays =
    let e : Event = Did (c, vs, r) in
    let next : 1 + registered h ≡ registered h + 1 = omega arith in
    let more : suc (registered h) ≡ registered (e ∷ h) = omega (arith, registered_next e h k new) in
    let last : registered_slot k.registry k.target k.held k.token (registered h + 1) ≡ slot_said (e ∷ h) (registered h + 1) =
    sym (ap (λ f. slot_at (registered h + 1) f (cell (e ∷ h) (registered h + 1))) (fate_new over into h c vs r k legal new here)
    ∙ ap (slot_at (registered h + 1) live) (cell_new e h k new)) in
    let before : slots h ≡ map (slot_said (e ∷ h)) (range_with_len 1 (registered h)) =
    map_same (slot_said h) (slot_said (e ∷ h)) 1 (registered h)
    (λ i l m. let i_in = within i (registered h) m in sym (same_slot (e ∷ h) h i (fate_left c vs r h i i_in (stays i)) (cell_before e h i i_in))) in
    ap (λ n. slots h ++ registered_slot k.registry k.target k.held k.token (n + 1) ∷ []) (count_slots h)
    ∙ (ap (λ s. slots h ++ s ∷ []) last
    ∙ (ap (λ ss. ss ++ slot_said (e ∷ h) (registered h + 1) ∷ []) before
    ∙ (ap (λ n. map (slot_said (e ∷ h)) (range_with_len 1 (registered h)) ++ slot_said (e ∷ h) n ∷ []) (sym next)
    ∙ (sym (map_more (slot_said (e ∷ h)) 1 (registered h))
    ∙ ap (λ n. map (slot_said (e ∷ h)) (range_with_len 1 n)) more))))

-- what an unregister takes out
if_under : (b : Bool) (n o t : ℕ) (f : Fate) (c : Cell) → is_present f ≡ true → has_token o t c ≡ b → unregistered_by o t (slot_of n f c) ≡ slot_of n (cond b unregistered f) c
if_under true n o t live c is e = ap (λ b. cond b UnregisteredSlot (slot_of n live c)) e
if_under false n o t live c is e = ap (λ b. cond b UnregisteredSlot (slot_of n live c)) e
if_under true n o t awaiting c is e = ap (λ b. cond b UnregisteredSlot (slot_of n awaiting c)) e
if_under false n o t awaiting c is e = ap (λ b. cond b UnregisteredSlot (slot_of n awaiting c)) e
if_under b n o t unregistered c is e = cc
if_under b n o t taken c is e = cc

under_slot : (n o t : ℕ) (f : Fate) (k : Option Cell) → unregistered_by o t (slot_at n f k) ≡ slot_at n (cond (is_present f && option_map_or (has_token o t) k false) unregistered f) k
under_slot n o t f None = refl
under_slot n o t live (Some c) = if_under (has_token o t c) n o t live c refl refl
under_slot n o t awaiting (Some c) = if_under (has_token o t c) n o t awaiting c refl refl
under_slot n o t unregistered (Some c) = refl
under_slot n o t taken (Some c) = refl

pub slots_unregistered : (to q x : List ℕ) (o t : ℕ) (w : Value) (r : Answer) (h : History) → identity w ≡ Some t
    → map (unregistered_by o t) (slots h) ≡ slots (Did (Unregister to q x, Object o ∷ w ∷ [], r) ∷ h)
slots_unregistered to q x o t w r h token =
    let e : Event = Did (Unregister to q x, Object o ∷ w ∷ [], r) in
    map_map (unregistered_by o t) (slot_said h) (registrations h)
    ∙ by_number e h (λ n. unregistered_by o t (slot_said h n)) (registered_same e h refl)
    (λ n l m. under_slot n o t (fate h n) (cell h n)
    ∙ (ap (λ k. slot_at n (cond (is_present (fate h n) && is_under h o t n) unregistered (fate h n)) k) (sym (cell_before e h n m))
    ∙ ap (λ f. slot_at n f (cell (e ∷ h) n)) (sym (fate_under to q x o t w r h n m token))))

-- what is taken
taken_slot : (n : ℕ) (k : Option Cell) → slot_at n taken k ≡ TakenSlot
taken_slot n None = refl
taken_slot n (Some c) = refl

pub slots_taken : (h : History) (n : ℕ) (v : Value) → 0 < n → n ≤ registered h → is_present (fate h n) ≡ true → slice_set (slots h) (n - 1) TakenSlot ≡ slots (Taken n v ∷ h)
slots_taken h n v low high is =
    let e : Event = Taken n v in
    let place : 1 + (n - 1) ≡ n = omega (arith, low) in
    let here : TakenSlot ≡ slot_said (e ∷ h) (1 + (n - 1)) =
    sym (ap (slot_said (e ∷ h)) place ∙ (ap (λ f. slot_at n f (cell (e ∷ h) n)) (fate_taken h n v is) ∙ taken_slot n (cell (e ∷ h) n))) in
    map_set (slot_said h) (slot_said (e ∷ h)) 1 (registered h) (n - 1) TakenSlot (omega (arith, low, high)) here
    (λ i l m other. sym (same_slot (e ∷ h) h i (fate_untaken h n i v (untaken n i (λ same. other (sym same ∙ sym place)))) (cell_before e h i (within i (registered h) m))))
    ∙ ap (λ k. map (slot_said (e ∷ h)) (range_with_len 1 k)) (sym (registered_same e h refl))
  where
    untaken : (n i : ℕ) → (n ≡ i → ⊥) → (n == i) ≡ false
    untaken n i other = elim (cases_Bool (n == i)) [ inl t ↦ absurd (other (eqb-true n i t)) | inr f ↦ f ]

-- what is emptied
emptied_slot : (b : Bool) (ids : List ℕ) (n : ℕ) (f : Fate) (c : Cell) → is_in ids c.target ≡ b → emptied ids (slot_of n f c) ≡ slot_of n (cond (same_fate f live && b) awaiting f) c
emptied_slot true ids n live c e = ap (λ b. Present (record { registry = c.registry; target = cond b None (Some c.target); token = c.token; cell = record { registration = n; held = c.held } })) e
emptied_slot false ids n live c e = ap (λ b. Present (record { registry = c.registry; target = cond b None (Some c.target); token = c.token; cell = record { registration = n; held = c.held } })) e
emptied_slot b ids n awaiting c e = refl
emptied_slot b ids n unregistered c e = refl
emptied_slot b ids n taken c e = refl

slot_emptied : (ids : List ℕ) (h : History) (n : ℕ) (k : Option Cell) → cell h n ≡ k → 0 < n → n ≤ registered h → emptied ids (slot_at n (fate h n) k) ≡ slot_at n (fate (Emptied ids ∷ h) n) k
slot_emptied ids h n None at low high = refl
slot_emptied ids h n (Some c) at low high =
    emptied_slot (is_in ids c.target) ids n (fate h n) c refl ∙ ap (λ f. slot_of n f c) (sym (fate_emptied ids h n c at))

pub slots_emptied : (ids : List ℕ) (h : History) → map (emptied ids) (slots h) ≡ slots (Emptied ids ∷ h)
slots_emptied ids h =
    map_map (emptied ids) (slot_said h) (registrations h)
    ∙ by_number (Emptied ids) h (λ n. emptied ids (slot_said h n)) (registered_same (Emptied ids) h refl) (λ n l m. slot_emptied ids h n (cell h n) refl l m)
