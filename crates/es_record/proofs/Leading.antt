-- What an agent's tables tell of what leads to its values is what its history says.
use Rattle.std.proofs.Common.{◌≡◌, ℕ, ◌+◌, ◌-◌, ◌<◌, ◌==◌, Bool, true, false, cond, sym, ◌∙◌, ap, refl, subst, arith, List, [], ◌∷◌, ◌++◌, map, length, Option, Some, None, inl, inr}
use Rattle.std.specs.Prelude.{is_some, nat_eq, slice_get, unwrap_or}
use Rattle.std.specs.List.{AllByRecursion, IsDistinct}
use Rattle.std.specs.Map.{lookup}
use Rattle.std.specs.Option.{option_and_then}
use Rattle.std.specs.Str.{bytes_eq}
use Rattle.std.proofs.lemmas.Bool.{cases_Bool, cases_lt, or_left, or_right, eq-eqb}
use Rattle.std.proofs.lemmas.Option.{slice_get_past}
use Rattle.std.proofs.lemmas.Slice.Eq.{bytes_eq-Decides}
use Rattle.es_value.specs.declared.value.Value.{Value}
use Rattle.es_value.specs.declared.value.Value.TheVariants.{Undefined}
use Rattle.es_ephemeron.specs.Ephemerons.{holders, records_at}
use Rattle.es_ephemeron.proofs.CallerLemmas.{all_records-from_each, recorded_is_holder}
use Rattle.es_event.specs.History.{History}
use Rattle.es_event.specs.Identities.{identity, is_in, is_gone, is_there, kind}
use Rattle.es_event.specs.Jobs.{Receivers}
use Rattle.es_event.specs.Variables.{var}
use Rattle.es_event.specs.Properties.{has_key}
use Rattle.es_event.specs.Ephemerons.{entry, is_member}
use Rattle.es_event.specs.Registrations.{Cell, Fate, live, awaiting, unregistered, taken, cell, fate, registered}
use Rattle.es_event.proofs.Cells.{cell_within}
use Rattle.es_registry.specs.declared.slot.Slot.{Slot}
use Rattle.es_registry.specs.Slots.{held_identity, registration_of}
use Rattle.es_tables.specs.Tables.{TablesView, Says, slot_said}
use Rattle.es_tables.specs.Tags.{tag_said, tag_of}
use Rattle.es_tables.specs.declared.tags.Tag.{Tag}
use Rattle.es_tables.proofs.Numbered.{get_numbered}
use Rattle.es_tables.proofs.Slots.{slots, slot_at, count_slots}
use Rattle.es_record.specs.Leading.{held_in, held_of, registration_in, registration_said, AddsUnder, AddsSets}

-- Variables

swapped : (a b : List ℕ) → bytes_eq a b ≡ true → bytes_eq b a ≡ true
swapped a b e = (bytes_eq-Decides b a).1 (sym ((bytes_eq-Decides a b).0 e))

-- what is bound to a value with an identity has its name among the keys
named : (es : List (List ℕ × Value)) (x : List ℕ) (i : ℕ) → identity (unwrap_or (lookup (bytes_eq x) es) Undefined) ≡ Some i → has_key (map (λ e. e.0) es) x ≡ true
named [] x i e = cc
named (p ∷ es) x i e = elim (cases_Bool (bytes_eq x p.0)) [
  | inl s ↦ or_left (bytes_eq p.0 x) (has_key (map (λ e. e.0) es) x) (swapped x p.0 s)
  | inr s ↦ or_right (bytes_eq p.0 x) (has_key (map (λ e. e.0) es) x) (named es x i (rw s at e))
]

pub names_all : (into : Receivers) (h : History) (s : TablesView) → Says into h s → (ns : List (List ℕ)) → ns ≡ map (λ e. e.0) s.variables.entries → (x : List ℕ) (i : ℕ) → identity (var into h x) ≡ Some i → has_key ns x ≡ true
names_all into h s says ns is x i e = subst (λ (l : List (List ℕ)). has_key l x ≡ true) (sym is) (named s.variables.entries x i (ap identity (says.variables x) ∙ e))

-- What is there

tagged : (b : Bool) (t : Tag) → is_some (cond b (Some t) None) ≡ b
tagged true t = refl
tagged false t = refl

pub tag_there : (h : History) (i : ℕ) (o : Option Tag) → o ≡ tag_said h i → is_some o ≡ is_there h i
tag_there h i o is = ap is_some is ∙ tagged (is_there h i) (tag_of (kind h i))

-- Cells

pub registered_said : (into : Receivers) (h : History) (s : TablesView) → Says into h s → length s.registries.cells ≡ registered h
registered_said into h s says = ap length says.cells ∙ count_slots h

none_past : (h : History) (n : ℕ) → registered h < n → (k : Option Cell) → cell h n ≡ k → cell h n ≡ None
none_past h n l None e = e
none_past h n l (Some c) e = absurd (omega (arith, l, (cell_within h n c e).1))

-- what is read of the slot of a registration is what is said of its fate and its cell
module _ {A : Type 0} (read : Slot → Option A) (said : ℕ → Fate → Cell → Option A) (same : (n : ℕ) (f : Fate) (k : Option Cell) → read (slot_at n f k) ≡ option_and_then (said n f) k) where
  slots_read : (h : History) (n : ℕ) → 0 < n → option_and_then read (slice_get (slots h) (n - 1)) ≡ option_and_then (said n (fate h n)) (cell h n)
  slots_read h n positive = elim (cases_lt (n - 1) (registered h)) [
    | inl l ↦
        let here : 1 + (n - 1) ≡ n = omega (arith, positive) in
        ap (option_and_then read) (get_numbered (slot_said h) 1 (registered h) (n - 1) l)
        ∙ ap (λ (m : ℕ). read (slot_said h m)) here
        ∙ same n (fate h n) (cell h n)
    | inr g ↦
        ap (option_and_then read) (slice_get_past (slots h) (n - 1) (omega (arith, g, count_slots h)))
        ∙ sym (ap (option_and_then (said n (fate h n))) (none_past h n (omega (arith, positive, g)) (cell h n) refl))
  ]

  read_said : (into : Receivers) (h : History) (s : TablesView) → Says into h s → (n : ℕ) → 0 < n → option_and_then read (slice_get s.registries.cells (n - 1)) ≡ option_and_then (said n (fate h n)) (cell h n)
  read_said into h s says n positive = ap (λ (l : List Slot). option_and_then read (slice_get l (n - 1))) says.cells ∙ slots_read h n positive

held_slot : (n : ℕ) (f : Fate) (k : Option Cell) → held_identity (slot_at n f k) ≡ option_and_then (held_in f) k
held_slot n f None = refl
held_slot n live (Some c) = refl
held_slot n awaiting (Some c) = refl
held_slot n unregistered (Some c) = refl
held_slot n taken (Some c) = refl

pub held_said : (into : Receivers) (h : History) (s : TablesView) → Says into h s → (n : ℕ) → 0 < n → option_and_then held_identity (slice_get s.registries.cells (n - 1)) ≡ held_of h n
held_said into h s says n positive = read_said held_identity (λ m f c. held_in f c) held_slot into h s says n positive

registration_slot : (n : ℕ) (f : Fate) (k : Option Cell) → registration_of (slot_at n f k) ≡ option_and_then (registration_in n f) k
registration_slot n f None = refl
registration_slot n live (Some c) = refl
registration_slot n awaiting (Some c) = refl
registration_slot n unregistered (Some c) = refl
registration_slot n taken (Some c) = refl

pub registration_kept : (into : Receivers) (h : History) (s : TablesView) → Says into h s → (n : ℕ) → 0 < n → option_and_then registration_of (slice_get s.registries.cells (n - 1)) ≡ registration_said h n
registration_kept into h s says n positive = read_said registration_of registration_in registration_slot into h s says n positive

-- Entries

entry_recorded : (g : Bool) (o : Option Value) (v : Value) → cond g None o ≡ Some v → (g ≡ false) × (o ≡ Some v)
entry_recorded true o v e = cc
entry_recorded false o v e = (refl, e)

pub adds_under : (into : Receivers) (h : History) (s : TablesView) (k : ℕ) (old new : List (ℕ × Value)) → Says into h s → IsDistinct nat_eq (holders (records_at s.weak.entries.all k))
    → new ≡ old ++ records_at s.weak.entries.all k → AddsUnder h k old new
adds_under into h s k old new says distinct is = record {
  entries = records_at s.weak.entries.all k;
  added = is;
  only =
      all_records-from_each (λ m v. (is_gone h m ≡ false) × (entry h m k ≡ Some v)) s.weak.entries.all k distinct
      (λ m v e. entry_recorded (is_gone h m) (entry h m k) v (sym (says.entries m k) ∙ e));
  every = λ m v here e. says.entries m k ∙ ap (λ (g : Bool). cond g None (entry h m k)) here ∙ e;
  once = distinct;
}

-- Members

all_in : (P : ℕ → Type 0) (xs : List ℕ) → ((i : ℕ) → is_in xs i ≡ true → P i) → AllByRecursion P xs
all_in P [] each = tt
all_in P (x ∷ xs) each =
    (each x (or_left (x == x) (is_in xs x) (eq-eqb x x refl)), all_in P xs (λ i e. each i (or_right (x == i) (is_in xs i) e)))

member_recorded : (g m : Bool) → cond g false m ≡ true → (g ≡ false) × (m ≡ true)
member_recorded true m e = cc
member_recorded false m e = (refl, e)

pub adds_sets : (into : Receivers) (h : History) (s : TablesView) (v : ℕ) (old new : List ℕ) → Says into h s → IsDistinct nat_eq (holders (records_at s.weak.members.all v))
    → new ≡ old ++ holders (records_at s.weak.members.all v) → AddsSets h v old new
adds_sets into h s v old new says distinct is = record {
  sets = holders (records_at s.weak.members.all v);
  added = is;
  only =
      all_in (λ m. (is_gone h m ≡ false) × (is_member h m v ≡ true)) (holders (records_at s.weak.members.all v))
      (λ m e. member_recorded (is_gone h m) (is_member h m v) (sym (says.members m v) ∙ recorded_is_holder s.weak.members.all m v ∙ e));
  every = λ m here e. sym (recorded_is_holder s.weak.members.all m v) ∙ says.members m v ∙ ap (λ (g : Bool). cond g false (is_member h m v)) here ∙ e;
  once = distinct;
}
