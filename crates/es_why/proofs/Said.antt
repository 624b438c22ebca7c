-- What an agent's record gives is what its history says.
use Rattle.std.proofs.Common.{◌≡◌, ℕ, Bool, true, false, sym, ◌∙◌, ap, subst, List, [], ◌++◌, Option, Some, None, refl, if◌then◌else◌}
use Rattle.std.specs.Option.{option_and_then, option_map_or}
use Rattle.std.specs.Io.KnownBytes.{Appends}
use Rattle.std.proofs.KnownBytes.{Appends-nil}
use Rattle.es_value.specs.declared.value.Value.{Value}
use Rattle.es_event.specs.Commands.{Kind, ordinary, weakref_to, weak_map, weak_set, registry_of, shared_buffer}
use Rattle.es_event.specs.History.{History}
use Rattle.es_event.specs.Identities.{kind, is_there}
use Rattle.es_event.specs.Registrations.{Cell, Fate, live, awaiting, unregistered, taken, cell, fate}
use Rattle.es_tables.specs.Tags.{tag_of, tag_said}
use Rattle.es_record.specs.Leading.{AddsSets, AddsUnder, registration_in, registration_said}
use Rattle.es_why.specs.Lines.{thing_line}
use Rattle.es_why.specs.Picture.{cell_lines, registration_at, thing_at, AreEntries, AreSets, IsAround}
use Rattle.es_why.specs.Written.{registration_line, tagged_line}
use Rattle.es_why.proofs.Ranged.{WritesAround}

-- Tags

tagged_if : (i : ℕ) (b : Bool) (k : Option Kind) → tagged_line i (if b then Some (tag_of k) else None) ≡ (if b then thing_line i k else [])
tagged_if i false k = refl
tagged_if i true None = refl
tagged_if i true (Some ordinary) = refl
tagged_if i true (Some (weakref_to v)) = refl
tagged_if i true (Some weak_map) = refl
tagged_if i true (Some weak_set) = refl
tagged_if i true (Some (registry_of c)) = refl
tagged_if i true (Some shared_buffer) = refl

pub tagged_said : (h : History) (i : ℕ) → tagged_line i (tag_said h i) ≡ thing_at h i
tagged_said h i = tagged_if i (is_there h i) (kind h i)

-- Registrations

registered_in : (n : ℕ) (f : Fate) (o : Option Cell) → registration_line n (option_and_then (registration_in n f) o) ≡ option_map_or (cell_lines f n) o []
registered_in n f None = refl
registered_in n live (Some c) = refl
registered_in n awaiting (Some c) = refl
registered_in n unregistered (Some c) = refl
registered_in n taken (Some c) = refl

pub registered_said : (h : History) (n : ℕ) → registration_line n (registration_said h n) ≡ registration_at h n
registered_said h n = registered_in n (fate h n) (cell h n)

-- Entries and WeakSets

pub added_entries : (h : History) (k : ℕ) (old new : List (ℕ × Value)) → old ≡ [] → AddsUnder h k old new → AreEntries h k new
added_entries h k old new none a =
    let same : new ≡ a.entries = a.added ∙ ap (λ (l : List (ℕ × Value)). l ++ a.entries) none in
    subst (AreEntries h k) (sym same) (record { only = a.only; every = a.every; once = a.once })

pub added_sets : (h : History) (i : ℕ) (old new : List ℕ) → old ≡ [] → AddsSets h i old new → AreSets h i new
added_sets h i old new none a =
    let same : new ≡ a.sets = a.added ∙ ap (λ (l : List ℕ). l ++ a.sets) none in
    subst (AreSets h i) (sym same) (record { only = a.only; every = a.every; once = a.once })

-- Around

pub there_around : (h : History) (i : ℕ) (a b : Option (List ℕ)) → is_there h i ≡ true → (text : List ℕ) × IsAround h i text × Appends a b text → WritesAround h i a b
there_around h i a b there w = (w.0, record { there = λ e. w.1; not_there = λ e. cc }, w.2)

pub nothing_around : (h : History) (i : ℕ) (a : Option (List ℕ)) → is_there h i ≡ false → WritesAround h i a a
nothing_around h i a gone = ([], record { there = λ e. cc; not_there = λ e. refl }, Appends-nil a)
