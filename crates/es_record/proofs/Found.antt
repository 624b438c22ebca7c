-- What an agent's tables find is what its graph asks for.
use Rattle.std.proofs.Common.{◌≡◌, ℕ, arith, map, ◌<◌, ◌≤◌, ◌==◌, ◌&&◌, ◌||◌, Bool, true, false, cond, nat_lt, nat_le, sym, ◌∙◌, ap, refl, subst, List, [], ◌∷◌, ◌++◌, Option, Some, None, inl, inr, reverse}
use Rattle.std.specs.Prelude.{is_some}
use Rattle.std.specs.List.{AllByRecursion, list_any}
use Rattle.std.specs.Option.{option_and_then}
use Rattle.std.proofs.lemmas.Bool.{ltb-true, leb-true, lt-ltb, le-leb, and_parts, and_from, eqb-true, eq-eqb, or_cases, or_left, or_right, false≢true}
use Rattle.std.proofs.lemmas.List.{reverse-append}
use Rattle.std.proofs.lemmas.List.Folds.{list_any-append}
use Rattle.es_value.specs.declared.value.Value.{Value}
use Rattle.es_props.specs.Heap.{Properties, object, property, value_at, HasProperties}
use Rattle.es_event.specs.Commands.{Kind, ordinary, weakref_to, weak_map, weak_set, registry_of, shared_buffer}
use Rattle.es_event.specs.History.{History}
use Rattle.es_event.specs.Identities.{identity, made, is_gone, is_there, is_in, kind}
use Rattle.es_event.specs.Jobs.{Receivers, receivers}
use Rattle.es_event.specs.Ephemerons.{entry}
use Rattle.es_tables.specs.Found.{record_at}
use Rattle.es_event.specs.Sharing.{Buffers}
use Rattle.es_event.specs.Legal.{LegalBy}
use Rattle.es_event.proofs.Keeping.{kept_within}
use Rattle.es_event.proofs.Objects.{object_within, var_within, prop_within, map_within, value_within}
use Rattle.es_mark.specs.Graph.{IsNumbered, HasAll, Finds, FindsEntries}
use Rattle.es_record.specs.AgentView.{AgentView}
use Rattle.es_tables.specs.Found.{Adds, HasHeld, AddsEntries, HasEntered}
use Rattle.es_record.specs.Graph.{HasRoots, HasEdges, HasEntries}
use Rattle.es_tables.specs.Tags.{tag_at, tag_of, is_tag}
use Rattle.es_tables.specs.declared.tags.Tag.{Tag}
use Rattle.es_tables.specs.declared.tags.Tag.TheVariants.{WeakRef as WeakRefTag, WeakMap as WeakMapTag, WeakSet as WeakSetTag, FinalizationRegistry as RegistryTag, SharedArrayBuffer as BufferTag}
use Rattle.es_record.specs.Tagged.{is_of}
use Rattle.es_tables.specs.Tables.{TablesView, Says, slot_said}
use Rattle.es_registry.specs.declared.slot.Slot.{Slot}
use Rattle.es_registry.specs.Slots.{is_this, holds}
use Rattle.es_registry.specs.Registries.{callback as callback_kept}
use Rattle.es_event.specs.Registrations.{Cell, Fate, live, awaiting, unregistered, taken, is_present, registered, registrations, cell, fate}
use Rattle.es_event.proofs.Cells.{cell_within}
use Rattle.es_event.proofs.Registries.{holding_within}
use Rattle.es_event.proofs.Rising.{in_numbers}
use Rattle.es_tables.proofs.Found.{all_each, each_all}
use Rattle.es_tables.proofs.Slots.{slot_at}
use Rattle.es_record.proofs.Reached.{both_of, here_of, is_within, called_within}

-- Lists

or_swapped : (a b : Bool) → (a || b) ≡ (b || (a || false))
or_swapped true true = refl
or_swapped true false = refl
or_swapped false true = refl
or_swapped false false = refl

in_reverse : (xs : List ℕ) (i : ℕ) → is_in xs i ≡ is_in (reverse xs) i
in_reverse [] i = refl
in_reverse (x ∷ xs) i =
    ap (λ b. (x == i) || b) (in_reverse xs i)
    ∙ or_swapped (x == i) (is_in (reverse xs) i)
    ∙ sym (ap (λ l. is_in l i) (reversed x xs) ∙ list_any-append (λ j. j == i) (reverse xs) (x ∷ []))
  where
    reversed : (x : ℕ) (xs : List ℕ) → reverse (x ∷ xs) ≡ reverse xs ++ x ∷ []
    reversed x xs = reverse-append (x ∷ []) xs

-- What was made, as a test

abbrev pub is_numbered : ℕ → ℕ → Bool
is_numbered n i = nat_lt 0 i && nat_le i n

numbered_from : (n i : ℕ) → (0 < i) × (i ≤ n) → is_numbered n i ≡ true
numbered_from n i within = and_from (nat_lt 0 i) (nat_le i n) (lt-ltb 0 i within.0) (le-leb i n within.1)

all_numbered : (n : ℕ) (ids : List ℕ) → HasAll ids (is_numbered n) → AllByRecursion (IsNumbered n) ids
all_numbered n [] all = tt
all_numbered n (i ∷ ids) all = let parts = and_parts (nat_lt 0 i) (nat_le i n) all.0 in ((ltb-true 0 i parts.0, leb-true i n parts.1), all_numbered n ids all.1)

-- Roots

-- the registries and the values that cells hold, as the table has them

some_called : (c : Option ℕ) → is_some c ≡ true → (k : ℕ) × (c ≡ Some k)
some_called None e = cc
some_called (Some k) e = (k, refl)

this_one : (i : ℕ) (o : Option ℕ) → is_this i o ≡ true → o ≡ Some i
this_one i None e = cc
this_one i (Some j) e = ap Some (eqb-true j i e)

holds_at : (i n : ℕ) (f : Fate) (k : Option Cell) → holds i (slot_at n f k) ≡ true → (c : Cell) × (k ≡ Some c) × (is_present f ≡ true) × (identity c.held ≡ Some i)
holds_at i n f None e = cc
holds_at i n live (Some c) e = (c, refl, refl, this_one i (identity c.held) e)
holds_at i n awaiting (Some c) e = (c, refl, refl, this_one i (identity c.held) e)
holds_at i n unregistered (Some c) e = cc
holds_at i n taken (Some c) e = cc

held_at : (i n : ℕ) (f : Fate) (k : Option Cell) (c : Cell) → k ≡ Some c → is_present f ≡ true → identity c.held ≡ Some i → holds i (slot_at n f k) ≡ true
held_at i n live k c at p is = ap (λ k. holds i (slot_at n live k)) at ∙ (ap (is_this i) is ∙ eq-eqb i i refl)
held_at i n awaiting k c at p is = ap (λ k. holds i (slot_at n awaiting k)) at ∙ (ap (is_this i) is ∙ eq-eqb i i refl)
held_at i n unregistered k c at p is = cc
held_at i n taken k c at p is = cc

some_slot : (f : ℕ → Slot) (p : Slot → Bool) (xs : List ℕ) → list_any p (map f xs) ≡ true → (n : ℕ) × (p (f n) ≡ true)
some_slot f p [] e = absurd (false≢true e)
some_slot f p (x ∷ xs) e = elim (or_cases (p (f x)) (list_any p (map f xs)) e) [ inl a ↦ (x, a) | inr b ↦ some_slot f p xs b ]

slot_passes : (f : ℕ → Slot) (p : Slot → Bool) (xs : List ℕ) (n : ℕ) → is_in xs n ≡ true → p (f n) ≡ true → list_any p (map f xs) ≡ true
slot_passes f p [] n e is = absurd (false≢true e)
slot_passes f p (x ∷ xs) n e is = elim (or_cases (x == n) (is_in xs n) e) [
  | inl s ↦ or_left (p (f x)) (list_any p (map f xs)) (subst (λ m. p (f m) ≡ true) (sym (eqb-true x n s)) is)
  | inr r ↦ or_right (p (f x)) (list_any p (map f xs)) (slot_passes f p xs n r is)
]

roots_held : (b : AgentView) (s : TablesView) (t : ℕ → Bool) → Says (receivers b.plan.jobs) b.history s → HasRoots b t → HasHeld s t
roots_held b s t says roots = record {
  variables = λ x i e. roots.variables x i (ap identity (sym (says.variables x)) ∙ e);
  kept = each_all t s.weakrefs.kept (λ i e. roots.kept i (ap (λ l. is_in l i) (sym says.kept) ∙ sym (in_reverse s.weakrefs.kept i) ∙ e));
  registries = λ i e. elim (or_cases (is_some (callback_kept s.registries i)) (list_any (holds i) s.registries.cells) e) [
    | inl a ↦ let c = some_called (callback_kept s.registries i) a in roots.registries i c.0 (sym (says.callbacks i) ∙ c.1)
    | inr a ↦
        let at = some_slot (slot_said b.history) (holds i) (registrations b.history) (ap (list_any (holds i)) (sym says.cells) ∙ a) in
        let held = holds_at i at.0 (fate b.history at.0) (cell b.history at.0) at.1 in
        roots.cells at.0 held.0 i held.1 held.2 held.3
  ];
}

held_roots : (b : AgentView) (s : TablesView) (t : ℕ → Bool) → Says (receivers b.plan.jobs) b.history s → HasHeld s t → HasRoots b t
held_roots b s t says held = record {
  variables = λ x i e. held.variables x i (ap identity (says.variables x) ∙ e);
  kept = λ i e. all_each t s.weakrefs.kept held.kept i (in_reverse s.weakrefs.kept i ∙ ap (λ l. is_in l i) says.kept ∙ e);
  registries = λ r c e. held.registries r (or_left (is_some (callback_kept s.registries r)) (list_any (holds r) s.registries.cells) (ap is_some (says.callbacks r ∙ e)));
  cells = λ n c i e p is.
      let within = cell_within b.history n c e in
      held.registries i (or_right (is_some (callback_kept s.registries i)) (list_any (holds i) s.registries.cells)
      (ap (list_any (holds i)) says.cells
      ∙ slot_passes (slot_said b.history) (holds i) (registrations b.history) n (in_numbers 1 (registered b.history) n (omega (arith, within.0)) (omega (arith, within.1)))
      (held_at i n (fate b.history n) (cell b.history n) c e p is)));
}

pub finds_roots : (over : Buffers) (b : AgentView) (s : TablesView) (old new : List ℕ) → LegalBy over (receivers b.plan.jobs) b.history → Says (receivers b.plan.jobs) b.history s
    → Adds (HasHeld s) old new → Finds (made b.history) (HasRoots b) old new
finds_roots over b s old new legal says adds =
    let into = receivers b.plan.jobs in
    let numbered : HasRoots b (is_numbered (made b.history)) = record {
      variables = λ x i e. numbered_from (made b.history) i (var_within over into b.history legal x i e);
      kept = λ i e. numbered_from (made b.history) i (kept_within over into b.history legal i e);
      registries = λ r c e. numbered_from (made b.history) r (called_within over into b.history legal r c e);
      cells = λ n c i e p is. numbered_from (made b.history) i (holding_within over into b.history legal n c i e is);
    } in
    record {
      ids = adds.ids;
      added = adds.added;
      numbered = all_numbered (made b.history) adds.ids (adds.only (is_numbered (made b.history)) (roots_held b s (is_numbered (made b.history)) says numbered));
      only = λ t roots. adds.only t (roots_held b s t says roots);
      all = λ t all. held_roots b s t says (adds.all t all);
    }

-- Edges

-- what has a property is there
owner_there : (over : Buffers) (into : Receivers) (h : History) (s : TablesView) → LegalBy over into h → Says into h s → (o : ℕ) (k : List ℕ) (v : Value) → property s.heap o k ≡ Some v → is_there h o ≡ true
owner_there over into h s legal says o k v e =
    let parts = both_of (is_some (kind h o)) (is_gone h o) (sym (says.objects o) ∙ has_property (object s.heap o) e) in
    is_within h o (object_within over into h legal o parts.0) parts.1
  where
    has_property : (ps : Option Properties) → option_and_then (λ ps. value_at ps k) ps ≡ Some v → is_some ps ≡ true
    has_property None e = cc
    has_property (Some ps) e = refl

pub finds_edges : (over : Buffers) (b : AgentView) (s : TablesView) (o : ℕ) (old new : List ℕ) → LegalBy over (receivers b.plan.jobs) b.history → Says (receivers b.plan.jobs) b.history s
    → Adds (HasProperties s.heap o) old new → Finds (made b.history) (HasEdges b o) old new
finds_edges over b s o old new legal says adds =
    let into = receivers b.plan.jobs in
    let properties_of : (t : ℕ → Bool) → HasEdges b o t → HasProperties s.heap o t = λ t has k v i e is.
    let there = owner_there over into b.history s legal says o k v e in
    has there k v i (sym (says.properties o k (here_of b.history o there)) ∙ e) is in
    let edges_of : (t : ℕ → Bool) → HasProperties s.heap o t → HasEdges b o t = λ t has there k v i e is.
    has k v i (says.properties o k (here_of b.history o there) ∙ e) is in
    record {
      ids = adds.ids;
      added = adds.added;
      numbered = all_numbered (made b.history) adds.ids (adds.only (is_numbered (made b.history))
          (properties_of (is_numbered (made b.history)) (λ there k v i e is. numbered_from (made b.history) i (prop_within over into b.history legal o k v i e is))));
      only = λ t has. adds.only t (properties_of t has);
      all = λ t all. edges_of t (adds.all t all);
    }

-- Entries

-- an entry that is recorded is one of the history, and its WeakMap is there
entry_recorded : (g : Bool) (o : Option Value) (v : Value) → cond g None o ≡ Some v → (g ≡ false) × (o ≡ Some v)
entry_recorded true o v e = cc
entry_recorded false o v e = (refl, e)

recorded_entry : (into : Receivers) (h : History) (s : TablesView) → Says into h s → (m k : ℕ) (v : Value) → record_at s.weak.entries.all m k ≡ Some v → (is_gone h m ≡ false) × (entry h m k ≡ Some v)
recorded_entry into h s says m k v e = entry_recorded (is_gone h m) (entry h m k) v (sym (says.entries m k) ∙ e)

numbered_values : (over : Buffers) (into : Receivers) (h : History) (s : TablesView) (k : ℕ) → LegalBy over into h → Says into h s → (es : List (ℕ × Value))
    → AllByRecursion (λ e. record_at s.weak.entries.all e.0 k ≡ Some e.1) es → AllByRecursion (λ e. (i : ℕ) → identity e.1 ≡ Some i → IsNumbered (made h) i) es
numbered_values over into h s k legal says [] recorded = tt
numbered_values over into h s k legal says (e ∷ es) recorded =
    (λ i is. value_within over into h legal e.0 k e.1 i (recorded_entry into h s says e.0 k e.1 recorded.0).1 is, numbered_values over into h s k legal says es recorded.1)

pub finds_entries : (over : Buffers) (b : AgentView) (s : TablesView) (k : ℕ) (old new : List (ℕ × Value)) → LegalBy over (receivers b.plan.jobs) b.history → Says (receivers b.plan.jobs) b.history s
    → AddsEntries s.weak.entries.all k old new → FindsEntries (made b.history) (HasEntries b k) old new
finds_entries over b s k old new legal says adds =
    let into = receivers b.plan.jobs in
    let entered_of : (t : ℕ → Bool) → HasEntries b k t → HasEntered s.weak.entries.all k t = λ t has m v map e i is.
    let was = recorded_entry into b.history s says m k v e in
    has m v i (is_within b.history m (map_within over into b.history legal m k v was.1) was.0) map was.1 is in
    let entries_of : (t : ℕ → Bool) → HasEntered s.weak.entries.all k t → HasEntries b k t = λ t has m v i there map e is.
    has m v map (says.entries m k ∙ ap (λ g. cond g None (entry b.history m k)) (here_of b.history m there) ∙ e) i is in
    record {
      entries = adds.entries;
      added = adds.added;
      numbered = numbered_values over into b.history s k legal says adds.entries adds.recorded;
      only = λ t has. adds.only t (entered_of t has);
      all = λ t every. entries_of t (adds.all_of t every);
    }

-- What has a tag

tag_tells : (t : Tag) (k : Option Kind) → is_tag t (Some (tag_of k)) ≡ is_of t k
tag_tells WeakRefTag None = refl
tag_tells WeakRefTag (Some ordinary) = refl
tag_tells WeakRefTag (Some (weakref_to v)) = refl
tag_tells WeakRefTag (Some weak_map) = refl
tag_tells WeakRefTag (Some weak_set) = refl
tag_tells WeakRefTag (Some (registry_of c)) = refl
tag_tells WeakRefTag (Some shared_buffer) = refl
tag_tells WeakMapTag None = refl
tag_tells WeakMapTag (Some ordinary) = refl
tag_tells WeakMapTag (Some (weakref_to v)) = refl
tag_tells WeakMapTag (Some weak_map) = refl
tag_tells WeakMapTag (Some weak_set) = refl
tag_tells WeakMapTag (Some (registry_of c)) = refl
tag_tells WeakMapTag (Some shared_buffer) = refl
tag_tells WeakSetTag None = refl
tag_tells WeakSetTag (Some ordinary) = refl
tag_tells WeakSetTag (Some (weakref_to v)) = refl
tag_tells WeakSetTag (Some weak_map) = refl
tag_tells WeakSetTag (Some weak_set) = refl
tag_tells WeakSetTag (Some (registry_of c)) = refl
tag_tells WeakSetTag (Some shared_buffer) = refl
tag_tells RegistryTag None = refl
tag_tells RegistryTag (Some ordinary) = refl
tag_tells RegistryTag (Some (weakref_to v)) = refl
tag_tells RegistryTag (Some weak_map) = refl
tag_tells RegistryTag (Some weak_set) = refl
tag_tells RegistryTag (Some (registry_of c)) = refl
tag_tells RegistryTag (Some shared_buffer) = refl
tag_tells BufferTag None = refl
tag_tells BufferTag (Some ordinary) = refl
tag_tells BufferTag (Some (weakref_to v)) = refl
tag_tells BufferTag (Some weak_map) = refl
tag_tells BufferTag (Some weak_set) = refl
tag_tells BufferTag (Some (registry_of c)) = refl
tag_tells BufferTag (Some shared_buffer) = refl
tag_tells _ k = refl

none_tells : (t : Tag) → is_tag t None ≡ is_of t None
none_tells WeakRefTag = refl
none_tells WeakMapTag = refl
none_tells WeakSetTag = refl
none_tells RegistryTag = refl
none_tells BufferTag = refl
none_tells _ = refl

pub tagged_as : (over : Buffers) (into : Receivers) (h : History) (s : TablesView) (t : Tag) → LegalBy over into h → Says into h s → (o : ℕ) → 0 < o → is_gone h o ≡ false → is_tag t (tag_at s.tags.all o) ≡ is_of t (kind h o)
tagged_as over into h s t legal says o positive here = ap (is_tag t) (says.tags o positive) ∙ at_there (is_there h o) refl (kind h o) refl
  where
    at_there : (b : Bool) → is_there h o ≡ b → (k : Option Kind) → kind h o ≡ k → is_tag t (cond b (Some (tag_of k)) None) ≡ is_of t k
    at_there true there k is = tag_tells t k
    at_there false there None is = none_tells t
    at_there false there (Some k) is = absurd (false≢true (sym there ∙ is_within h o (object_within over into h legal o (ap is_some is)) here))
