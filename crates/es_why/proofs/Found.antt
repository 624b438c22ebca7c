-- What an agent's record gives is where its steps lead.
use Rattle.std.proofs.Common.{◌≡◌, ℕ, ◌<◌, ◌==◌, ◌&&◌, ◌||◌, Bool, true, false, sym, ◌∙◌, ap, subst, arith, List, [], ◌∷◌, ◌++◌, reverse, length, Option, Some, None, inl, inr, refl}
use Rattle.std.specs.List.{AllByRecursion, range_with_len}
use Rattle.std.specs.Option.{option_and_then}
use Rattle.std.proofs.lemmas.Bool.{cases_Bool, and_from, or_left, or_right, eq-eqb, both_ways}
use Rattle.std.proofs.lemmas.List.{append-nil, append_assoc, reverse-append}
use Rattle.std.proofs.lemmas.List.Folds.{list_any-append}
use Rattle.es_value.specs.declared.value.Value.{Value}
use Rattle.es_ephemeron.specs.Ephemerons.{held_by}
use Rattle.es_event.specs.Identities.{identity, is_in, made, is_gone, is_there}
use Rattle.es_event.specs.Jobs.{receivers}
use Rattle.es_event.specs.Variables.{var}
use Rattle.es_event.specs.Properties.{prop, keys}
use Rattle.es_event.specs.WeakRefs.{kept}
use Rattle.es_event.specs.Ephemerons.{entry}
use Rattle.es_event.specs.Registrations.{callback, cell, fate, registered}
use Rattle.es_event.specs.Sharing.{Buffers}
use Rattle.es_event.specs.Legal.{LegalBy}
use Rattle.es_event.proofs.Cells.{cell_within}
use Rattle.es_event.proofs.Objects.{map_within}
use Rattle.es_mark.specs.declared.step.Step.{Step}
use Rattle.es_mark.specs.declared.step.Step.TheVariants.{Variable, Kept, Registry, Held, Property, Entry}
use Rattle.es_mark.specs.declared.way.Way.{Way}
use Rattle.es_mark.specs.Ways.{sources, has_way}
use Rattle.es_mark.specs.Finds.{Finds, FindsEntries, has_pair}
use Rattle.es_mark.proofs.Adding.{has_front, has_back}
use Rattle.es_mark.proofs.Lists.{all_join}
use Rattle.es_record.specs.AgentView.{AgentView}
use Rattle.es_record.specs.Leading.{held_in, held_of, property_at, AddsUnder}
use Rattle.es_record.proofs.Reached.{here_of, is_within, called_within}
use Rattle.es_why.specs.Leads.{LeadsTo, variable_at}
use Rattle.es_why.specs.Numbered.{numbered, registry_if, pair_if, pairs_of}
use Rattle.es_why.proofs.Numbered.{in_range, numbered_only, numbered_every}
use Rattle.es_why.proofs.Parts.{both_some, some_there, place_within, registry_from, registry_to}

-- KeptAlive in order of keeping

or_swapped : (a b : Bool) → (a || b) ≡ (b || (a || false))
or_swapped true true = refl
or_swapped true false = refl
or_swapped false true = refl
or_swapped false false = refl

in_reverse : (xs : List ℕ) (i : ℕ) → is_in xs i ≡ is_in (reverse xs) i
in_reverse [] i = refl
in_reverse (x ∷ xs) i =
    ap (λ b. (x == i) || b) (in_reverse xs i)
    ∙ or_swapped (x == i) (is_in (reverse xs) i)
    ∙ sym (ap (λ l. is_in l i) (reverse-append (x ∷ []) xs) ∙ list_any-append (λ j. j == i) (reverse xs) (x ∷ []))

-- Pairs

pair_here : (m i a : ℕ) (es : List (ℕ × ℕ)) (o : Option ℕ) → (a == m) ≡ true → o ≡ Some i → has_pair (pair_if a o ++ es) m i ≡ true
pair_here m i a es None s is = cc
pair_here m i a es (Some j) s is = let same : j ≡ i = cc in or_left ((a == m) && (j == i)) (has_pair es m i) (and_from (a == m) (j == i) s (eq-eqb j i same))

pair_later : (m i a : ℕ) (es : List (ℕ × ℕ)) (o : Option ℕ) → has_pair es m i ≡ true → has_pair (pair_if a o ++ es) m i ≡ true
pair_later m i a es None e = e
pair_later m i a es (Some j) e = or_right ((a == m) && (j == i)) (has_pair es m i) e

-- one entry more
pairs_append : (xs ys : List (ℕ × Value)) → pairs_of (xs ++ ys) ≡ pairs_of xs ++ pairs_of ys
pairs_append [] ys = refl
pairs_append (x ∷ xs) ys = ap (λ (l : List (ℕ × ℕ)). pair_if x.0 (identity x.1) ++ l) (pairs_append xs ys) ∙ sym (append_assoc (pair_if x.0 (identity x.1)) (pairs_of xs) (pairs_of ys))

pub pairs_more : (es : List (ℕ × Value)) (e : ℕ × Value) (old now new : List (ℕ × ℕ)) (id : Option ℕ) → now ≡ old ++ pairs_of es → id ≡ identity e.1 → new ≡ now ++ pair_if e.0 id
    → new ≡ old ++ pairs_of (es ++ e ∷ [])
pairs_more es e old now new id was found is =
    is ∙ ap (λ (o : Option ℕ). now ++ pair_if e.0 o) found ∙ ap (λ (l : List (ℕ × ℕ)). l ++ pair_if e.0 (identity e.1)) was
    ∙ append_assoc old (pairs_of es) (pair_if e.0 (identity e.1))
    ∙ ap (λ (l : List (ℕ × ℕ)). old ++ l)
    (ap (λ (l : List (ℕ × ℕ)). pairs_of es ++ l) (sym (append-nil (pair_if e.0 (identity e.1)))) ∙ sym (pairs_append es (e ∷ [])))

pairs_every : (m i : ℕ) (v : Value) → identity v ≡ Some i → (es : List (ℕ × Value)) → held_by es m ≡ Some v → has_pair (pairs_of es) m i ≡ true
pairs_every m i v is [] e = cc
pairs_every m i v is (x ∷ es) e = elim (cases_Bool (x.0 == m)) [
  | inl s ↦
      let found : Some x.1 ≡ Some v = rw s at e in
      let same : x.1 ≡ v = cc in
      pair_here m i x.0 (pairs_of es) (identity x.1) s (ap identity same ∙ is)
  | inr s ↦ pair_later m i x.0 (pairs_of es) (identity x.1) (pairs_every m i v is es (rw s at e))
]

module _ (over : Buffers) (b : AgentView) (names : List (List ℕ)) (legal : LegalBy over (receivers b.plan.jobs) b.history) where
  -- Roots

  roots_every : (s : Step) (i : ℕ) → LeadsTo b names s i → sources s ≡ [] → has_way
      (numbered (variable_at b names) Variable (range_with_len 0 (length names))
      ++ (numbered Some (λ (n : ℕ). Kept) (reverse (kept b.history))
      ++ (numbered (registry_if b.history) (λ (n : ℕ). Registry) (range_with_len 1 (made b.history)) ++ numbered (held_of b.history) Held (range_with_len 1 (registered b.history))))) i ≡ true
  roots_every (Variable n) i led none =
      has_front (numbered (variable_at b names) Variable (range_with_len 0 (length names))) _ i
      (numbered_every (variable_at b names) Variable (range_with_len 0 (length names)) n i
      (let l : n < length names = place_within (λ x. identity (var (receivers b.plan.jobs) b.history x)) names n i led in in_range 0 (length names) n (omega arith) (omega (arith, l))) led)
  roots_every Kept i led none =
      has_back (numbered (variable_at b names) Variable (range_with_len 0 (length names))) _ i
      (has_front (numbered Some (λ (n : ℕ). Kept) (reverse (kept b.history))) _ i
      (numbered_every Some (λ (n : ℕ). Kept) (reverse (kept b.history)) i i (sym (in_reverse (kept b.history) i) ∙ led) refl))
  roots_every Registry i led none =
      let c = some_there (callback b.history i) led in
      let within = called_within over (receivers b.plan.jobs) b.history legal i c.0 c.1 in
      has_back (numbered (variable_at b names) Variable (range_with_len 0 (length names))) _ i
      (has_back (numbered Some (λ (n : ℕ). Kept) (reverse (kept b.history))) _ i
      (has_front (numbered (registry_if b.history) (λ (n : ℕ). Registry) (range_with_len 1 (made b.history))) _ i
      (numbered_every (registry_if b.history) (λ (n : ℕ). Registry) (range_with_len 1 (made b.history)) i i
      (in_range 1 (made b.history) i (omega (arith, within.0)) (omega (arith, within.1))) (registry_to b.history i led))))
  roots_every (Held n) i led none =
      let p = both_some (held_in (fate b.history n)) (cell b.history n) i led in
      let within = cell_within b.history n p.0 p.1 in
      has_back (numbered (variable_at b names) Variable (range_with_len 0 (length names))) _ i
      (has_back (numbered Some (λ (n : ℕ). Kept) (reverse (kept b.history))) _ i
      (has_back (numbered (registry_if b.history) (λ (n : ℕ). Registry) (range_with_len 1 (made b.history))) _ i
      (numbered_every (held_of b.history) Held (range_with_len 1 (registered b.history)) n i
      (in_range 1 (registered b.history) n (omega (arith, within.0)) (omega (arith, within.1))) led)))
  roots_every (Property o n) i led none = cc
  roots_every (Entry m k) i led none = cc

  pub finds_roots : (f0 f1 f2 f3 f4 : List Way) → f1 ≡ f0 ++ numbered (variable_at b names) Variable (range_with_len 0 (length names))
      → f2 ≡ f1 ++ numbered Some (λ (n : ℕ). Kept) (reverse (kept b.history)) → f3 ≡ f2 ++ numbered (registry_if b.history) (λ (n : ℕ). Registry) (range_with_len 1 (made b.history))
      → f4 ≡ f3 ++ numbered (held_of b.history) Held (range_with_len 1 (registered b.history)) → Finds (LeadsTo b names) [] f0 f4
  finds_roots f0 f1 f2 f3 f4 e1 e2 e3 e4 =
      let V : List Way = numbered (variable_at b names) Variable (range_with_len 0 (length names)) in
      let K : List Way = numbered Some (λ (n : ℕ). Kept) (reverse (kept b.history)) in
      let R : List Way = numbered (registry_if b.history) (λ (n : ℕ). Registry) (range_with_len 1 (made b.history)) in
      let H : List Way = numbered (held_of b.history) Held (range_with_len 1 (registered b.history)) in
      let P : Way → Type 0 = λ w. LeadsTo b names w.step w.value × (sources w.step ≡ []) in
      record {
        ways = V ++ (K ++ (R ++ H));
        added =
            e4 ∙ ap (λ (l : List Way). l ++ H) (e3 ∙ ap (λ (l : List Way). l ++ R) (e2 ∙ ap (λ (l : List Way). l ++ K) e1))
            ∙ append_assoc ((f0 ++ V) ++ K) R H ∙ append_assoc (f0 ++ V) K (R ++ H) ∙ append_assoc f0 V (K ++ (R ++ H));
        only =
            all_join P V (K ++ (R ++ H)) (numbered_only (variable_at b names) Variable P (range_with_len 0 (length names)) (λ n i e led. (led, refl)))
            (all_join P K (R ++ H)
            (numbered_only Some (λ (n : ℕ). Kept) P (reverse (kept b.history))
            (λ n i e led. let same : n ≡ i = cc in (subst (λ (j : ℕ). is_in (kept b.history) j ≡ true) same (in_reverse (kept b.history) n ∙ e), refl)))
            (all_join P R H
            (numbered_only (registry_if b.history) (λ (n : ℕ). Registry) P (range_with_len 1 (made b.history)) (λ n i e led. (registry_from b.history n i led, refl)))
            (numbered_only (held_of b.history) Held P (range_with_len 1 (registered b.history)) (λ n i e led. (led, refl)))));
        every = roots_every;
      }

  -- Properties

  properties_every : (o : ℕ) (s : Step) (i : ℕ) → LeadsTo b names s i → sources s ≡ o ∷ [] → has_way (numbered (property_at b.history o) (Property o) (range_with_len 0 (length (keys b.history o)))) i ≡ true
  properties_every o (Variable n) i led is = cc
  properties_every o Kept i led is = cc
  properties_every o Registry i led is = cc
  properties_every o (Held n) i led is = cc
  properties_every o (Property p n) i led is =
      let same : p ≡ o = cc in
      let here : property_at b.history o n ≡ Some i = subst (λ (q : ℕ). property_at b.history q n ≡ Some i) same led.1 in
      let l : n < length (keys b.history o) = place_within (λ k. option_and_then identity (prop b.history o k)) (keys b.history o) n i here in
      numbered_every (property_at b.history o) (Property o) (range_with_len 0 (length (keys b.history o))) n i (in_range 0 (length (keys b.history o)) n (omega arith) (omega (arith, l))) here
  properties_every o (Entry m k) i led is = cc

  pub finds_properties : (o : ℕ) (old new : List Way) → is_there b.history o ≡ true → new ≡ old ++ numbered (property_at b.history o) (Property o) (range_with_len 0 (length (keys b.history o)))
      → Finds (LeadsTo b names) (o ∷ []) old new
  finds_properties o old new there is = record {
    ways = numbered (property_at b.history o) (Property o) (range_with_len 0 (length (keys b.history o)));
    added = is;
    only =
        numbered_only (property_at b.history o) (Property o) (λ w. LeadsTo b names w.step w.value × (sources w.step ≡ o ∷ [])) (range_with_len 0 (length (keys b.history o)))
        (λ n i e led. ((there, led), refl));
    every = properties_every o;
  }

  nothing_every : (o : ℕ) → is_there b.history o ≡ false → (s : Step) (i : ℕ) → LeadsTo b names s i → sources s ≡ o ∷ [] → has_way [] i ≡ true
  nothing_every o gone (Variable n) i led is = cc
  nothing_every o gone Kept i led is = cc
  nothing_every o gone Registry i led is = cc
  nothing_every o gone (Held n) i led is = cc
  nothing_every o gone (Property p n) i led is =
      let same : p ≡ o = cc in absurd (both_ways (is_there b.history o) gone (subst (λ (q : ℕ). is_there b.history q ≡ true) same led.0))
  nothing_every o gone (Entry m k) i led is = cc

  pub finds_nothing : (o : ℕ) (old : List Way) → is_there b.history o ≡ false → Finds (LeadsTo b names) (o ∷ []) old old
  finds_nothing o old gone = record { ways = []; added = sym (append-nil old); only = tt; every = nothing_every o gone }

  -- Entries

  pairs_only : (k : ℕ) (es : List (ℕ × Value)) → AllByRecursion (λ (e : ℕ × Value). (is_gone b.history e.0 ≡ false) × (entry b.history e.0 k ≡ Some e.1)) es
      → AllByRecursion (λ (e : ℕ × ℕ). LeadsTo b names (Entry e.0 k) e.1) (pairs_of es)
  pairs_only k [] all = tt
  pairs_only k (e ∷ es) all = all_join (λ (e : ℕ × ℕ). LeadsTo b names (Entry e.0 k) e.1) (pair_if e.0 (identity e.1)) (pairs_of es) (one (identity e.1) refl) (pairs_only k es all.1)
    where
      one : (o : Option ℕ) → identity e.1 ≡ o → AllByRecursion (λ (e : ℕ × ℕ). LeadsTo b names (Entry e.0 k) e.1) (pair_if e.0 o)
      one None is = tt
      one (Some i) is =
          ((is_within b.history e.0 (map_within over (receivers b.plan.jobs) b.history legal e.0 k e.1 all.0.1) all.0.0, ap (option_and_then identity) all.0.1 ∙ is), tt)

  pub finds_entries : (k : ℕ) (all : List (ℕ × Value)) (old new : List (ℕ × ℕ)) → AddsUnder b.history k [] all → new ≡ old ++ pairs_of all → FindsEntries (LeadsTo b names) k old new
  finds_entries k all old new adds is = record {
    entries = pairs_of adds.entries;
    added = is ∙ ap (λ (l : List (ℕ × Value)). old ++ pairs_of l) adds.added;
    only = pairs_only k adds.entries adds.only;
    every = λ m i led.
        let q = both_some identity (entry b.history m k) i led.1 in
        pairs_every m i q.0 q.2 adds.entries (adds.every m q.0 (here_of b.history m led.0) q.1);
  }
