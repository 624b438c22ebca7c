-- What the tables add to a list is what is asked for.
use Rattle.std.proofs.Common.{◌≡◌, ℕ, ◌==◌, Bool, true, inl, inr, subst, sym, ◌∙◌, ap, refl, List, [], ◌∷◌, ◌++◌, Some}
use Rattle.std.specs.Prelude.{nat_eq}
use Rattle.std.specs.List.{IsDistinct}
use Rattle.std.proofs.lemmas.Bool.{eqb-true, eq-eqb, or_cases, or_left, or_right}
use Rattle.std.specs.Str.{bytes_eq}
use Rattle.es_value.specs.declared.value.Value.{Value}
use Rattle.es_props.specs.Heap.{Store, keys, edges, HasProperties}
use Rattle.es_props.proofs.CallerLemmas.{edges-from_properties, properties-from_edges}
use Rattle.es_ephemeron.specs.Ephemerons.{Records, holders, records_at, record_at}
use Rattle.es_ephemeron.proofs.CallerLemmas.{all_records-from_each, each-from_all_records}
use Rattle.es_registry.specs.Registries.{RegistriesView as RegistryContents, is_root}
use Rattle.es_value.specs.Ids.{is_in}
use Rattle.es_mark.specs.Graph.{HasAll, HasValue}
use Rattle.es_mark.proofs.Lists.{all_front, all_back, all_join}
use Rattle.es_tables.specs.Found.{Adds, HasBound, HasHeld, AddsEntries}
use Rattle.es_tables.specs.Tables.{TablesView}

-- sets as tests, and as lists

pub all_each : (t : ℕ → Bool) (xs : List ℕ) → HasAll xs t → (i : ℕ) → is_in xs i ≡ true → t i ≡ true
all_each t [] all i e = cc
all_each t (x ∷ xs) all i e = elim (or_cases (x == i) (is_in xs i) e) [ inl s ↦ subst (λ j. t j ≡ true) (eqb-true x i s) all.0 | inr r ↦ all_each t xs all.1 i r ]

pub each_all : (t : ℕ → Bool) (xs : List ℕ) → ((i : ℕ) → is_in xs i ≡ true → t i ≡ true) → HasAll xs t
each_all t [] each = tt
each_all t (x ∷ xs) each = (each x (or_left (x == x) (is_in xs x) (eq-eqb x x refl)), each_all t xs (λ i e. each i (or_right (x == i) (is_in xs i) e)))

-- the registries and what cells in them hold
pub record AddsRegistryRoots (c : RegistryContents) (old new : List ℕ) : Type 0 where
  pub ids : List ℕ
  pub added : new ≡ old ++ ids
  pub exactly : (i : ℕ) → is_in ids i ≡ is_root c i

appended : (xs ys zs : List ℕ) → (xs ++ ys) ++ zs ≡ xs ++ (ys ++ zs)
appended [] ys zs = refl
appended (x ∷ xs) ys zs = ap (λ l. x ∷ l) (appended xs ys zs)

pub adds_held : (s : TablesView) (old mid more new : List ℕ) → Adds (HasBound s.variables) old mid → more ≡ mid ++ s.weakrefs.kept → AddsRegistryRoots s.registries more new → Adds (HasHeld s) old new
adds_held s old mid more new bound' kept roots = record {
  ids = bound'.ids ++ (s.weakrefs.kept ++ roots.ids);
  added = roots.added
      ∙ (ap (λ l. l ++ roots.ids) (kept ∙ ap (λ l. l ++ s.weakrefs.kept) bound'.added)
      ∙ (appended (old ++ bound'.ids) s.weakrefs.kept roots.ids
      ∙ appended old bound'.ids (s.weakrefs.kept ++ roots.ids)));
  only = λ t has. all_join (λ i. t i ≡ true) bound'.ids (s.weakrefs.kept ++ roots.ids) (bound'.only t has.variables)
      (all_join (λ i. t i ≡ true) s.weakrefs.kept roots.ids has.kept (each_all t roots.ids (λ i e. has.registries i (sym (roots.exactly i) ∙ e))));
  all = λ t all.
      let rest = all_back (λ i. t i ≡ true) bound'.ids (s.weakrefs.kept ++ roots.ids) all in
      record {
        variables = bound'.all t (all_front (λ i. t i ≡ true) bound'.ids (s.weakrefs.kept ++ roots.ids) all);
        kept = all_front (λ i. t i ≡ true) s.weakrefs.kept roots.ids rest;
        registries = λ i e. all_each t roots.ids (all_back (λ i. t i ≡ true) s.weakrefs.kept roots.ids rest) i (roots.exactly i ∙ e);
      };
}

pub adds_edges : (s : Store) (o : ℕ) (old new : List ℕ) → new ≡ old ++ edges s o → IsDistinct bytes_eq (keys s o) → Adds (HasProperties s o) old new
adds_edges s o old new added distinct = record {
  ids = edges s o;
  added = added;
  only = λ t has. edges-from_properties s o t distinct has;
  all = λ t all. properties-from_edges s o t all;
}

-- where no WeakMap stands twice
pub adds_entries : (all : List (Records Value)) (k : ℕ) (old new : List (ℕ × Value)) → new ≡ old ++ records_at all k → IsDistinct nat_eq (holders (records_at all k)) → AddsEntries all k old new
adds_entries all k old new added distinct = record {
  entries = records_at all k;
  added = added;
  recorded = all_records-from_each (λ m v. record_at all m k ≡ Some v) all k distinct (λ m v e. e);
  only = λ t has. all_records-from_each (λ m v. t m ≡ true → HasValue t v) all k distinct (λ m v e here. has m v here e);
  all_of = λ t every m v here e. each-from_all_records (λ m v. t m ≡ true → HasValue t v) all k every m v e here;
}
