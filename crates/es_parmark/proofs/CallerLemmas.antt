-- The marks of a copy are those of its source.
use Rattle.std.proofs.Common.{ℕ, ◌≡◌, ◌+◌, ◌-◌, ◌<◌, Bool, true, arith, List, [], ◌∷◌, length, inl, inr, ◌⊎◌}
use Rattle.std.proofs.Math.ListN.{get_or}
use Rattle.std.specs.List.{AllByRecursion, list_all}
use Rattle.std.proofs.lemmas.Bool.{cases_lt, and_parts}
use Rattle.std.proofs.lemmas.List.{get_or_past}
use Rattle.es_mark.specs.Graph.{IsClosed, IsNumbered, HasAll}
use Rattle.es_mark.specs.Made.{is_made}
use Rattle.es_mark.specs.Marks.{IsLeast, is_marked}
use Rattle.es_mark.proofs.Following.{made_numbered}
use Rattle.es_parmark.specs.Pairs.{HasPairs}
use Rattle.es_parmark.specs.Snapshot.{SnapshotView, IsSound, IsCopyOf, targets_of, pairs_of, row, CopyHasRoots, CopyHasEdges, CopyHasEntries, are_made, AreMarksOf, AreMarksWith}
use Rattle.es_parmark.proofs.Rows.{row_passes}
use Rattle.es_parmark.proofs.Tests.{list_has}

-- of what was not made a copy asks nothing

row_past : {X : Type 0} (P : X → Type 0) (ends : List ℕ) (all : List X) (made i : ℕ) → length ends ≡ made + 1 → (i ≡ 0) ⊎ (made < i) → AllByRecursion P (row ends all i)
row_past P ends all made i n (inl z) = let e : get_or ends i 0 - get_or ends (i - 1) 0 ≡ 0 = rw z (omega arith) in rw e tt
row_past P ends all made i n (inr past) = let e : get_or ends i 0 ≡ 0 = get_or_past ends i 0 (omega arith) in let f : get_or ends i 0 - get_or ends (i - 1) 0 ≡ 0 = omega arith in rw f tt

is_numbered : (made i : ℕ) → IsNumbered made i ⊎ ((i ≡ 0) ⊎ (made < i))
is_numbered made i = elim (cases_lt made i) [
  | inl past ↦ inr (inr past)
  | inr here ↦ elim (cases_lt 0 i) [
    | inl pos ↦ inl (pos, here)
    | inr none ↦ inr (inl (omega arith))
  ]
]

module _ {made : ℕ} {roots : (ℕ → Bool) → Type 0} {edges entries : ℕ → (ℕ → Bool) → Type 0} {s : SnapshotView} (c : IsCopyOf made roots edges entries s) where
  -- what is closed in the source is closed in the copy
  pub closed_in_copy : (t : ℕ → Bool) → IsClosed roots edges entries t → IsClosed (CopyHasRoots s) (CopyHasEdges s) (CopyHasEntries s) t
  closed_in_copy t closed = record {
    has_roots = c.roots_from t closed.has_roots;
    follows = λ i here. elim (is_numbered made i) [
      | inl n ↦ c.edges_from i n t (closed.follows i here)
      | inr none ↦ row_past (λ j. t j ≡ true) s.ends s.targets made i (omega (arith, c.sound.rows, c.made_same)) none
    ];
    enters = λ i here. elim (is_numbered made i) [
      | inl n ↦ c.entries_from i n t (closed.enters i here)
      | inr none ↦ row_past (λ p. t p.0 ≡ true → t p.1 ≡ true) s.stops s.pairs made i (omega (arith, c.sound.entry_rows, c.made_same)) none
    ];
  }

  -- and the other way round, where all of it was made
  pub closed_in_source : (t : ℕ → Bool) → ((i : ℕ) → t i ≡ true → IsNumbered made i) → IsClosed (CopyHasRoots s) (CopyHasEdges s) (CopyHasEntries s) t → IsClosed roots edges entries t
  closed_in_source t all closed = record {
    has_roots = c.roots_to t closed.has_roots;
    follows = λ i here. c.edges_to i (all i here) t (closed.follows i here);
    enters = λ i here. c.entries_to i (all i here) t (closed.enters i here);
  }

-- what was made is closed in a sound copy

module _ (s : SnapshotView) (sound : IsSound s) where
  made_pairs : (ps : List (ℕ × ℕ)) → list_all (λ p. is_made s.made p.1) ps ≡ true → HasPairs ps (is_made s.made)
  made_pairs [] e = tt
  made_pairs (p ∷ ps) e = let q = and_parts (is_made s.made p.1) (list_all (λ p. is_made s.made p.1) ps) e in (λ _. q.0, made_pairs ps q.1)

  pub made_closed : IsClosed (CopyHasRoots s) (CopyHasEdges s) (CopyHasEntries s) (is_made s.made)
  made_closed = record {
    has_roots = list_has s.made s.roots sound.roots_made;
    follows = λ i here. list_has s.made (targets_of s i) (row_passes (is_made s.made) s.ends s.targets i sound.targets_made);
    enters = λ i here. made_pairs (pairs_of s i) (row_passes (λ (p : ℕ × ℕ). is_made s.made p.1) s.stops s.pairs i sound.values_made);
  }

  -- what is marked was made
  pub marks_made : (marks : List Bool) → AreMarksOf s marks → (i : ℕ) → is_marked marks i ≡ true → IsNumbered s.made i
  marks_made marks least i e = made_numbered s.made i (least.least (is_made s.made) made_closed i e)

-- the same with these identities as roots besides its own

module _ (s : SnapshotView) (sound : IsSound s) (more : List ℕ) (good : are_made s.made more ≡ true) (marks : List Bool) (least : AreMarksWith s more marks) where
  -- what is marked was made
  pub more_made : (i : ℕ) → is_marked marks i ≡ true → IsNumbered s.made i
  more_made i e =
      let made = made_closed s sound in
      made_numbered s.made i (least.least (is_made s.made) (record { has_roots = (made.has_roots, list_has s.made more good); follows = made.follows; enters = made.enters }) i e)

pub more_serve : {made : ℕ} {roots : (ℕ → Bool) → Type 0} {edges entries : ℕ → (ℕ → Bool) → Type 0} {s : SnapshotView} → IsCopyOf made roots edges entries s → (more : List ℕ) → are_made s.made more ≡ true
    → (marks : List Bool) → AreMarksWith s more marks → IsLeast (λ t. roots t × HasAll more t) edges entries marks
more_serve {made} {roots} {edges} {entries} {s} c more good marks least =
    let own = closed_in_source c (is_marked marks) (λ i e. rw (← c.made_same) (more_made s c.sound more good marks least i e))
    (record { has_roots = least.closed.has_roots.0; follows = least.closed.follows; enters = least.closed.enters }) in
    record {
      closed = record { has_roots = (own.has_roots, least.closed.has_roots.1); follows = own.follows; enters = own.enters };
      least = λ t closed.
          let here = closed_in_copy c t (record { has_roots = closed.has_roots.0; follows = closed.follows; enters = closed.enters }) in
          least.least t (record { has_roots = (here.has_roots, closed.has_roots.1); follows = here.follows; enters = here.enters });
    }
