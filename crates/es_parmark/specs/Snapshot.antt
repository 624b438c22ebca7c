-- To believe: a flat copy of a graph of identities, and that it is the same graph.
use Rattle.std.specs.Prelude.{ℕ, ◌≡◌, ◌+◌, ◌-◌, Bool, true, List, slice_index_or, slice_range, length}
use Rattle.std.specs.List.{list_all}
use Rattle.es_mark.specs.Graph.{IsNumbered, HasAll}
use Rattle.es_mark.specs.Made.{is_made}
use Rattle.es_mark.specs.Marks.{IsLeast}
use Rattle.es_parmark.specs.Pairs.{HasPairs}

-- how many were made; the roots; where each identity's edges end, and all edges; the same of entries, each with its map and the identity of its value
pub record SnapshotView : Type 0 where
  pub made : ℕ
  pub roots : List ℕ
  pub ends : List ℕ
  pub targets : List ℕ
  pub stops : List ℕ
  pub pairs : List (ℕ × ℕ)

-- the row of i, where the rows stand one after another from that of 1 on, and ends has the end of each
abbrev pub row : {X : Type 0} → List ℕ → List X → ℕ → List X
row ends all i = slice_range all (slice_index_or ends (i - 1) 0) (slice_index_or ends i 0)

-- what i leads to
abbrev pub targets_of : SnapshotView → ℕ → List ℕ
targets_of s i = row s.ends s.targets i

-- map and identity of the value of each entry whose key is i
abbrev pub pairs_of : SnapshotView → ℕ → List (ℕ × ℕ)
pairs_of s i = row s.stops s.pairs i

-- the copy as a graph: its roots
abbrev pub CopyHasRoots : SnapshotView → (ℕ → Bool) → Type 0
CopyHasRoots s t = HasAll s.roots t

-- what an identity leads to in it
abbrev pub CopyHasEdges : SnapshotView → ℕ → (ℕ → Bool) → Type 0
CopyHasEdges s i t = HasAll (targets_of s i) t

-- its entries with this key
abbrev pub CopyHasEntries : SnapshotView → ℕ → (ℕ → Bool) → Type 0
CopyHasEntries s i t = HasPairs (pairs_of s i) t

-- all were made
abbrev pub are_made : ℕ → List ℕ → Bool
are_made made ids = list_all (is_made made) ids

-- there are as many rows as identities, and all that is led to was made
pub record IsSound (s : SnapshotView) : Type 0 where
  pub rows : length s.ends ≡ s.made + 1
  pub entry_rows : length s.stops ≡ s.made + 1
  pub roots_made : are_made s.made s.roots ≡ true
  pub targets_made : are_made s.made s.targets ≡ true
  pub values_made : list_all (λ p. is_made s.made p.1) s.pairs ≡ true

-- the copy is the same graph: a set has what the one asks for exactly where it has what the other does
pub record IsCopyOf (made : ℕ) (roots : (ℕ → Bool) → Type 0) (edges entries : ℕ → (ℕ → Bool) → Type 0) (s : SnapshotView) : Type 0 where
  pub sound : IsSound s
  pub made_same : s.made ≡ made
  pub roots_from : (t : ℕ → Bool) → roots t → CopyHasRoots s t
  pub roots_to : (t : ℕ → Bool) → CopyHasRoots s t → roots t
  pub edges_from : (i : ℕ) → IsNumbered made i → (t : ℕ → Bool) → edges i t → CopyHasEdges s i t
  pub edges_to : (i : ℕ) → IsNumbered made i → (t : ℕ → Bool) → CopyHasEdges s i t → edges i t
  pub entries_from : (i : ℕ) → IsNumbered made i → (t : ℕ → Bool) → entries i t → CopyHasEntries s i t
  pub entries_to : (i : ℕ) → IsNumbered made i → (t : ℕ → Bool) → CopyHasEntries s i t → entries i t

-- the marks are those of the copy: its least closed set
abbrev pub AreMarksOf : SnapshotView → List Bool → Type 0
AreMarksOf s marks = IsLeast (CopyHasRoots s) (CopyHasEdges s) (CopyHasEntries s) marks

-- the same with these identities as roots besides its own
abbrev pub AreMarksWith : SnapshotView → List ℕ → List Bool → Type 0
AreMarksWith s ids marks = IsLeast (λ t. CopyHasRoots s t × HasAll ids t) (CopyHasEdges s) (CopyHasEntries s) marks
