-- Internal: the list of what is marked, in the order of marking.
use Rattle.std.specs.Prelude.{ℕ, ◌≡◌, ◌+◌, Bool, true, false, List, [], ◌∷◌, ◌++◌, length}
use Rattle.es_mark.specs.Graph.{HasAll}
use Rattle.es_mark.specs.Marks.{is_marked, IsWithin}

-- how many places are not marked
abbrev pub unmarked : List Bool → ℕ
unmarked [] = 0
unmarked (true ∷ marks) = unmarked marks
unmarked (false ∷ marks) = 1 + unmarked marks

-- what is marked is listed, each once
pub record IsListed (marks : List Bool) (order : List ℕ) : Type 0 where
  pub has_order : HasAll order (is_marked marks)
  pub only : (t : ℕ → Bool) → HasAll order t → IsWithin marks t
  pub count : unmarked marks + length order ≡ length marks

-- the list has grown, and a set with all that it had has the rest exactly where it has these
pub record IsAdded (ids old new : List ℕ) : Type 0 where
  pub rest : List ℕ
  pub added : new ≡ old ++ rest
  pub only : (t : ℕ → Bool) → HasAll ids t → HasAll rest t
  pub all : (t : ℕ → Bool) → HasAll new t → HasAll ids t
