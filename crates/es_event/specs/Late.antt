-- To believe: what is late: what was there when a copy of the graph was taken, and is reached in the copy neither from its roots nor from
-- what derefs gave since. The standard has no such notion: it allows to empty what is not live (Execution), and what is late is not (the
-- law nothing_late_is_live).
use Rattle.std.specs.Prelude.{ℕ, ◌≡◌, Bool, true, List, [], ◌∷◌, ◌++◌}
use Rattle.es_event.specs.History.{History}
use Rattle.es_event.specs.Identities.{is_in, is_there}
use Rattle.es_event.specs.Jobs.{Receivers}
use Rattle.es_event.specs.Derefs.{derefs}
use Rattle.es_event.specs.Reach.{IsClosed}

-- all that derefs of g gave
abbrev pub derefed : History → List ℕ
derefed [] = []
derefed (e ∷ g) = derefs e ++ derefed g

-- every closed set that has these too has i: it is in the least one
abbrev pub IsReachedWith : Receivers → History → List ℕ → ℕ → Type 0
IsReachedWith into p more i = (m : ℕ → Bool) → IsClosed into p (λ j. m j ≡ true) → ((j : ℕ) → is_in more j ≡ true → m j ≡ true) → m i ≡ true

-- i was there at p, and is not reached, nor from these
pub record IsLate (into : Receivers) (p : History) (more : List ℕ) (i : ℕ) : Type 0 where
  pub there : is_there p i ≡ true
  pub unreached : IsReachedWith into p more i → ⊥

-- s is the set of all that is late
pub record AreLate (into : Receivers) (p : History) (more s : List ℕ) : Type 0 where
  pub only : (i : ℕ) → is_in s i ≡ true → IsLate into p more i
  pub every : (i : ℕ) → IsLate into p more i → is_in s i ≡ true
