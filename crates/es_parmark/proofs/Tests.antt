-- Tests and facts of each element of a list.
use Rattle.std.proofs.Common.{ℕ, ◌≡◌, ◌<◌, Bool, true, refl, List, [], ◌∷◌, ◌++◌}
use Rattle.std.specs.List.{AllByRecursion, list_all}
use Rattle.std.proofs.lemmas.Bool.{and_parts}
use Rattle.es_mark.specs.Graph.{IsNumbered, HasAll}
use Rattle.es_mark.specs.Made.{is_made}
use Rattle.es_mark.proofs.Following.{made_numbered, numbered_made, made_fit}

pub list_all_join : {X : Type 0} (test : X → Bool) (xs ys : List X) → list_all test xs ≡ true → list_all test ys ≡ true → list_all test (xs ++ ys) ≡ true
list_all_join test [] ys a b = b
list_all_join test (x ∷ xs) ys a b =
    let p = and_parts (test x) (list_all test xs) a in
    rw (p.0, list_all_join test xs ys p.1 b) refl

pub numbered_list : (made : ℕ) (ids : List ℕ) → AllByRecursion (IsNumbered made) ids → list_all (is_made made) ids ≡ true
numbered_list made [] all = refl
numbered_list made (i ∷ ids) all = rw (numbered_made made i all.0, numbered_list made ids all.1) refl

pub list_numbered : (made : ℕ) (ids : List ℕ) → list_all (is_made made) ids ≡ true → AllByRecursion (IsNumbered made) ids
list_numbered made [] all = tt
list_numbered made (i ∷ ids) all = let p = and_parts (is_made made i) (list_all (is_made made) ids) all in (made_numbered made i p.0, list_numbered made ids p.1)

pub list_has : (made : ℕ) (ids : List ℕ) → list_all (is_made made) ids ≡ true → HasAll ids (is_made made)
list_has made [] e = tt
list_has made (i ∷ ids) e = let p = and_parts (is_made made i) (list_all (is_made made) ids) e in (p.0, list_has made ids p.1)

pub has_list : (made : ℕ) (ids : List ℕ) → HasAll ids (is_made made) → list_all (is_made made) ids ≡ true
has_list made [] all = refl
has_list made (i ∷ ids) all = rw (all.0, has_list made ids all.1) refl

-- what was made has room
pub made_fits : (made size : ℕ) (ids : List ℕ) → made < size → list_all (is_made made) ids ≡ true → AllByRecursion (λ i. i < size) ids
made_fits made size ids l e = made_fit made size ids l (list_has made ids e)

pub seconds_fit : (made size : ℕ) (ps : List (ℕ × ℕ)) → made < size → list_all (λ p. is_made made p.1) ps ≡ true → AllByRecursion (λ p. p.1 < size) ps
seconds_fit made size [] l e = tt
seconds_fit made size (p ∷ ps) l e =
    let q = and_parts (is_made made p.1) (list_all (λ p. is_made made p.1) ps) e in
    ((made_fit made size (p.1 ∷ []) l (q.0, tt)).0, seconds_fit made size ps l q.1)
