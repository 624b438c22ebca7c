-- What a search by halving says of a sorted list.
use Rattle.std.proofs.Common.{◌≡◌, ℕ, ◌<◌, false, ◌==◌, List, length, get_or, Result, Ok, Err, arith, is_ok, eq-eqb, ne_eqb, sym, ⊎_elim}
use Rattle.std.proofs.lemmas.Bool.{cases_lt}
use Rattle.std.proofs.lemmas.List.Elements.{All-from_get_or}
use Rattle.std.proofs.lemmas.List.Folds.{list_any_at, list_any_none}
use Rattle.std.proofs.lemmas.List.Sorted.{searched}
use Rattle.std.specs.List.Sorted.{IsBinarySearchResult, IsNonDecreasing}
use Rattle.std.specs.Ordering.{nat_cmp}
use Rattle.es_value.specs.Ids.{is_in}

pub is_in_from_search : (ids : List ℕ) (id : ℕ) (r : Result ℕ ℕ) → IsBinarySearchResult (λ y. nat_cmp y id) ids r → IsNonDecreasing ids → is_ok r ≡ is_in ids id
is_in_from_search ids id (Ok i) h rising =
    let s = searched ids id (Ok i) h (λ i j le lt. rising i j 0 le lt) in
    sym (list_any_at (λ j. j == id) ids i 0 s.0 (eq-eqb _ _ s.1))
is_in_from_search ids id (Err i) h rising =
    let s = searched ids id (Err i) h (λ i j le lt. rising i j 0 le lt) in
    let apart = λ (k : ℕ) (lt : k < length ids). ne_eqb (get_or ids k 0) id (λ same. ⊎_elim (λ lo. absurd (omega (arith, s.1 k lo))) (λ hi. absurd (omega (arith, s.2 k hi lt))) (cases_lt k i)) in
    sym (list_any_none (λ j. j == id) ids (All-from_get_or (λ x. (x == id) ≡ false) ids 0 apart))
