-- Marks of a copy with more roots.
use Rattle.std.proofs.Common.{ℕ, ◌≡◌, ◌<◌, Bool, true, List, [], ◌++◌}
use Rattle.std.specs.List.{AllByRecursion}
use Rattle.es_mark.specs.Graph.{HasAll, Finds}
use Rattle.es_mark.specs.Marks.{is_marked}
use Rattle.es_mark.proofs.Lists.{all_front, all_back, all_join}
use Rattle.es_parmark.specs.Snapshot.{SnapshotView, are_made, AreMarksOf, AreMarksWith}
use Rattle.es_parmark.proofs.Tests.{list_numbered, list_all_join, made_fits}

-- the roots and these, as one list
pub finds_both : (made : ℕ) (roots more ids : List ℕ) → are_made made roots ≡ true → are_made made more ≡ true → ids ≡ ([] ++ roots) ++ more → Finds made (λ t. HasAll roots t × HasAll more t) [] ids
finds_both made roots more ids a b is = record {
  ids = roots ++ more;
  added = is;
  numbered = list_numbered made (roots ++ more) (list_all_join _ roots more a b);
  only = λ t both. all_join (λ i. t i ≡ true) roots more both.0 both.1;
  all = λ t has. (all_front (λ i. t i ≡ true) roots more has, all_back (λ i. t i ≡ true) roots more has);
}

-- all of them have room
pub both_fit : (made size : ℕ) (roots more ids : List ℕ) → made < size → are_made made roots ≡ true → are_made made more ≡ true → ids ≡ ([] ++ roots) ++ more → AllByRecursion (λ i. i < size) ids
both_fit made size roots more ids l a b is = rw is (made_fits made size (roots ++ more) l (list_all_join _ roots more a b))

-- marks that have these already are those with these as roots
pub had_already : (s : SnapshotView) (marks : List Bool) (more : List ℕ) → AreMarksOf s marks → HasAll more (is_marked marks) → AreMarksWith s more marks
had_already s marks more least has = record {
  closed = record { has_roots = (least.closed.has_roots, has); follows = least.closed.follows; enters = least.closed.enters };
  least = λ t closed. least.least t (record { has_roots = closed.has_roots.0; follows = closed.follows; enters = closed.enters });
}
