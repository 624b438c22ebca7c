-- Entries as pairs of map and identity.
use Rattle.std.proofs.Common.{map, ℕ, ◌≡◌, Bool, true, ◌∙◌, ap, refl, List, [], ◌∷◌, ◌++◌, Some, None, Option}
use Rattle.std.specs.List.{AllByRecursion, list_all}
use Rattle.std.proofs.lemmas.Bool.{and_parts}
use Rattle.es_value.specs.declared.value.Value.{Value}
use Rattle.es_value.specs.declared.value.Value.TheVariants.{Object}
use Rattle.es_value.specs.Values.{identity}
use Rattle.es_mark.specs.Graph.{IsNumbered, HasValues, FindsEntries}
use Rattle.es_mark.specs.Made.{is_made}
use Rattle.es_mark.proofs.Following.{made_numbered, numbered_made}
use Rattle.es_parmark.specs.Pairs.{HasPairs, pairs_said, pair_before}

-- entries as pairs

same_value : (i j : ℕ) → Some i ≡ Some j → i ≡ j
same_value i j e = cc

pub values_from : (pairs : List (ℕ × ℕ)) (t : ℕ → Bool) → HasPairs pairs t → HasValues (map (λ p. (p.0, Object p.1)) pairs) t
values_from [] t has = tt
values_from (p ∷ pairs) t has = (λ here i e. rw (← same_value p.1 i e) (has.0 here), values_from pairs t has.1)

pub values_to : (pairs : List (ℕ × ℕ)) (t : ℕ → Bool) → HasValues (map (λ p. (p.0, Object p.1)) pairs) t → HasPairs pairs t
values_to [] t has = tt
values_to (p ∷ pairs) t has = (λ here. has.0 here p.1 refl, values_to pairs t has.1)

values_numbered : (made : ℕ) (pairs : List (ℕ × ℕ)) → list_all (λ p. is_made made p.1) pairs ≡ true
    → AllByRecursion (λ (e : ℕ × Value). (i : ℕ) → identity e.1 ≡ Some i → IsNumbered made i) (map (λ p. (p.0, Object p.1)) pairs)
values_numbered made [] good = tt
values_numbered made (p ∷ pairs) good =
    let q = and_parts (is_made made p.1) (list_all (λ p. is_made made p.1) pairs) good in
    (λ i e. rw (← same_value p.1 i e) (made_numbered made p.1 q.0), values_numbered made pairs q.1)

pub finds_pairs : (made : ℕ) (pairs : List (ℕ × ℕ)) (old new : List (ℕ × Value)) → new ≡ old ++ map (λ p. (p.0, Object p.1)) pairs
    → list_all (λ p. is_made made p.1) pairs ≡ true → FindsEntries made (HasPairs pairs) old new
finds_pairs made pairs old new is good = record {
  entries = map (λ p. (p.0, Object p.1)) pairs;
  added = is;
  numbered = values_numbered made pairs good;
  only = λ t. values_from pairs t;
  all = λ t. values_to pairs t;
}

-- pairs of entries

pub said_from : (es : List (ℕ × Value)) (t : ℕ → Bool) → HasValues es t → HasPairs (pairs_said es) t
said_from [] t has = tt
said_from (e ∷ es) t has = before (identity e.1) has.0 (said_from es t has.1) where
  before : (o : Option ℕ) → (t e.0 ≡ true → (i : ℕ) → o ≡ Some i → t i ≡ true) → HasPairs (pairs_said es) t → HasPairs (pair_before e.0 o (pairs_said es)) t
  before None h rest = rest
  before (Some i) h rest = (λ here. h here i refl, rest)

pub said_to : (es : List (ℕ × Value)) (t : ℕ → Bool) → HasPairs (pairs_said es) t → HasValues es t
said_to [] t has = tt
said_to (e ∷ es) t has = let r = parts (identity e.1) has in (r.0, said_to es t r.1) where
  parts : (o : Option ℕ) → HasPairs (pair_before e.0 o (pairs_said es)) t → (t e.0 ≡ true → (i : ℕ) → o ≡ Some i → t i ≡ true) × HasPairs (pairs_said es) t
  parts None has = (λ here i e. cc, has)
  parts (Some j) has = (λ here i e. rw (← same_value j i e) (has.0 here), has.1)

pub said_made : (made : ℕ) (es : List (ℕ × Value)) → AllByRecursion (λ (e : ℕ × Value). (i : ℕ) → identity e.1 ≡ Some i → IsNumbered made i) es
    → list_all (λ p. is_made made p.1) (pairs_said es) ≡ true
said_made made [] all = refl
said_made made (e ∷ es) all = before (identity e.1) all.0 (said_made made es all.1) where
  before : (o : Option ℕ) → ((i : ℕ) → o ≡ Some i → IsNumbered made i) → list_all (λ p. is_made made p.1) (pairs_said es) ≡ true
      → list_all (λ p. is_made made p.1) (pair_before e.0 o (pairs_said es)) ≡ true
  before None h rest = rest
  before (Some i) h rest = rw (numbered_made made i (h i refl), rest) refl

pub said_more : (es : List (ℕ × Value)) (e : ℕ × Value) → pairs_said (es ++ e ∷ []) ≡ pairs_said es ++ pair_before e.0 (identity e.1) []
said_more [] e = refl
said_more (x ∷ es) e = ap (pair_before x.0 (identity x.1)) (said_more es e) ∙ before (identity x.1) where
  before : (o : Option ℕ) → pair_before x.0 o (pairs_said es ++ pair_before e.0 (identity e.1) []) ≡ pair_before x.0 o (pairs_said es) ++ pair_before e.0 (identity e.1) []
  before None = refl
  before (Some i) = refl
