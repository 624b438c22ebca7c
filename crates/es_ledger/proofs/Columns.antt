-- The queues of all ports, and how many letters there are.
use Rattle.std.proofs.Common.{◌≡◌, ℕ, zero, suc, ◌+◌, ◌<◌, List, [], ◌∷◌, ◌++◌, Option, Some, None, true, false, refl, ap, ◌∙◌, arith, length, length-append}
use Rattle.std.specs.Prelude.{slice_set, slice_index_or, option_to_list, is_some}
use Rattle.std.proofs.lemmas.List.{get_or_default}
use Rattle.es_ledger.specs.declared.message.Letter.{Letter}
use Rattle.es_ledger.specs.Ports.{QueueView, no_queue, total}

module _ {L : Type 0} where
  set_total : (qs : List (QueueView L)) (i : ℕ) (q : QueueView L) → i < length qs → total (slice_set qs i q) + length (slice_index_or qs i no_queue).letters ≡ total qs + length q.letters
  set_total [] i q below = absurd (omega (arith, below))
  set_total (x ∷ qs) zero q below = omega arith
  set_total (x ∷ qs) (suc i) q below = let rest = set_total qs i q (omega (arith, below)) in omega (arith, rest)

  -- one queue has other letters
  pub other_total : (qs : List (QueueView L)) (i : ℕ) (old q : QueueView L) → i < length qs → old ≡ slice_index_or qs i old → total (slice_set qs i q) + length old.letters ≡ total qs + length q.letters
  other_total qs i old q below is =
      let all = set_total qs i q below in
      let same : length old.letters ≡ length (slice_index_or qs i no_queue).letters = ap (λ (k : QueueView L). length k.letters) (is ∙ get_or_default qs i old no_queue below) in
      omega (arith, all, same)

  -- one queue has given a letter, if it had one
  pub taken_total : (qs : List (QueueView L)) (i : ℕ) (old q : QueueView L) (o : Option (Letter L)) → i < length qs → old ≡ slice_index_or qs i old → old.letters ≡ option_to_list o ++ q.letters
      → total (slice_set qs i q) + length (option_to_list o) ≡ total qs
  taken_total qs i old q o below is gave =
      let all = other_total qs i old q below is in
      let fewer : length old.letters ≡ length (option_to_list o) + length q.letters = ap (λ l. length l) gave ∙ length-append (option_to_list o) q.letters in
      omega (arith, all, fewer)

  -- one queue has one letter more
  pub pushed_total : (qs : List (QueueView L)) (i : ℕ) (old q : QueueView L) (x : Letter L) → i < length qs → old ≡ slice_index_or qs i old → q.letters ≡ old.letters ++ x ∷ []
      → total (slice_set qs i q) ≡ total qs + 1
  pushed_total qs i old q x below is got =
      let all = other_total qs i old q below is in
      let more : length q.letters ≡ length old.letters + length (x ∷ []) = ap (λ l. length l) got ∙ length-append old.letters (x ∷ []) in
      omega (arith, all, more)

  pub total_append : (qs : List (QueueView L)) (q : QueueView L) → q.letters ≡ [] → total (qs ++ q ∷ []) ≡ total qs
  total_append [] q none = let zero_long : length q.letters ≡ 0 = ap (λ l. length l) none in omega (arith, zero_long)
  total_append (x ∷ qs) q none = let rest = total_append qs q none in omega (arith, rest)

  pub still_empty : (qs : List (QueueView L)) (q : QueueView L) (i : ℕ) → q.letters ≡ [] → ((j : ℕ) → (slice_index_or qs j no_queue).letters ≡ []) → (slice_index_or (qs ++ q ∷ []) i no_queue).letters ≡ []
  still_empty [] q zero none each = none
  still_empty [] q (suc i) none each = refl
  still_empty (x ∷ qs) q zero none each = each 0
  still_empty (x ∷ qs) q (suc i) none each = still_empty qs q i none (λ j. each (suc j))

  -- all but the last
  pub before_last : (qs : List (QueueView L)) (q : QueueView L) (i : ℕ) → ((j : ℕ) → (slice_index_or (qs ++ q ∷ []) j no_queue).letters ≡ []) → (slice_index_or qs i no_queue).letters ≡ []
  before_last [] q i each = refl
  before_last (x ∷ qs) q zero each = each 0
  before_last (x ∷ qs) q (suc i) each = before_last qs q i (λ j. each (suc j))

  pub last_empty : (qs : List (QueueView L)) (q : QueueView L) → ((j : ℕ) → (slice_index_or (qs ++ q ∷ []) j no_queue).letters ≡ []) → q.letters ≡ []
  last_empty [] q each = each 0
  last_empty (x ∷ qs) q each = last_empty qs q (λ j. each (suc j))

pub some_one : {A : Type 0} (o : Option A) → is_some o ≡ true → length (option_to_list o) ≡ 1
some_one None is = cc
some_one (Some x) is = refl

pub none_zero : {A : Type 0} (o : Option A) → is_some o ≡ false → length (option_to_list o) ≡ 0
none_zero None is = refl
none_zero (Some x) is = cc
