-- Blocks by number, as one is added and as one changes.
use Rattle.std.proofs.Common.{◌≡◌, ◌≢◌, ℕ, zero, suc, ◌+◌, ◌-◌, ◌<◌, ◌≤◌, ◌==◌, List, [], ◌∷◌, ◌++◌, Bool, true, false, refl, sym, ap, ◌∙◌, arith, length}
use Rattle.std.proofs.lemmas.Bool.{eqb-true}
use Rattle.std.proofs.lemmas.Bool.Decides.{nat_tests}
use Rattle.std.proofs.lemmas.List.{get_or-set_same, get_or-set_other, get_or_append_left, get_or-append_right}
use Rattle.std.specs.Prelude.{slice_set, slice_index_or, nat_lt}
use Rattle.es_ledger.specs.declared.blocks.Counted.{Counted}
use Rattle.es_ledger.specs.Blocks.{no_block, block_at}

at_zero : (all : List Counted) (b : ℕ) → b ≡ 0 → block_at all b ≡ no_block
at_zero all b e = grind (arith, nat_tests, e)

at_place : (all : List Counted) (b : ℕ) → 0 < b → block_at all b ≡ slice_index_or all (b - 1) no_block
at_place all b e = grind (arith, nat_tests, e)

-- a change of block b is seen at b alone

pub set_here : (all : List Counted) (b : ℕ) (x : Counted) → 0 < b → b ≤ length all → block_at (slice_set all (b - 1) x) b ≡ x
set_here all b x positive within = at_place (slice_set all (b - 1) x) b positive ∙ get_or-set_same all (b - 1) x no_block (omega (arith, positive, within))

pub set_there : (all : List Counted) (b c : ℕ) (x : Counted) → 0 < b → b ≢ c → block_at (slice_set all (b - 1) x) c ≡ block_at all c
set_there all b c x positive apart = by_zero (c == 0) refl
  where
    by_zero : (z : Bool) → (c == 0) ≡ z → block_at (slice_set all (b - 1) x) c ≡ block_at all c
    by_zero true is = let none = eqb-true c 0 is in at_zero (slice_set all (b - 1) x) c none ∙ sym (at_zero all c none)
    by_zero false is =
        let some : 0 < c = grind (arith, nat_tests, is) in
        at_place (slice_set all (b - 1) x) c some ∙ get_or-set_other all (b - 1) (c - 1) x no_block (λ same. apart (omega (arith, same, some, positive))) ∙ sym (at_place all c some)

-- one more is found behind the others

pub pushed_here : (all : List Counted) (x : Counted) (b : ℕ) → b ≡ length all + 1 → block_at (all ++ x ∷ []) b ≡ x
pushed_here all x b e =
    at_place (all ++ x ∷ []) b (omega (arith, e)) ∙ get_or-append_right all (x ∷ []) (length all) (b - 1) no_block refl (omega (arith, e))
    ∙ ap (λ i. slice_index_or (x ∷ []) i no_block) (let none : b - 1 - length all ≡ 0 = omega (arith, e) in none)

pub pushed_there : (all : List Counted) (x : Counted) (b : ℕ) → b ≢ length all + 1 → block_at (all ++ x ∷ []) b ≡ block_at all b
pushed_there all x b apart = by_zero (b == 0) refl
  where
    beyond : (d : ℕ) → 0 < d → slice_index_or (x ∷ []) d no_block ≡ no_block
    beyond d more = grind (arith, nat_tests, more)

    by_length : 0 < b → (s : Bool) → nat_lt (b - 1) (length all) ≡ s → block_at (all ++ x ∷ []) b ≡ block_at all b
    by_length some true is =
        at_place (all ++ x ∷ []) b some ∙ get_or_append_left all (x ∷ []) no_block (b - 1) (grind (arith, nat_tests, is)) ∙ sym (at_place all b some)
    by_length some false is =
        let past : length all ≤ b - 1 = grind (arith, nat_tests, is) in
        at_place (all ++ x ∷ []) b some
        ∙ get_or-append_right all (x ∷ []) (length all) (b - 1) no_block refl past
        ∙ beyond (b - 1 - length all) (grind (arith, nat_tests, past, some, apart))
        ∙ sym (at_place all b some ∙ outside all (b - 1) past)
      where
        outside : (l : List Counted) (i : ℕ) → length l ≤ i → slice_index_or l i no_block ≡ no_block
        outside [] i e = refl
        outside (x ∷ xs) zero e = absurd (omega (arith, e))
        outside (x ∷ xs) (suc i) e = outside xs i (omega (arith, e))

    by_zero : (z : Bool) → (b == 0) ≡ z → block_at (all ++ x ∷ []) b ≡ block_at all b
    by_zero true is = let none = eqb-true b 0 is in at_zero (all ++ x ∷ []) b none ∙ sym (at_zero all b none)
    by_zero false is = let some : 0 < b = grind (arith, nat_tests, is) in by_length some (nat_lt (b - 1) (length all)) refl
