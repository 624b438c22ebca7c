-- Digits that are read from left to right.
use Rattle.std.proofs.Common.{◌≡◌, ℕ, zero, suc, ◌+◌, ◌-◌, ◌*◌, ◌<◌, ◌≤◌, ◌^◌, true, false, sym, ◌∙◌, ap, refl, arith, List, [], ◌∷◌, length, drop, slice_index_or, Some, None}
use Rattle.std.proofs.Math.Nat.{pow-le-pow_right, pow-succ'}
use Rattle.std.specs.Char.{is_ascii_digit}
use Rattle.es_event.specs.Numbers.{digits_after}

-- what is left of the digits after i of them, which wrote n
pub record Reads (cs : List ℕ) (n i : ℕ) : Type 0 where
  pub rest : digits_after 0 cs ≡ digits_after n (drop i cs)
  pub small : n < 10 ^ i

next_digit : (cs : List ℕ) (n i c : ℕ) → i < length cs → c ≡ slice_index_or cs i 0 → is_ascii_digit c ≡ true → digits_after n (drop i cs) ≡ digits_after (n * 10 + (c - 48)) (drop (suc i) cs)
next_digit [] n i c within is digit = absurd (omega arith)
next_digit (x ∷ cs) n zero c within is digit =
    let same : x ≡ c = sym is in
    rw same (rw digit refl)
next_digit (x ∷ cs) n (suc i) c within is digit = let less : i < length cs = omega arith in next_digit cs n i c less is digit

pub no_digit : (cs : List ℕ) (n i c : ℕ) → i < length cs → c ≡ slice_index_or cs i 0 → is_ascii_digit c ≡ false → digits_after n (drop i cs) ≡ None
no_digit [] n i c within is digit = absurd (omega arith)
no_digit (x ∷ cs) n zero c within is digit =
    let same : x ≡ c = sym is in
    rw same (rw digit refl)
no_digit (x ∷ cs) n (suc i) c within is digit = let less : i < length cs = omega arith in no_digit cs n i c less is digit

pub at_end : (cs : List ℕ) (n i : ℕ) → length cs ≤ i → digits_after n (drop i cs) ≡ Some n
at_end [] n zero past = refl
at_end [] n (suc i) past = refl
at_end (x ∷ cs) n zero past = absurd (omega arith)
at_end (x ∷ cs) n (suc i) past = let less : length cs ≤ i = omega arith in at_end cs n i less

one_more_power : (i : ℕ) → 10 ^ (i + 1) ≡ 10 * 10 ^ i
one_more_power i = let next : i + 1 ≡ suc i = omega arith in ap (λ k. 10 ^ k) next ∙ pow-succ' 10 i

pub below_most : (n i : ℕ) → n < 10 ^ i → i ≤ 15 → n < 10 ^ 15
below_most n i small few = let most : 10 ^ i ≤ 10 ^ 15 = pow-le-pow_right (omega arith) few in omega (arith, small, most)

pub one_more : (cs : List ℕ) (n i c d : ℕ) → i < length cs → c ≡ slice_index_or cs i 0 → is_ascii_digit c ≡ true → c < 58 → d ≡ c - 48 → Reads cs n i → Reads cs (n * 10 + d) (i + 1)
one_more cs n i c d within is digit few apart reads =
    let next : suc i ≡ i + 1 = omega arith in
    let small : n < 10 ^ i = reads.small in
    let more : 10 ^ (i + 1) ≡ 10 * 10 ^ i = one_more_power i in
    record {
      rest = reads.rest ∙ next_digit cs n i c within is digit ∙ ap (λ k. digits_after (n * 10 + (c - 48)) (drop k cs)) next ∙ ap (λ e. digits_after (n * 10 + e) (drop (i + 1) cs)) (sym apart);
      small = omega (arith, more, small, few, apart);
    }
