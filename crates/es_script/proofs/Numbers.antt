-- Number tokens: with a minus sign, and without one.
use Rattle.std.proofs.Common.{◌≡◌, ℕ, ◌-◌, true, false, List, [], ◌∷◌, length, take, drop, refl, arith, take_all}
use Rattle.std.specs.Prelude.{◌==◌, slice_index}
use Rattle.fast_float.specs.Text.{scan}
use Rattle.serde_json.specs.Read.{number_of, number_from}

pub with_sign : (s : List ℕ) → slice_index s 0 == 45 ≡ true → number_of s ≡ number_from true (scan (drop 1 s))
unfolding number_of
with_sign s h = rw h refl

pub without_sign : (s : List ℕ) → slice_index s 0 == 45 ≡ false → number_of s ≡ number_from false (scan s)
unfolding number_of
without_sign s h = rw h refl

-- all that stands behind the first byte
pub behind_first : (s : List ℕ) → take (length s - 1) (drop 1 s) ≡ drop 1 s
behind_first [] = refl
behind_first (x ∷ xs) = take_all (length (x ∷ xs) - 1) xs (omega arith)
