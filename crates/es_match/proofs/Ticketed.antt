-- The rows of a list of tickets.
use Rattle.std.proofs.Common.{◌≡◌, ℕ, Bool, true, false, not, ◌==◌, ◌+◌, ◌<◌, ◌≤◌, suc, length, take, slice_index_or, List, [], ◌∷◌, ◌++◌, Some, None, refl, sym, ◌∙◌, ap, arith, if◌then◌else◌}
use Rattle.std.specs.Prelude.{nat_eq}
use Rattle.std.proofs.lemmas.List.{take_more}
use Rattle.std.specs.Option.{option_or}
use Rattle.es_event.specs.declared.row.Row.{Row}
use Rattle.es_event.specs.Identities.{is_in}
use Rattle.es_event.specs.Sharing.{row_at}
use Rattle.es_match.specs.Meets.{Tickets, beyond}

-- a new ticket comes after all others
pub row_added : (t : Tickets) (o : ℕ) (r : Row) (q : ℕ)
    → row_at (t ++ (o, r) ∷ []) q ≡ option_or (row_at t q) (if nat_eq o q then Some r else None)
row_added [] o r q = refl
row_added (x ∷ xs) o r q = case-of (x.0 == q) (row_added xs o r q)
  where
    case-of : (b : Bool) → row_at (xs ++ (o, r) ∷ []) q ≡ option_or (row_at xs q) (if nat_eq o q then Some r else None)
        → (if b then Some x.1 else row_at (xs ++ (o, r)
        ∷ []) q) ≡ option_or (if b then Some x.1 else row_at xs q) (if nat_eq o q then Some r else None)
    case-of true i = refl
    case-of false i = i

-- one more of the tickets
pub row_more : (t : Tickets) (i : ℕ) (p : ℕ × Row) (q : ℕ) → i < length t → p ≡ slice_index_or t i p
    → row_at (take (i + 1) t) q ≡ option_or (row_at (take i t) q) (if nat_eq p.0 q then Some p.1 else None)
row_more t i p q h is = ap (λ l. row_at l q) (take_more t i p h) ∙ ap (λ x. row_at (take i t ++ x ∷ []) q) (sym is)
    ∙ row_added (take i t) p.0 p.1 q

fewer : (ids : List ℕ) (t : Tickets) → length (beyond ids t) ≤ length t
fewer ids [] = omega arith
fewer ids (x ∷ xs) = case-of (is_in ids x.0) (fewer ids xs)
  where
    case-of : (b : Bool) → length (beyond ids xs) ≤ length xs
        → length (if not b then x ∷ beyond ids xs else beyond ids xs) ≤ suc (length xs)
    case-of true i = omega arith
    case-of false i = omega arith

-- where as many are of others as there are, all are
pub all_beyond : (ids : List ℕ) (t : Tickets) → length (beyond ids t) ≡ length t → beyond ids t ≡ t
all_beyond ids [] e = refl
all_beyond ids (x ∷ xs) e = case-of (is_in ids x.0) (all_beyond ids xs) (fewer ids xs) e
  where
    case-of : (b : Bool) → (length (beyond ids xs) ≡ length xs → beyond ids xs ≡ xs) → length (beyond ids xs) ≤ length xs
        → length (if not b then x ∷ beyond ids xs else beyond ids xs) ≡ suc (length xs)
        → (if not b then x ∷ beyond ids xs else beyond ids xs) ≡ x ∷ xs
    case-of true i few e = absurd (omega arith)
    case-of false i few e = ap (λ l. x ∷ l) (i (omega arith))
