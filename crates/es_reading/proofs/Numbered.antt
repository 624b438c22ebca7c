-- What a table of callbacks says with one callback more.
use Rattle.std.proofs.Common.{ℕ, ◌≡◌, Bool, true, false, cond, List, Option, Some, None, refl, subst, bytes_eq}
use Rattle.std.specs.Prelude.{is_some, if◌then◌else◌}
use Rattle.std.proofs.lemmas.Slice.Eq.{bytes_eq-Decides}
use Rattle.es_reading.specs.Scope.{Numbers}
use Rattle.es_reading.specs.Reading.{or_else}

or_some : (o other : Option ℕ) → is_some o ≡ true → o ≡ or_else o other
or_some (Some n) other h = refl
or_some None other h = cc

kept_at : (o : Option ℕ) (k : ℕ) (b : Bool) → (b ≡ true → is_some o ≡ true) → o ≡ or_else o (if b then Some k else None)
kept_at o k true h = or_some o (Some k) (h refl)
kept_at (Some n) k false h = refl
kept_at None k false h = refl

-- one that is there stays
pub kept : (s : Numbers) (name n : List ℕ) (k : ℕ) → is_some (s name) ≡ true → s n ≡ or_else (s n) (if bytes_eq name n then Some k else None)
kept s name n k h = kept_at (s n) k (bytes_eq name n) (λ t. subst (λ m. is_some (s m) ≡ true) ((bytes_eq-Decides name n).0 t) h)

added_at : (o : Option ℕ) (k : ℕ) (b : Bool) → (b ≡ true → is_some o ≡ false) → cond b (Some k) o ≡ or_else o (if b then Some k else None)
added_at (Some n) k true h = let e : true ≡ false = h refl in cc
added_at None k true h = refl
added_at (Some n) k false h = refl
added_at None k false h = refl

-- one that is new is added
pub added : (s : Numbers) (name n : List ℕ) (k : ℕ) → is_some (s name) ≡ false → cond (bytes_eq name n) (Some k) (s n) ≡ or_else (s n) (if bytes_eq name n then Some k else None)
added s name n k h = added_at (s n) k (bytes_eq name n) (λ t. subst (λ m. is_some (s m) ≡ false) ((bytes_eq-Decides name n).0 t) h)
