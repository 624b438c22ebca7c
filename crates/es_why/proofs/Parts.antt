-- What it means that something stands at a place, in a cell, or under a key.
use Rattle.std.proofs.Common.{◌≡◌, ℕ, zero, suc, ◌<◌, Bool, true, false, ap, subst, List, [], ◌∷◌, length, Option, Some, None, inl, inr, refl, if◌then◌else◌}
use Rattle.std.specs.Prelude.{is_some, slice_get}
use Rattle.std.specs.Option.{option_and_then}
use Rattle.std.specs.Str.{bytes_eq}
use Rattle.std.proofs.lemmas.Bool.{or_cases, false≢true}
use Rattle.std.proofs.lemmas.Option.{slice_get_within}
use Rattle.std.proofs.lemmas.Slice.Eq.{bytes_eq-Decides}
use Rattle.es_event.specs.History.{History}
use Rattle.es_event.specs.Identities.{identity}
use Rattle.es_event.specs.Properties.{has_key}
use Rattle.es_event.specs.Registrations.{Cell, Fate, live, awaiting, unregistered, taken, is_present, callback}
use Rattle.es_record.specs.Leading.{held_in}
use Rattle.es_why.specs.Numbered.{registry_if}

pub both_some : {A : Type 0} (f : A → Option ℕ) (o : Option A) (i : ℕ) → option_and_then f o ≡ Some i → (x : A) × (o ≡ Some x) × (f x ≡ Some i)
both_some f None i e = cc
both_some f (Some x) i e = (x, refl, e)

pub some_there : (o : Option ℕ) → is_some o ≡ true → (c : ℕ) × (o ≡ Some c)
some_there None e = cc
some_there (Some c) e = (c, refl)

pub held_parts : (f : Fate) (c : Cell) (i : ℕ) → held_in f c ≡ Some i → (is_present f ≡ true) × (identity c.held ≡ Some i)
held_parts live c i e = (refl, e)
held_parts awaiting c i e = (refl, e)
held_parts unregistered c i e = cc
held_parts taken c i e = cc

pub held_from : (f : Fate) (c : Cell) (i : ℕ) → is_present f ≡ true → identity c.held ≡ Some i → held_in f c ≡ Some i
held_from live c i p is = is
held_from awaiting c i p is = is
held_from unregistered c i p is = cc
held_from taken c i p is = cc

-- what stands at a place is within the list
pub place_within : {A : Type 0} (f : A → Option ℕ) (xs : List A) (n i : ℕ) → option_and_then f (slice_get xs n) ≡ Some i → n < length xs
place_within f xs n i e = let p = both_some f (slice_get xs n) i e in slice_get_within xs n p.0 p.1

-- a key that is among these has a place
pub key_place : (ks : List (List ℕ)) (k : List ℕ) → has_key ks k ≡ true → (n : ℕ) × (slice_get ks n ≡ Some k)
key_place [] k e = absurd (false≢true e)
key_place (l ∷ ks) k e = elim (or_cases (bytes_eq l k) (has_key ks k) e) [
  | inl s ↦ (zero, ap Some ((bytes_eq-Decides l k).0 s))
  | inr r ↦ let p = key_place ks k r in (suc p.0, p.1)
]

registry_is : (h : History) (n i : ℕ) (b : Bool) → is_some (callback h n) ≡ b → (if b then Some n else None) ≡ Some i → is_some (callback h i) ≡ true
registry_is h n i true s e = let same : n ≡ i = cc in subst (λ (j : ℕ). is_some (callback h j) ≡ true) same s
registry_is h n i false s e = cc

pub registry_from : (h : History) (n i : ℕ) → registry_if h n ≡ Some i → is_some (callback h i) ≡ true
registry_from h n i e = registry_is h n i (is_some (callback h n)) refl e

pub registry_to : (h : History) (i : ℕ) → is_some (callback h i) ≡ true → registry_if h i ≡ Some i
registry_to h i e = rw e refl
