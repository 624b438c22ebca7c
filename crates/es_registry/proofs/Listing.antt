-- The identities that a collection must not empty, as a list of them has them.
use Rattle.std.proofs.Common.{◌≡◌, ℕ, Bool, true, false, cond, ◌||◌, ◌==◌, List, [], ◌∷◌, ◌++◌, Option, Some, None, is_some, map, refl, ap, ◌∙◌}
use Rattle.std.specs.List.{list_any, flat_map, slice_get}
use Rattle.std.specs.Option.{option_map_or, option_and_then, option_to_list}
use Rattle.std.proofs.lemmas.List.Concat.{flat_map-cons}
use Rattle.std.proofs.lemmas.List.Folds.{list_any-append}
use Rattle.es_value.specs.Ids.{is_in}
use Rattle.es_registry.specs.declared.slot.Slot.{Slot}
use Rattle.es_registry.specs.Cells.{ListsPresent}
use Rattle.es_registry.specs.Slots.{is_this, held_identity, holds, passes_at}
use Rattle.es_registry.specs.Registries.{found}
use Rattle.es_registry.proofs.Indexing.{any_holds}

-- the identities that cells at these places hold
abbrev pub held_at : List Slot → List ℕ → List ℕ
held_at xs ks = flat_map (λ k. option_to_list (option_and_then held_identity (slice_get xs k))) ks

in_one : (i : ℕ) (o : Option ℕ) → is_in (option_to_list o) i ≡ is_this i o
in_one i None = refl
in_one i (Some v) = or_false (v == i)
  where
    or_false : (b : Bool) → (b || false) ≡ b
    or_false true = refl
    or_false false = refl

in_slot : (i : ℕ) (o : Option Slot) → is_in (option_to_list (option_and_then held_identity o)) i ≡ option_map_or (holds i) o false
in_slot i None = refl
in_slot i (Some s) = in_one i (held_identity s)

in_held : (i : ℕ) (xs : List Slot) (ks : List ℕ) → is_in (held_at xs ks) i ≡ list_any (passes_at (holds i) xs) ks
in_held i xs [] = refl
in_held i xs (k ∷ ks) =
    ap (λ l. is_in l i) (flat_map-cons (λ j. option_to_list (option_and_then held_identity (slice_get xs j))) k ks)
    ∙ list_any-append (λ j. j == i) (option_to_list (option_and_then held_identity (slice_get xs k))) (held_at xs ks)
    ∙ ap (λ b. b || is_in (held_at xs ks) i) (in_slot i (slice_get xs k))
    ∙ ap (λ b. passes_at (holds i) xs k || b) (in_held i xs ks)

in_keys : (i : ℕ) (es : List (ℕ × ℕ)) → is_in (map (λ e. e.0) es) i ≡ is_some (found es i)
in_keys i [] = refl
in_keys i (e ∷ es) = by_test (e.0 == i) (in_keys i es)
  where
    by_test : (b : Bool) → is_in (map (λ e. e.0) es) i ≡ is_some (found es i) → (b || is_in (map (λ e. e.0) es) i) ≡ is_some (cond b (Some e.1) (found es i))
    by_test true rest = refl
    by_test false rest = rest

pub in_roots : (es : List (ℕ × ℕ)) (xs : List Slot) (ks : List ℕ) → ListsPresent ks xs → (i : ℕ) → is_in (map (λ e. e.0) es ++ held_at xs ks) i ≡ (is_some (found es i) || list_any (holds i) xs)
in_roots es xs ks listed i =
    list_any-append (λ j. j == i) (map (λ e. e.0) es) (held_at xs ks)
    ∙ ap (λ b. b || is_in (held_at xs ks) i) (in_keys i es)
    ∙ ap (λ b. is_some (found es i) || b) (in_held i xs ks ∙ any_holds i xs ks listed)
