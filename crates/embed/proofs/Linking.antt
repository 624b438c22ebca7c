-- What a scene finds: the ends of links, and no entries.
use Rattle.std.proofs.Common.{◌≡◌, ℕ, ◌==◌, ◌&&◌, Bool, true, List, [], ◌∷◌, ◌++◌, map, inl, inr, sym}
use Rattle.std.specs.Prelude.{⊤}
use Rattle.std.specs.List.{AllByRecursion, filter}
use Rattle.std.proofs.lemmas.Bool.{cases_Bool, and_parts}
use Rattle.std.proofs.lemmas.List.{append-nil}
use Rattle.es_value.specs.declared.value.Value.{Value}
use Rattle.es_mark.specs.Graph.{IsNumbered, HasAll, Finds, FindsEntries}
use Rattle.es_mark.specs.Made.{is_made}
use Rattle.es_mark.proofs.Following.{made_numbered}
use Rattle.embed.specs.Scene.{leads_to}

-- what holds of the images of all that passes the test
all_picked : {X Y : Type 0} (P : Y → Type 0) (test : X → Bool) (f : X → Y) (xs : List X) → ((x : X) → test x ≡ true → P (f x)) → AllByRecursion P (map f (filter test xs))
all_picked P test f [] h = tt
all_picked {X} {Y} P test f (x ∷ xs) h =
    let rest : AllByRecursion P (map f (filter test xs)) = all_picked P test f xs h in
    elim (cases_Bool (test x)) [
      | inl e ↦ rw e (h x e, rest)
      | inr e ↦ rw e rest
    ]

pub finds_ends : (made : ℕ) (links : List (ℕ × ℕ)) (i : ℕ) (old new : List ℕ) → new ≡ old ++ leads_to made links i
    → Finds made (HasAll (leads_to made links i)) old new
finds_ends made links i old new is = record {
  ids = leads_to made links i;
  added = is;
  numbered =
      all_picked (IsNumbered made) (λ (e : ℕ × ℕ). (e.0 == i) && is_made made e.1) (λ e. e.1) links
      (λ e passes. made_numbered made e.1 (and_parts (e.0 == i) (is_made made e.1) passes).1);
  only = λ t has. has;
  all = λ t has. has;
}

pub finds_none : (made : ℕ) (old : List (ℕ × Value)) → FindsEntries made (λ t. ⊤) old old
finds_none made old = record { entries = []; added = sym (append-nil old); numbered = tt; only = λ t has. tt; all = λ t has. tt }
