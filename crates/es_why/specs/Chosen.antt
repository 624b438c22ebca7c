-- Internal: the ways that are told, chosen from the last to the first; and the keys of an object that were read.
use Rattle.std.specs.Prelude.{ℕ, ◌≡◌, ◌<◌, Bool, List, length, reverse, Option, Some, None, ⊤}
use Rattle.es_event.specs.History.{History}
use Rattle.es_event.specs.Properties.{keys}
use Rattle.es_mark.specs.declared.way.Way.{Way}
use Rattle.es_why.specs.Flags.{is_set}
use Rattle.es_why.specs.Kept.{is_source, ways_for}

-- of these ways those that are told are chosen, and what they come from is needed
pub record Chosen (told : ℕ → Bool) (most : ℕ) (ways : List Way) (needed : List Bool) (chosen : List Way) : Type 0 where
  pub room : most < length needed
  pub comes : (i : ℕ) → i < length needed → is_set needed i ≡ is_source (ways_for told ways) i
  pub listed : chosen ≡ reverse (ways_for told ways)

-- the keys are those of the object, if there is one
abbrev pub AreKeysOf : History → Option ℕ → List (List ℕ) → Type 0
AreKeysOf h None ks = ⊤
AreKeysOf h (Some o) ks = ks ≡ keys h o
