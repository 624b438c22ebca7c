-- Internal: a history of a ledger, split into the agents' parts.
use Rattle.std.specs.Prelude.{ℕ, ◌≡◌, true, false, not, ◌&&◌, ◌==◌, List, [], ◌∷◌, ◌++◌, Option, Some, None, length, reverse, take, slice_index_or, if◌then◌else◌}
use Rattle.es_event.specs.declared.ledger_event.LedgerEvent.{LedgerEvent}
use Rattle.es_event.specs.Ledger.{Ledger}
use Rattle.es_match.specs.declared.stretch.Stretch.{Stretch}
use Rattle.es_match.specs.declared.ledger_pass.LedgerPass.{LedgerPass}
use Rattle.es_match.specs.Deeds.{Deed, Owned, deed, is_wait, part}
use Rattle.es_match.specs.Orderly.{may_come, orderly}
use Rattle.es_match.specs.DeedsShown.{shown}
use Rattle.es_match.specs.LedgerPass.{Says}
use Rattle.es_match.specs.Words.{words_said}

-- the deeds of a stretch
abbrev pub stretch_said : Stretch → List Deed
stretch_said s = shown s.first ∷ words_said s.words.now

abbrev pub stretches_said : List Stretch → List Deed
stretches_said [] = []
stretches_said (s ∷ ss) = stretch_said s ++ stretches_said ss

-- the part of agent a
abbrev pub part_at : List (List Stretch) → ℕ → List Deed
part_at ps a = stretches_said (slice_index_or ps a [])

-- what one deed adds to the part of agent a, with the words that follow it
abbrev pub added : ℕ → Owned → List Deed → List Deed
added a None ws = []
added a (Some p) ws = if (p.0 == a) && not (is_wait p.1) then p.1 ∷ ws else []

-- the history is that of a cluster of n agents, as far as the ledger can tell, and these are their parts
pub record IsSplit (n : ℕ) (l : Ledger) (ps : List (List Stretch)) : Type 0 where
  pub size : length ps ≡ n
  pub order : orderly n l ≡ true
  pub parts : (a : ℕ) → part_at ps a ≡ part l a

-- one more event was noted with so many of those that follow it, or may not come
abbrev pub IsStep : Option ℕ → ℕ → Ledger → LedgerEvent → List LedgerEvent → LedgerPass → List (List Stretch) → Type 0
IsStep (Some k) n l e later t ps = Says (reverse (take k later) ++ e ∷ l) t × IsSplit n (reverse (take k later) ++ e ∷ l) ps
IsStep None n l e later t ps = may_come n l (deed l e) ≡ false
