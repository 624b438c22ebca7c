-- Internal: what a history of a ledger has to meet besides the agents' parts.
use Rattle.std.specs.Prelude.{ℕ, Bool, true, not, ◌||◌, ◌&&◌, [], ◌∷◌, Some, None, nat_lt}
use Rattle.es_event.specs.Ledger.{Ledger}
use Rattle.es_match.specs.Deeds.{Owned, deed, is_wait}
use Rattle.es_match.specs.Patience.{is_patient, is_nobodys, has_drained}

-- the deed is nobody's, a wait, or that of one of n agents
abbrev pub is_known : ℕ → Owned → Bool
is_known n None = true
is_known n (Some p) = is_wait p.1 || nat_lt p.0 n

abbrev pub may_come : ℕ → Ledger → Owned → Bool
may_come n l o = is_patient l o && ((is_nobodys o || not (has_drained l)) && is_known n o)

-- waits are patient, drains come last, and no agent but the first n does anything
abbrev pub orderly : ℕ → Ledger → Bool
orderly n [] = true
orderly n (e ∷ earlier) = may_come n earlier (deed earlier e) && orderly n earlier
