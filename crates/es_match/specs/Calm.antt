-- To believe: when no event of a history but the last asks the ledger for anything.
use Rattle.std.specs.Prelude.{ℕ, ◌≡◌, ⊤, Bool, true, false, List, [], ◌∷◌, slice_index_or}
use Rattle.es_event.specs.declared.event.Event.{Event}
use Rattle.es_event.specs.History.{History}
use Rattle.es_match.specs.Asks.{Asking, nothing, to_open, to_measure, to_compare, to_access, to_miss, to_sleep, to_notify, to_post, to_receive, to_refuse, to_pass, to_empty, to_close, asks, between_jobs, ends_job}

-- no deed is asked of an agent that has no ticket
abbrev pub is_calm : Asking → Bool
is_calm nothing = true
is_calm (to_open n v) = false
is_calm (to_measure b v) = false
is_calm (to_compare b c v) = false
is_calm (to_access b i m v) = false
is_calm (to_miss b i w) = false
is_calm (to_sleep b i w r) = false
is_calm (to_notify b i n v) = false
is_calm (to_post a v) = false
is_calm (to_receive s v) = false
is_calm to_refuse = false
is_calm (to_pass s) = false
is_calm (to_empty ids) = true
is_calm to_close = false

-- no event of the history asks for a deed, where the agent has no ticket
abbrev pub IsCalm : History → Type 0
IsCalm [] = ⊤
IsCalm (e ∷ earlier) = (is_calm (asks (between_jobs earlier) e) ≡ true) × IsCalm earlier

-- nor does one of these but the last, the oldest first, where a job is under way before them or not; and the last asks the same
-- in a job and between jobs
abbrev pub IsCalmBefore : Bool → List Event → Type 0
IsCalmBefore between [] = ⊤
IsCalmBefore between (e ∷ []) = asks between e ≡ asks true e
IsCalmBefore between (e ∷ f ∷ es) = (is_calm (asks between e) ≡ true) × IsCalmBefore (ends_job e) (f ∷ es)

-- of each agent of which this is said, no event but the last asks for a deed
abbrev pub AreCalm : List Bool → List (List Event) → Type 0
AreCalm calm hs = (a : ℕ) → slice_index_or calm a false ≡ true → IsCalmBefore true (slice_index_or hs a [])
