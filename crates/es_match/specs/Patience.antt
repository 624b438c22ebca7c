-- To believe: what an agent does after a wait, or asleep, ends the wait or the sleep, and no agent does anything after a drain.
use Rattle.std.specs.Prelude.{ℕ, Bool, true, false, not, ◌||◌, ◌&&◌, ◌==◌, [], ◌∷◌, Option, Some, None}
use Rattle.es_event.specs.Ledger.{Ledger, waits}
use Rattle.es_event.specs.Waiters.{asleep}
use Rattle.es_event.specs.Totals.{is_drained}
use Rattle.es_match.specs.Deeds.{Deed, Opens, Posts, Takes, Spends, Accesses, Waits, Passes, Ends, Sleeps, Notifies, Wakes, TimesOut, Owned, deed}

-- the deed ends a wait for this sender: the agent takes a message of it, or skips
abbrev pub ends_wait : ℕ → Deed → Bool
ends_wait t (Opens b w s) = false
ends_wait t (Posts r m) = false
ends_wait t (Takes s m w) = s == t
ends_wait t (Spends s) = false
ends_wait t (Accesses s i m old) = false
ends_wait t (Waits s) = false
ends_wait t (Passes s) = s == t
ends_wait t Ends = false
ends_wait t (Sleeps s i w) = false
ends_wait t (Notifies s i n k) = false
ends_wait t (Wakes o) = false
ends_wait t (TimesOut o) = false

-- the deed ends a sleep
abbrev pub ends_sleep : Deed → Bool
ends_sleep (Opens b w s) = false
ends_sleep (Posts r m) = false
ends_sleep (Takes s m w) = false
ends_sleep (Spends s) = false
ends_sleep (Accesses s i m old) = false
ends_sleep (Waits s) = false
ends_sleep (Passes s) = false
ends_sleep Ends = false
ends_sleep (Sleeps s i w) = false
ends_sleep (Notifies s i n k) = false
ends_sleep (Wakes o) = true
ends_sleep (TimesOut o) = true

abbrev pub may_do : Option ℕ → Deed → Bool
may_do None d = true
may_do (Some s) d = ends_wait s d

abbrev pub may_stir : Bool → Deed → Bool
may_stir false d = true
may_stir true d = ends_sleep d

abbrev pub is_patient : Ledger → Owned → Bool
is_patient l None = true
is_patient l (Some p) = may_do (waits l p.0) p.1 && may_stir (asleep l p.0) p.1

-- what an agent does after a wait ends the wait, and what it does asleep ends the sleep
abbrev pub patient : Ledger → Bool
patient [] = true
patient (e ∷ earlier) = is_patient earlier (deed earlier e) && patient earlier

-- a message was drained
abbrev pub has_drained : Ledger → Bool
has_drained [] = false
has_drained (e ∷ earlier) = is_drained e || has_drained earlier

abbrev pub is_nobodys : Owned → Bool
is_nobodys None = true
is_nobodys (Some p) = false

-- no agent does anything after a drain
abbrev pub drained_last : Ledger → Bool
drained_last [] = true
drained_last (e ∷ earlier) = (is_nobodys (deed earlier e) || not (has_drained earlier)) && drained_last earlier
