-- Internal: acts and deeds by which nobody sleeps, and an agent that never slept.
use Rattle.std.specs.Prelude.{ℕ, ◌≡◌, ◌||◌, Bool, true, false, List, [], ◌∷◌}
use Rattle.es_event.specs.declared.ledger_event.Act.{Act}
use Rattle.es_event.specs.declared.ledger_event.Act.TheVariants.{Waiting, Passed, Ended, Slept, Notified, Woke, TimedOut}
use Rattle.es_event.specs.Ledger.{Ledger}
use Rattle.es_event.specs.Waiters.{asleep}
use Rattle.es_match.specs.Deeds.{Deed, Opens, Posts, Takes, Spends, Accesses, Waits, Passes, Ends, Sleeps, Notifies, Wakes, TimesOut, part}
use Rattle.es_match.specs.Patience.{patient}

-- nobody begins to sleep by it, notifies, or goes on from a sleep
abbrev pub is_calm_act : Act → Bool
is_calm_act (Waiting s) = true
is_calm_act (Passed s) = true
is_calm_act Ended = true
is_calm_act (Slept s i w) = false
is_calm_act (Notified s i m k) = false
is_calm_act Woke = false
is_calm_act TimedOut = false

-- the agent does by it
abbrev pub of_sleep : Deed → Bool
of_sleep (Opens b w s) = false
of_sleep (Posts r m) = false
of_sleep (Takes s m w) = false
of_sleep (Spends s) = false
of_sleep (Accesses s i m old) = false
of_sleep (Waits s) = false
of_sleep (Passes s) = false
of_sleep Ends = false
of_sleep (Sleeps s i w) = true
of_sleep (Notifies s i m k) = true
of_sleep (Wakes o) = true
of_sleep (TimesOut o) = true

abbrev pub has_sleep : List Deed → Bool
has_sleep [] = false
has_sleep (d ∷ ds) = of_sleep d || has_sleep ds

-- agent a is awake, and did nothing of sleep; and what agents do after a wait or a sleep ends it
pub record Calm (a : ℕ) (l : Ledger) : Type 0 where
  pub awake : asleep l a ≡ false
  pub none : has_sleep (part l a) ≡ false
  pub patience : patient l ≡ true
