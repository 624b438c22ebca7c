-- Internal: how many blocks were opened, and messages posted and taken, counted by agents' deeds, by what their histories ask, and by the
-- ledger's events. Each is counted with a weight of its own, so that one count serves all three.
use Rattle.std.specs.Prelude.{ℕ, ◌+◌, List, [], ◌∷◌}
use Rattle.es_event.specs.declared.ledger_event.LedgerEvent.{LedgerEvent}
use Rattle.es_event.specs.declared.ledger_event.LedgerEvent.TheVariants.{Opened, Posted, Taken, Spent, Accessed, Drained, Acted}
use Rattle.es_event.specs.History.{History}
use Rattle.es_event.specs.Ledger.{Ledger}
use Rattle.es_match.specs.Deeds.{Deed, Opens, Posts, Takes, Spends, Accesses, Waits, Passes, Ends, Sleeps, Notifies, Wakes, TimesOut}
use Rattle.es_match.specs.Asks.{Asking, nothing, to_open, to_measure, to_compare, to_access, to_miss, to_sleep, to_notify, to_post, to_receive, to_refuse, to_pass, to_empty, to_close, asks, between_jobs}

-- what is opened weighs x, what is posted y, and what is taken z
abbrev pub weight : ℕ → ℕ → ℕ → Deed → ℕ
weight x y z (Opens b w s) = x
weight x y z (Posts r m) = y
weight x y z (Takes s m w) = z
weight x y z (Spends s) = 0
weight x y z (Accesses s i m old) = 0
weight x y z (Waits s) = 0
weight x y z (Passes s) = 0
weight x y z Ends = 0
weight x y z (Sleeps s i w) = 0
weight x y z (Notifies s i n k) = 0
weight x y z (Wakes o) = 0
weight x y z (TimesOut o) = 0

abbrev pub weigh : ℕ → ℕ → ℕ → List Deed → ℕ
weigh x y z [] = 0
weigh x y z (d ∷ ds) = weight x y z d + weigh x y z ds

-- of what is asked
abbrev pub asked_weight : ℕ → ℕ → ℕ → Asking → ℕ
asked_weight x y z nothing = 0
asked_weight x y z (to_open n v) = x
asked_weight x y z (to_measure b v) = 0
asked_weight x y z (to_compare b c v) = 0
asked_weight x y z (to_access b i m v) = 0
asked_weight x y z (to_miss b i w) = 0
asked_weight x y z (to_sleep b i w r) = 0
asked_weight x y z (to_notify b i n v) = 0
asked_weight x y z (to_post a v) = y
asked_weight x y z (to_receive s v) = z
asked_weight x y z to_refuse = z
asked_weight x y z (to_pass s) = 0
asked_weight x y z (to_empty ids) = 0
asked_weight x y z to_close = 0

abbrev pub history_weight : ℕ → ℕ → ℕ → History → ℕ
history_weight x y z [] = 0
history_weight x y z (e ∷ earlier) = asked_weight x y z (asks (between_jobs earlier) e) + history_weight x y z earlier

-- of the ledger's events
abbrev pub event_weight : ℕ → ℕ → ℕ → LedgerEvent → ℕ
event_weight x y z (Opened b w s a) = x
event_weight x y z (Posted a r m) = y
event_weight x y z (Taken s r) = z
event_weight x y z (Spent s) = 0
event_weight x y z (Accessed s i m old) = 0
event_weight x y z (Acted a d) = 0
event_weight x y z (Drained s r) = 0

abbrev pub ledger_weight : ℕ → ℕ → ℕ → Ledger → ℕ
ledger_weight x y z [] = 0
ledger_weight x y z (e ∷ earlier) = event_weight x y z e + ledger_weight x y z earlier
