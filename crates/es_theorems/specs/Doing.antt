-- Internal: what an agent's deeds make of the ledger, and what each of them finds there.
use Rattle.std.specs.Prelude.{ℕ, ◌≡◌, ◌+◌, ⊤, true, false, List, [], ◌∷◌}
use Rattle.std.specs.Option.{option_map_or}
use Rattle.es_event.specs.declared.ledger_event.Body.{Body}
use Rattle.es_event.specs.declared.ledger_event.Body.TheVariants.{Plain, Block}
use Rattle.es_event.specs.declared.ledger_event.LedgerEvent.{LedgerEvent}
use Rattle.es_event.specs.declared.ledger_event.LedgerEvent.TheVariants.{Opened, Posted, Taken, Spent, Accessed, Acted}
use Rattle.es_event.specs.declared.ledger_event.Act.TheVariants.{Waiting, Passed, Ended, Slept, Notified, Woke, TimedOut}
use Rattle.es_event.specs.Ledger.{Ledger, opened, serials, front, holder_of, word}
use Rattle.es_event.specs.LegalLedger.{Reaches, ReachesAs, has_message}
use Rattle.es_event.specs.Waiters.{is_listed, taken_there}
use Rattle.es_match.specs.Deeds.{Deed, Opens, Posts, Takes, Spends, Accesses, Waits, Passes, Ends, Sleeps, Notifies, Wakes, TimesOut, words_in}

-- the event that is this deed of agent n
abbrev pub event_of : ℕ → Deed → LedgerEvent
event_of n (Opens b w s) = Opened b w s n
event_of n (Posts r m) = Posted n r m
event_of n (Takes s m w) = Taken s n
event_of n (Spends s) = Spent s
event_of n (Accesses s i m old) = Accessed s i m old
event_of n (Waits s) = Acted n (Waiting s)
event_of n (Passes s) = Acted n (Passed s)
event_of n Ends = Acted n Ended
event_of n (Sleeps s i w) = Acted n (Slept s i w)
event_of n (Notifies s i m k) = Acted n (Notified s i m k)
event_of n (Wakes o) = Acted n Woke
event_of n (TimesOut o) = Acted n TimedOut

-- the ledger after these deeds of agent n, the oldest first
abbrev pub did : ℕ → List Deed → Ledger → Ledger
did n [] l = l
did n (d ∷ ds) l = did n ds (event_of n d ∷ l)

-- the ticket in a message that is posted is the next one
abbrev pub IsNew : Ledger → Body → Type 0
IsNew l (Plain v) = ⊤
IsNew l (Block b s) = s ≡ serials l + 1

-- what the deed names is what agent n finds there
abbrev pub Fits : Ledger → ℕ → Deed → Type 0
Fits l n (Opens b w s) = (b ≡ opened l + 1) × (s ≡ serials l + 1)
Fits l n (Posts r m) = IsNew l m
Fits l n (Takes s m w) = (m ≡ front l s n) × (w ≡ option_map_or (words_in l) m 0) × (has_message l s n ≡ true)
Fits l n (Spends s) = ⊤
Fits l n (Accesses s i m old) = Reaches (holder_of l s) i (λ r. old ≡ word l r.block i)
Fits l n (Waits s) = ⊤
Fits l n (Passes s) = has_message l s n ≡ false
Fits l n Ends = ⊤
Fits l n (Sleeps s i w) = ReachesAs n (holder_of l s) i (λ r. w ≡ word l r.block i)
Fits l n (Notifies s i m k) = ReachesAs n (holder_of l s) i (λ r. k ≡ taken_there l r.block i m)
Fits l n (Wakes o) = is_listed l n ≡ false
Fits l n (TimesOut o) = is_listed l n ≡ true

-- so does each of these, the oldest first
abbrev pub AllFit : ℕ → List Deed → Ledger → Type 0
AllFit n [] l = ⊤
AllFit n (d ∷ ds) l = Fits l n d × AllFit n ds (event_of n d ∷ l)
