-- Internal: an agent's deeds with the sleeps that it begins, and one way in which an agent goes on, whether it sleeps in between or not.
use Rattle.std.specs.Prelude.{ℕ, ◌≡◌, ⊤, List, [], ◌∷◌, Option, Some, None, if◌then◌else◌}
use Rattle.es_event.specs.declared.event.Event.{Event}
use Rattle.es_event.specs.declared.row.Row.{Row}
use Rattle.es_event.specs.Identities.{made}
use Rattle.es_event.specs.Jobs.{job}
use Rattle.es_event.specs.Ledger.{Ledger}
use Rattle.es_event.specs.Waiters.{asleep}
use Rattle.es_match.specs.declared.deed.Sleep.{Sleep}
use Rattle.es_match.specs.Cluster.{awaited, is_refusal_asked}
use Rattle.es_match.specs.Deeds.{Deed, Sleeps, Wakes, TimesOut, is_sleep, sleep_of}
use Rattle.es_match.specs.Meets.{Tickets, after, refused_in, ticket_in}
use Rattle.es_record.specs.AgentView.{AgentView, IsNext, with_row}
use Rattle.es_agent.specs.Tickets.{tickets}
use Rattle.es_theorems.specs.Doing.{AllFit}
use Rattle.es_theorems.specs.Move.{asked_by}
use Rattle.es_theorems.specs.Settled.{came_row}

-- an agent is awake, or sleeps; which sleep it is may be known
pub data State : Type 0 where
  awake : State
  sleeping : (sleep : Option Sleep) → State

-- in this state that sleep may end
abbrev pub MayEnd : State → Option Sleep → Type 0
MayEnd awake p = ⊥
MayEnd (sleeping None) p = ⊤
MayEnd (sleeping (Some s)) p = p ≡ Some s

-- a deed leads from one state to the other: who sleeps does nothing but end its sleep
abbrev pub Leads : State → Deed → State → Type 0
Leads u (Sleeps s i w) v = (u ≡ awake) × (v ≡ sleeping (Some (record { serial = s; index = i; word = w })))
Leads u (Wakes p) v = MayEnd u p × (v ≡ awake)
Leads u (TimesOut p) v = MayEnd u p × (v ≡ awake)
Leads u d v = (u ≡ awake) × (v ≡ awake)

-- so do these deeds, the oldest first
abbrev pub Led : State → List Deed → State → Type 0
Led u [] v = v ≡ u
Led u (d ∷ ds) v = (mid : State) × Leads u d mid × Led mid ds v

-- agent n in this ledger, without saying which sleep it is
abbrev pub state_at : Ledger → ℕ → State
state_at l n = if asleep l n then sleeping None else awake

-- agent n is in this state
abbrev pub IsIn : State → Ledger → ℕ → Type 0
IsIn awake l n = sleep_of l n ≡ None
IsIn (sleeping None) l n = (s : Sleep) × (sleep_of l n ≡ Some s)
IsIn (sleeping (Some s)) l n = sleep_of l n ≡ Some s

-- what an agent's part has of its deeds: not the beginnings of sleeps
abbrev pub shown : List Deed → List Deed
shown [] = []
shown (d ∷ ds) = if is_sleep d then shown ds else d ∷ shown ds

-- agent n, of this view, has event e next, with this ticket, by these deeds, after which it is awake
pub record Way (n : ℕ) (l : Ledger) (b : AgentView) (e : Event) (r : Option Row) (ds : List Deed) : Type 0 where
  pub next : IsNext (with_row r b) e
  pub left : Tickets
  pub met : after (tickets b) (asked_by b e) (shown ds) ≡ Some left
  pub came : ticket_in (asked_by b e) (shown ds) ≡ came_row (made b.history) r
  pub sender : refused_in (asked_by b e) (shown ds) ≡ (if is_refusal_asked (asked_by b e) then awaited b.plan (job b.history) else [])
  pub fit : AllFit n ds l
  pub led : Led (state_at l n) ds awake
