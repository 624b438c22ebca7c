-- Internal: one way in which an agent goes on, with what it does in the ledger.
use Rattle.std.specs.Prelude.{ℕ, ◌≡◌, List, [], Option, Some, if◌then◌else◌}
use Rattle.es_event.specs.declared.event.Event.{Event}
use Rattle.es_event.specs.declared.row.Row.{Row}
use Rattle.es_event.specs.Identities.{made}
use Rattle.es_event.specs.Jobs.{job}
use Rattle.es_event.specs.Ledger.{Ledger}
use Rattle.es_match.specs.Asks.{Asking, asks, between_jobs}
use Rattle.es_match.specs.Cluster.{awaited, is_refusal_asked}
use Rattle.es_match.specs.Deeds.{Deed}
use Rattle.es_match.specs.Meets.{Tickets, after, refused_in, ticket_in}
use Rattle.es_record.specs.AgentView.{AgentView, IsNext, with_row}
use Rattle.es_agent.specs.Tickets.{tickets}
use Rattle.es_theorems.specs.Doing.{AllFit}
use Rattle.es_theorems.specs.Settled.{came_row}

abbrev pub asked_by : AgentView → Event → Asking
asked_by b e = asks (between_jobs b.history) e

-- agent n, of this view, has event e next, and does not sleep in between, with this ticket, by these deeds
pub record Move (n : ℕ) (l : Ledger) (b : AgentView) (e : Event) (r : Option Row) (ds : List Deed) : Type 0 where
  pub next : IsNext (with_row r b) e
  pub left : Tickets
  pub met : after (tickets b) (asked_by b e) ds ≡ Some left
  pub came : ticket_in (asked_by b e) ds ≡ came_row (made b.history) r
  pub sender : refused_in (asked_by b e) ds ≡ (if is_refusal_asked (asked_by b e) then awaited b.plan (job b.history) else [])
  pub fit : AllFit n ds l
