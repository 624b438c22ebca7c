-- Internal: an agent after one more event, and what is left of its deeds.
use Rattle.std.specs.Prelude.{ℕ, ◌≡◌, ◌<◌, ⊤, List, [], ◌∷◌, ◌++◌, Option, Some, take, drop, if◌then◌else◌}
use Rattle.es_event.specs.declared.event.Event.{Event}
use Rattle.es_event.specs.declared.row.Row.{Row}
use Rattle.es_match.specs.Asks.{Asking, asks, between_jobs, ends_job}
use Rattle.es_match.specs.Goes.{asked, goes}
use Rattle.es_match.specs.Meets.{Came, Tickets, came_after, refused_in}
use Rattle.es_match.specs.Cluster.{awaited, is_refusal_asked}
use Rattle.es_event.specs.Jobs.{job}
use Rattle.es_match.specs.Deeds.{Deed}
use Rattle.es_record.specs.AgentView.{AgentView, IsNext, with_row}
use Rattle.es_agent.specs.Tickets.{tickets}
use Rattle.es_cluster.specs.Tied.{came_to}

-- the agent after the event
abbrev pub grown : AgentView → Option Row → Event → AgentView
grown b r e = record (with_row r b) { history = e ∷ b.history }

abbrev pub asked_by : AgentView → Event → Asking
asked_by b e = asks (between_jobs b.history) e

-- how many deeds the event asks
abbrev pub deeds_asked : AgentView → Event → ℕ
deeds_asked b e = asked (tickets b) (asked_by b e)

-- the event comes next, the first of these deeds meet what it asks, and with the others the rest goes on
pub record Unfolded (b : AgentView) (e : Event) (rest : List Event) (ds : List Deed) (final : Came) : Type 0 where
  pub row : Option Row
  pub next : IsNext (with_row row b) e
  pub met : came_after (came_to b) (asked_by b e) (take (deeds_asked b e) ds) ≡ Some (came_to (grown b row e))
  pub named : refused_in (asked_by b e) (take (deeds_asked b e) ds) ≡ (if is_refusal_asked (asked_by b e) then awaited b.plan (job b.history) else [])
  pub goes_on : goes (ends_job e) (came_to (grown b row e)) rest (drop (deeds_asked b e) ds) ≡ Some final

-- the objects of these tickets are numbered above m
abbrev pub AllAbove : ℕ → Tickets → Type 0
AllAbove m [] = ⊤
AllAbove m (t ∷ ts) = (m < t.0) × AllAbove m ts

-- what came later, to an agent to which so much had come
pub record Later (m : ℕ) (c final : Came) : Type 0 where
  pub more : Tickets
  pub ever : final.ever ≡ c.ever ++ more
  pub above : AllAbove m more
  pub senders : List ℕ
  pub refused : final.refused ≡ c.refused ++ senders
