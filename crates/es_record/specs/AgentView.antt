-- To believe: an agent as callers see it: its plan, its buffers and its history, and what one more event leaves of it.
use Rattle.std.specs.Prelude.{ℕ, ◌≡◌, ◌+◌, false, List, [], ◌∷◌, Option}
use Rattle.std.specs.Option.{option_map_or}
use Rattle.std.specs.List.{AllByRecursion}
use Rattle.es_value.specs.declared.value.Value.{Value}
use Rattle.es_event.specs.declared.event.Event.{Event}
use Rattle.es_event.specs.declared.plan.AgentPlan.{AgentPlan}
use Rattle.es_event.specs.declared.row.Row.{Row}
use Rattle.es_event.specs.History.{History}
use Rattle.es_event.specs.Identities.{gone, has_identity_in, made, empties}
use Rattle.es_event.specs.Jobs.{receivers}
use Rattle.es_event.specs.Sharing.{Buffers}
use Rattle.es_event.specs.Legal.{Lawful}
use Rattle.es_event.specs.Order.{due}
use Rattle.es_event.specs.Follows.{Permits}

pub record AgentView : Type 0 where
  pub plan : AgentPlan
  -- its place among the agents, counted from 0
  pub number : ℕ
  -- how many agents there are
  pub agents : ℕ
  -- each buffer object that it ever had, with what its ticket named, the newest first
  pub over : Buffers
  -- its events so far, the newest first
  pub history : History

-- none of these values is emptied
abbrev pub AreThere : AgentView → List Value → Type 0
AreThere b vs = AllByRecursion (λ v. has_identity_in (gone b.history) v ≡ false) vs

-- the event is one that the rules and the plan give next
pub record IsNext (b : AgentView) (e : Event) : Type 0 where
  pub lawful : Lawful b.over (receivers b.plan.jobs) b.history e
  pub permitted : Permits b.over (receivers b.plan.jobs) b.history (due b.plan b.history) e

-- the event was appended, and nothing else changed
abbrev pub Records : AgentView → Event → AgentView → Type 0
Records old e new = new ≡ record old { history = e ∷ old.history }

-- the agent with one buffer object more, of the next identity, over the block that the row names
abbrev pub with_buffer : Row → AgentView → AgentView
with_buffer r b = record b { over = (made b.history + 1, r) ∷ b.over }

-- the same, where one comes
abbrev pub with_row : Option Row → AgentView → AgentView
with_row row b = record b { over = option_map_or (λ r. (made b.history + 1, r) ∷ b.over) row b.over }

-- what the newest event emptied
abbrev pub emptied_last : History → List ℕ
emptied_last [] = []
emptied_last (e ∷ earlier) = empties e
