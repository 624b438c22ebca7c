-- To believe: what a step of an agent without buffer objects came to, and a run that is too long.
use Rattle.std.specs.Prelude.{ℕ, ◌≡◌, Bool, true, false, length}
use Rattle.es_event.specs.declared.event.Event.{Event}
use Rattle.es_event.specs.declared.plan.AgentPlan.{AgentPlan}
use Rattle.es_event.specs.History.{History}
use Rattle.es_event.specs.Runs.{IsRun}
use Rattle.es_record.specs.AgentView.{AgentView, Records}
use Rattle.es_rules.specs.Needs.{need, asks_nothing}
use Rattle.embed.specs.declared.drive.Outside.{Outside}
use Rattle.embed.specs.Outside.{Meets}

-- the agent has one event more, which met what stands outside; or it had ended, and nothing has changed
abbrev pub Goes : Bool → AgentView → Outside → AgentView → Outside → Type 0
Goes true old before new after = (e : Event) × Records old e new × Meets e before after
Goes false old before new after = (need old ≡ asks_nothing) × (new ≡ old) × (after ≡ before)

-- some run of the plan has so many events
abbrev pub RunsSoLong : AgentPlan → ℕ → Type 0
RunsSoLong plan n = (h : History) × IsRun plan h × (length h ≡ n)
