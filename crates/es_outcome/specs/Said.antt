-- Internal: what an agent says came to it from the ledger, and where it is in its plan.
use Rattle.std.specs.Prelude.{ℕ, ◌≡◌, Bool, ◌==◌, ◌&&◌, List, [], ◌∷◌, length, drop, is_some, map, reverse, slice_get, if◌then◌else◌}
use Rattle.std.specs.Option.{option_and_then, option_map_or}
use Rattle.es_event.specs.declared.event.Event.{Event}
use Rattle.es_event.specs.declared.plan.AgentPlan.{AgentPlan}
use Rattle.es_event.specs.declared.plan.Job.{Job}
use Rattle.es_event.specs.History.{History, total}
use Rattle.es_event.specs.Jobs.{cleaning, job, passes_job, waits_for_nobody}
use Rattle.es_event.specs.Sharing.{messages_posted}
use Rattle.es_match.specs.Asks.{asks, between_jobs}
use Rattle.es_event.specs.Ledger.{Ledger}
use Rattle.es_match.specs.Cluster.{HaveCome, awaited, is_refusal_asked, refused_senders}
use Rattle.es_match.specs.Meets.{Came, Tickets}
use Rattle.es_record.specs.AgentView.{AgentView}
use Rattle.es_outcome.specs.declared.said.Place.{Place}

-- what came, but for what is left of it
pub record SaidView : Type 0 where
  pub ever : Tickets
  pub refused : List ℕ

abbrev pub told_of : Came → SaidView
told_of c = record { ever = c.ever; refused = c.refused }

abbrev pub said_by : AgentView → SaidView
said_by b = record { ever = reverse b.over; refused = refused_senders b.plan b.history }

-- the sender whose message the event refused for want of room
abbrev pub refused_at : AgentPlan → History → Event → List ℕ
refused_at plan earlier e = if is_refusal_asked (asks (between_jobs earlier) e) then awaited plan (job earlier) else []

-- the sender that the first of these jobs waits for
abbrev pub awaited_first : List Job → List ℕ
awaited_first jobs = option_map_or (λ on. on.0 ∷ []) (option_and_then (λ j. j.on) (slice_get jobs 0)) []

-- the place is where the history leads in these jobs
pub record IsAt (jobs : List Job) (h : History) (p : Place) : Type 0 where
  pub left : p.jobs.now ≡ drop (total passes_job h) jobs
  pub cleans : p.is_cleaning ≡ is_some (cleaning h)
  pub between : p.is_between ≡ between_jobs h

-- histories and ledger are those of one cluster, and this is what came to its agents
pub record IsTold (hs : List History) (l : Ledger) (all : List SaidView) : Type 0 where
  pub came : List Came
  pub have : HaveCome hs l came
  pub said : map told_of came ≡ all

-- the agent never had a buffer, posted nothing and waits for nobody: so it asks the ledger for nothing before its end
abbrev pub is_calm : AgentView → Bool
is_calm b = (length b.over == 0) && ((messages_posted b.history == 0) && waits_for_nobody b.plan)
