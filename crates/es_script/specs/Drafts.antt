-- Internal: what was read of an object so far. Each member is there or not, in whatever order they came.
use Rattle.std.specs.Prelude.{ℕ, ◌≡◌, ◌≤◌, true, List, length, codes, Option, Some, None, Ok}
use Rattle.json.specs.Token.{Token}
use Rattle.serde_json.specs.Data.{Data, string, number, unsigned, Members, no_members, member}
use Rattle.es_value.specs.Limits.{most_agents, most_callbacks, most_jobs}
use Rattle.es_value.specs.Spelling.{is_name}
use Rattle.es_event.specs.declared.command.Command.{Command}
use Rattle.es_event.specs.declared.plan.Callback.{Callback}
use Rattle.es_event.specs.declared.plan.Job.{Job}
use Rattle.es_event.specs.declared.plan.AgentPlan.{AgentPlan}
use Rattle.es_reading.specs.declared.fault.Place.{Place}
use Rattle.es_reading.specs.declared.fault.Place.TheVariants.{Callback as CallbackPlace}
use Rattle.es_reading.specs.declared.fault.Spot.{Spot}
use Rattle.es_reading.specs.declared.version.Version.{Version}
use Rattle.es_reading.specs.Versions.{number_of_version}
use Rattle.serde_json.specs.Find.{get}
use Rattle.es_reading.specs.Parts.{items_in, members_in, text_in}
use Rattle.es_reading.specs.Scope.{Scope}
use Rattle.es_reading.specs.Shape.{is_callback, is_text_pair, is_array_of, is_object_of, is_job, is_agent}
use Rattle.es_reading.specs.Reading.{on_read, body_read, callback_read, callbacks_read, jobs_read, all_read}
use Rattle.es_script.specs.declared.job.JobDraft.{JobDraft}
use Rattle.es_script.specs.declared.agent.AgentDraft.{AgentDraft}
use Rattle.es_script.specs.declared.by_tokens.PlanDraft.{PlanDraft}
use Rattle.es_script.specs.Taking.{plain, IsRead, TookMembers}

-- what is kept of a member's value, where it is there
abbrev pub IsKept : {A : Type 0} → (Data → A → Type 0) → Option Data → Option A → Type 0
IsKept Of None None = Unit {0}
IsKept Of None (Some x) = ⊥
IsKept Of (Some d) None = ⊥
IsKept Of (Some d) (Some x) = Of d x

-- a member, where it is there, and then the others
abbrev pub with_member : List ℕ → Option Data → Members → Members
with_member k None ms = ms
with_member k (Some d) ms = member k d ms

-- Jobs

abbrev pub IsRun : Scope → Place → Data → List Command → Type 0
IsRun scope p d cs = IsRead is_callback (λ d. body_read scope p (items_in (Some d))) d (plain cs)

abbrev pub IsAwaited : Scope → Spot → Data → (ℕ × List ℕ) → Type 0
IsAwaited scope s d on = IsRead (λ d. is_text_pair (Some d)) (λ d. on_read scope s (Some d)) d (Some on)

abbrev pub job_members : Option Data → Option Data → Members
job_members on run = with_member (codes "on") on (with_member (codes "run") run no_members)

pub record IsJobDraft (scope : Scope) (p : Place) (old now : List Token) (draft : JobDraft) : Type 0 where
  pub on_value : Option Data
  pub run_value : Option Data
  pub members : TookMembers 2 (job_members on_value run_value) old now
  pub on_kept : IsKept (IsAwaited scope (record { place = p; command = 0 })) on_value draft.on
  pub run_kept : IsKept (IsRun scope p) run_value draft.run

-- Callbacks

-- a callback with this name, whatever its number
abbrev pub IsCallback : Scope → ℕ → List ℕ → Data → Callback → Type 0
IsCallback scope a k d c = (is_callback d ≡ true) × ((n : ℕ) → callback_read scope (CallbackPlace a n) k d ≡ Ok c)

abbrev pub AreCallbacks : Scope → ℕ → Data → List Callback → Type 0
AreCallbacks scope a d cs = (is_object_of is_callback (Some d) ≡ true) × (callbacks_read scope a 1 (members_in (Some d)) ≡ Ok cs) × (length cs ≤ most_callbacks)

-- Agents

abbrev pub IsNameOf : Data → List ℕ → Type 0
IsNameOf d n = (d ≡ string n) × (is_name n ≡ true)

abbrev pub AreJobs : Scope → ℕ → Data → List Job → Type 0
AreJobs scope a d js = (is_array_of is_job (Some d) ≡ true) × (jobs_read scope a 1 (items_in (Some d)) ≡ Ok js) × (length js ≤ most_jobs)

abbrev pub agent_members : Option Data → Option Data → Option Data → Members
agent_members callbacks jobs name = with_member (codes "callbacks") callbacks (with_member (codes "jobs") jobs (with_member (codes "name") name no_members))

pub record IsAgentDraft (scope : Scope) (a : ℕ) (old now : List Token) (draft : AgentDraft) : Type 0 where
  pub callbacks_value : Option Data
  pub jobs_value : Option Data
  pub name_value : Option Data
  pub members : TookMembers 4 (agent_members callbacks_value jobs_value name_value) old now
  pub callbacks_kept : IsKept (AreCallbacks scope a) callbacks_value draft.callbacks
  pub jobs_kept : IsKept (AreJobs scope a) jobs_value draft.jobs
  pub name_kept : IsKept IsNameOf name_value draft.name

-- an agent that names what is in the scope
pub record IsAgentWithin (scope : Scope) (a : ℕ) (d : Data) (plan : AgentPlan) : Type 0 where
  pub shaped : is_agent d ≡ true
  pub named : text_in (get (codes "name") d) ≡ plan.name
  pub spelled : is_name plan.name ≡ true
  pub callbacks : callbacks_read scope a 1 (members_in (get (codes "callbacks") d)) ≡ Ok plan.callbacks
  pub few_callbacks : length plan.callbacks ≤ most_callbacks
  pub jobs : jobs_read scope a 1 (items_in (get (codes "jobs") d)) ≡ Ok plan.jobs
  pub few_jobs : length plan.jobs ≤ most_jobs

-- Plans

abbrev pub AreAgents : Version → Data → List AgentPlan → Type 0
AreAgents v d ps = (is_array_of is_agent (Some d) ≡ true) × (all_read v (items_in (Some d)) ≡ Ok ps) × (1 ≤ length ps) × (length ps ≤ most_agents)

abbrev pub IsVersion : Data → Version → Type 0
IsVersion d v = d ≡ number (unsigned (number_of_version v))

abbrev pub plan_members : Option Data → Option Data → Members
plan_members agents version = with_member (codes "agents") agents (with_member (codes "version") version no_members)

-- the agents are read as those of a plan of version v
pub record IsPlanDraft (v : Version) (old now : List Token) (draft : PlanDraft) : Type 0 where
  pub agents_value : Option Data
  pub version_value : Option Data
  pub members : TookMembers 6 (plan_members agents_value version_value) old now
  pub agents_kept : IsKept (AreAgents v) agents_value draft.agents
  pub version_kept : IsKept IsVersion version_value draft.version
