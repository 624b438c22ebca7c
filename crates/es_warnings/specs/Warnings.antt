-- To believe: what a plan is warned of. Nothing of it is a fault: the plan runs, and a warning changes nothing of its report.
use Rattle.std.specs.Prelude.{ℕ, ◌+◌, ◌&&◌, not, Bool, true, false, List, [], ◌∷◌, ◌++◌, flat_map, fold, Option, Some, None, is_some, option_map, option_and_then, option_to_list, unwrap_or, if◌then◌else◌}
use Rattle.std.specs.List.{list_any}
use Rattle.std.specs.Str.{bytes_eq}
use Rattle.es_event.specs.declared.command.Command.{Command}
use Rattle.es_event.specs.declared.plan.AgentPlan.{AgentPlan}
use Rattle.es_event.specs.declared.plan.Callback.{Callback as CallbackPlan}
use Rattle.es_event.specs.declared.plan.Job.{Job as JobPlan}
use Rattle.es_event.specs.declared.plan.Plan.{Plan}
use Rattle.es_warnings.specs.Mentions.{Mention, each_callback, each_command, each_job, mentioned}
use Rattle.es_warnings.specs.declared.mention.Manner.{Manner}
use Rattle.es_warnings.specs.declared.mention.Manner.TheVariants.{Read, Answered, Assigned}
use Rattle.es_warnings.specs.declared.mention.Place.{Place}
use Rattle.es_warnings.specs.declared.mention.Section.{Section}
use Rattle.es_warnings.specs.declared.mention.Section.TheVariants.{Job, Callback}
use Rattle.es_warnings.specs.declared.warning.Cause.{Cause}
use Rattle.es_warnings.specs.declared.warning.Cause.TheVariants.{Unassigned, AssignedLater, Unread, HeldTarget}
use Rattle.es_warnings.specs.declared.warning.Warning.{Warning}

-- Of mentions, the newest first

abbrev pub newest_first : List Mention → List Mention
newest_first ms = fold (λ past m. m ∷ past) [] ms

abbrev pub is_of : List ℕ → Mention → Bool
is_of x m = bytes_eq m.name x

abbrev pub is_reading : Manner → Bool
is_reading Read = true
is_reading Answered = false
is_reading Assigned = false

abbrev pub is_answer : Manner → Bool
is_answer Read = false
is_answer Answered = true
is_answer Assigned = false

abbrev pub is_in_callback : Section → Bool
is_in_callback (Job j) = false
is_in_callback (Callback k) = true

-- the mention of x that came first
abbrev pub first_mention : List Mention → List ℕ → Option Mention
first_mention [] x = None
first_mention (m ∷ past) x = if is_of x m then Some (unwrap_or (first_mention past x) m) else first_mention past x

-- the variables, in the order of their first mentions
abbrev pub variables : List Mention → List (List ℕ)
variables [] = []
variables (m ∷ past) = if is_some (first_mention past m.name) then variables past else variables past ++ m.name ∷ []

-- it is read, or assigned otherwise than by answers
abbrev pub is_used : List Mention → List ℕ → Bool
is_used past x = list_any (λ m. is_of x m && not (is_answer m.manner)) past

abbrev pub is_assigned : List Mention → List ℕ → Bool
is_assigned past x = list_any (λ m. is_of x m && not (is_reading m.manner)) past

-- it is assigned in a callback
abbrev pub is_given : List Mention → List ℕ → Bool
is_given past x = list_any (λ m. is_of x m && (not (is_reading m.manner) && is_in_callback m.place.section)) past

-- What is warned of

-- why a variable is warned of that is first mentioned so: it is read before it can have been assigned, where one callback may run before
-- any job and before any other; or it is assigned answers alone, and nothing reads it
abbrev pub cause_of : (first : Manner) → (used assigned given : Bool) → Option Cause
cause_of Read u a true = None
cause_of Read u true false = Some AssignedLater
cause_of Read u false false = Some Unassigned
cause_of Answered true a g = None
cause_of Answered false a g = Some Unread
cause_of Assigned u a g = None

abbrev pub warning : ℕ → List ℕ → Place → Cause → Warning
warning agent x place cause = record { agent = agent; place = place; name = x; cause = cause }

-- it is warned of where it is first mentioned
abbrev pub of_variable : ℕ → List Mention → List ℕ → Option Warning
of_variable agent past x =
    option_and_then (λ m. option_map (warning agent x m.place) (cause_of m.manner (is_used past x) (is_assigned past x) (is_given past x))) (first_mention past x)

abbrev pub of_variables : ℕ → List Mention → List Warning
of_variables agent past = flat_map (λ x. option_to_list (of_variable agent past x)) (variables past)

-- the variable that a command registers with itself as the held value, which FinalizationRegistry.prototype.register refuses
abbrev pub held_target : Command → Option (List ℕ)
held_target (Command.Register q y v t) = if bytes_eq y v then Some y else None
held_target _ = None

abbrev pub of_command : ℕ → Place → Command → List Warning
of_command agent place c = option_to_list (option_map (λ x. warning agent x place HeldTarget) (held_target c))

abbrev pub of_job : ℕ → Section → JobPlan → List Warning
of_job agent s job = each_command (of_command agent) s 0 job.run

abbrev pub of_callback : ℕ → Section → CallbackPlan → List Warning
of_callback agent s c = each_command (of_command agent) s 0 c.run

-- first of its variables, then of what it registers
abbrev pub of_agent : ℕ → AgentPlan → List Warning
of_agent agent a = of_variables agent (newest_first (mentioned a)) ++ each_job (of_job agent) 0 a.jobs ++ each_callback (of_callback agent) 0 a.callbacks

-- of agents, of which the first has this number
abbrev pub of_agents : ℕ → List AgentPlan → List Warning
of_agents agent [] = []
of_agents agent (a ∷ rest) = of_agent agent a ++ of_agents (agent + 1) rest

abbrev pub warnings : Plan → List Warning
warnings p = of_agents 0 p.agents
