-- To believe: where an agent's plan mentions its variables, and how.
use Rattle.std.specs.Prelude.{ℕ, ◌+◌, List, [], ◌∷◌, ◌++◌, map, Option, option_to_list, codes}
use Rattle.es_event.specs.declared.command.Command.{Command}
use Rattle.es_event.specs.declared.literal.Literal.{Literal}
use Rattle.es_event.specs.declared.literal.Literal.TheVariants.{Undefined}
use Rattle.es_event.specs.declared.plan.AgentPlan.{AgentPlan}
use Rattle.es_event.specs.declared.plan.Callback.{Callback as CallbackPlan}
use Rattle.es_event.specs.declared.plan.Job.{Job as JobPlan}
use Rattle.es_event.specs.Commands.{assigns, reads}
use Rattle.es_warnings.specs.declared.mention.Manner.{Manner}
use Rattle.es_warnings.specs.declared.mention.Manner.TheVariants.{Read, Answered, Assigned}
use Rattle.es_warnings.specs.declared.mention.Place.{Place}
use Rattle.es_warnings.specs.declared.mention.Section.{Section}
use Rattle.es_warnings.specs.declared.mention.Section.TheVariants.{Job, Callback}

pub record Mention : Type 0 where
  pub name : List ℕ
  pub manner : Manner
  pub place : Place

-- undefined lets go what the variable held
abbrev pub of_literal : Literal → Manner
of_literal Undefined = Assigned
of_literal l = Answered

-- how the command mentions the variable that it assigns. Literals, new values and answers are for that variable alone; what the others
-- assign lives elsewhere too, so that the variable keeps it, or they do more than assign, or they are accesses to shared memory
abbrev pub manner_of : Command → Manner
manner_of (Command.Let to l) = of_literal l
manner_of (Command.New to) = Answered
manner_of (Command.Symbol to) = Answered
manner_of (Command.SymbolFor to t) = Answered
manner_of (Command.Same to y z) = Answered
manner_of (Command.WeakMap to) = Answered
manner_of (Command.WeakMapHas to m k) = Answered
manner_of (Command.WeakSet to) = Answered
manner_of (Command.WeakSetHas to s y) = Answered
manner_of (Command.FinalizationRegistry to c) = Answered
manner_of (Command.SharedArrayBuffer to n) = Answered
manner_of (Command.Length to b) = Answered
manner_of (Command.SameBlock to b c) = Answered
manner_of _ = Assigned

abbrev pub mention : Place → Manner → List ℕ → Mention
mention place manner x = record { name = x; manner = manner; place = place }

abbrev pub read_all : Place → List (List ℕ) → List Mention
read_all place xs = map (mention place Read) xs

-- a command reads its operands, and then assigns
abbrev pub mentions : Place → Command → List Mention
mentions place c = read_all place (reads c) ++ map (mention place (manner_of c)) (option_to_list (assigns c))

-- Going through an agent's plan

module _ {A : Type 0} where
  -- of commands, of which the first has the index i
  abbrev pub each_command : (Place → Command → List A) → Section → ℕ → List Command → List A
  each_command f s i [] = []
  each_command f s i (c ∷ cs) = f (record { section = s; index = i }) c ++ each_command f s (i + 1) cs

  -- of jobs, of which the first has the number j
  abbrev pub each_job : (Section → JobPlan → List A) → ℕ → List JobPlan → List A
  each_job f j [] = []
  each_job f j (job ∷ jobs) = f (Job j) job ++ each_job f (j + 1) jobs

  -- of callbacks, of which the first has the number k
  abbrev pub each_callback : (Section → CallbackPlan → List A) → ℕ → List CallbackPlan → List A
  each_callback f k [] = []
  each_callback f k (c ∷ cs) = f (Callback k) c ++ each_callback f (k + 1) cs

-- the variable that is assigned the message that a job waits for
abbrev pub awaited : Section → Option (ℕ × List ℕ) → List Mention
awaited s on = map (λ p. mention (record { section = s; index = 0 }) Assigned p.1) (option_to_list on)

-- the variable that catches the refusal of the command there
abbrev pub caught_at : Place → Option (List ℕ) → List Mention
caught_at place x = map (mention place Assigned) (option_to_list x)

-- those that catch refusals, of which the first stands at index i
abbrev pub caught : Section → ℕ → List (Option (List ℕ)) → List Mention
caught s i [] = []
caught s i (x ∷ xs) = caught_at (record { section = s; index = i }) x ++ caught s (i + 1) xs

-- a plan does not tell whether a refusal is caught, so what may be assigned then is mentioned before the commands
abbrev pub in_job : Section → JobPlan → List Mention
in_job s job = awaited s job.on ++ (caught s 0 job.catches ++ each_command mentions s 0 job.run)

-- the host assigns `held` before it calls a callback
abbrev pub in_callback : Section → CallbackPlan → List Mention
in_callback s c = mention (record { section = s; index = 0 }) Assigned (codes "held") ∷ (caught s 0 c.catches ++ each_command mentions s 0 c.run)

-- all, in the order of the jobs, and then of the callbacks, which may run between any two jobs
abbrev pub mentioned : AgentPlan → List Mention
mentioned a = each_job in_job 0 a.jobs ++ each_callback in_callback 0 a.callbacks
