-- Plans with a warning of each kind, and what is near to one and none.
use Rattle.std.proofs.Common.{◌≡◌, refl, ℕ, List, [], ◌∷◌, Some, None, codes}
use Rattle.std.specs.Prelude.{pos}
use Rattle.std.specs.Fmt.{digits}
use Rattle.es_event.specs.declared.command.Command.{Command}
use Rattle.es_event.specs.declared.command.Command.TheVariants.{Let, New, Copy, Say, FinalizationRegistry, Register}
use Rattle.es_event.specs.declared.literal.Literal.TheVariants.{Number, Undefined}
use Rattle.es_event.specs.declared.plan.AgentPlan.{AgentPlan}
use Rattle.es_event.specs.declared.plan.Callback.{Callback as CallbackPlan}
use Rattle.es_event.specs.declared.plan.Job.{Job as JobPlan}
use Rattle.es_event.specs.declared.plan.Plan.{Plan}
use Rattle.es_warnings.specs.Texts.{warning_text}
use Rattle.es_warnings.specs.Warnings.{warning, warnings}
use Rattle.es_warnings.specs.declared.mention.Place.{Place}
use Rattle.es_warnings.specs.declared.mention.Section.{Section}
use Rattle.es_warnings.specs.declared.mention.Section.TheVariants.{Job, Callback}
use Rattle.es_warnings.specs.declared.warning.Cause.TheVariants.{Unassigned, AssignedLater, Unread, HeldTarget}

abbrev a : List ℕ
a = codes "a"

abbrev b : List ℕ
b = codes "b"

abbrev c : List ℕ
c = codes "c"

abbrev held : List ℕ
held = codes "held"

abbrev job : List Command → JobPlan
job run = record { on = None; catches = []; run = run }

abbrev agent : List CallbackPlan → List JobPlan → AgentPlan
agent callbacks jobs = record { name = codes "m"; callbacks = callbacks; jobs = jobs }

abbrev alone : List CallbackPlan → List JobPlan → Plan
alone callbacks jobs = record { agents = agent callbacks jobs ∷ [] }

abbrev at : Section → ℕ → Place
at section index = record { section = section; index = index }

-- nothing assigns a; b is assigned in the second job alone; c is assigned and not read
abbrev misspelt : Plan
misspelt = alone [] (job (Say a ∷ Say b ∷ Say a ∷ []) ∷ job (Let b (Number (pos 1)) ∷ New c ∷ Say b ∷ []) ∷ [])

warned_of : warnings misspelt ≡ warning 0 a (at (Job 0) 0) Unassigned ∷ warning 0 b (at (Job 0) 1) AssignedLater ∷ warning 0 c (at (Job 1) 1) Unread ∷ []
warned_of = refl

-- a callback may have assigned a before the job reads it, and the host assigns held; without a callback nothing does
abbrev called : List CallbackPlan
called = record { name = codes "f"; catches = []; run = Say held ∷ New a ∷ [] } ∷ []

given : warnings (alone called (job (Say a ∷ Say held ∷ []) ∷ [])) ≡ []
given = refl

not_given : warnings (alone [] (job (Say held ∷ []) ∷ [])) ≡ warning 0 held (at (Job 0) 0) Unassigned ∷ []
not_given = refl

-- what a callback reads and only a job assigns is assigned by then, or not: nobody is warned
in_callback : warnings (alone (record { name = codes "f"; catches = []; run = Say a ∷ [] } ∷ []) (job (New a ∷ []) ∷ [])) ≡ []
in_callback = refl

-- a message assigns a; what is copied into b lives on in it; undefined lets go what c held
kept : warnings (alone [] (record { on = Some (1, a); catches = []; run = Copy b a ∷ New c ∷ Say c ∷ Let c Undefined ∷ [] } ∷ [])) ≡ []
kept = refl

let_go : warnings (alone [] (job (Let a Undefined ∷ []) ∷ [])) ≡ []
let_go = refl

-- b is registered with itself, in a job and in a callback; with another held value it is not
abbrev registers : List Command
registers = FinalizationRegistry a 1 ∷ New b ∷ New c ∷ Register a b c None ∷ Register a b b (Some c) ∷ []

registered : warnings (alone (record { name = codes "f"; catches = []; run = Register a b b None ∷ [] } ∷ []) (job registers ∷ []))
    ≡ warning 0 b (at (Job 0) 4) HeldTarget ∷ warning 0 b (at (Callback 0) 0) HeldTarget ∷ []
registered = refl

-- what is made only to be let go is meant so
collected : warnings (alone [] (job (New a ∷ Let a Undefined ∷ []) ∷ [])) ≡ []
collected = refl

-- each agent has variables of its own
apart : warnings (record { agents = agent [] (job (New a ∷ []) ∷ []) ∷ agent [] (job (Say a ∷ []) ∷ []) ∷ [] })
    ≡ warning 0 a (at (Job 0) 0) Unread ∷ warning 1 a (at (Job 0) 0) Unassigned ∷ []
apart = refl

told : warning_text misspelt (warning 0 b (at (Job 0) 1) AssignedLater) ≡ codes "warning \"/agents/0/jobs/0/run/1\" b is read before anything assigns it, so it is undefined\n"
unfolding digits
told = refl

told_in_callback : warning_text (alone called []) (warning 0 a (at (Callback 0) 1) Unread) ≡ codes "warning \"/agents/0/callbacks/f/1\" nothing reads a\n"
unfolding digits
told_in_callback = refl
