-- A refusal that is caught: its text is assigned and the job goes on. Where nothing is refused, the command behind `try` is done.
use Rattle.std.proofs.Common.{◌≡◌, ℕ, Bool, true, false, refl, ap, List, [], ◌∷◌, codes, length, rules, Some, None}
use Rattle.std.specs.Fmt.{digits}
use Rattle.std.specs.Str.{bytes_eq}
use Rattle.es_value.specs.declared.value.Value.TheVariants.{Undefined, Object, Text}
use Rattle.es_event.specs.declared.command.Command.{Command}
use Rattle.es_event.specs.declared.command.Command.TheVariants.{Let, New, Say, WeakRef, FinalizationRegistry, Collect}
use Rattle.es_event.specs.declared.literal.Literal.TheVariants.{Text as TextLiteral}
use Rattle.es_event.specs.declared.event.Answer.TheVariants.{Nothing, Gives}
use Rattle.es_event.specs.declared.event.Event.TheVariants.{JobBegun, CleanupBegun, Did, Refused, Emptied, Taken, JobEnded, Closed}
use Rattle.es_event.specs.declared.event.Refusal.TheVariants.{NotHeldWeakly}
use Rattle.es_event.specs.declared.plan.AgentPlan.{AgentPlan}
use Rattle.es_event.specs.History.{History}
use Rattle.es_event.specs.Order.{catching}
use Rattle.es_event.proofs.Examples.{IsOutOfPlace}
use Rattle.es_laws.proofs.Letters.{d, o, w, x}
use Rattle.es_laws.proofs.Worked.{IsWorked}

-- `try d weakref w x`, `try d new o`, `say d`, `weakref w x`
abbrev plan : AgentPlan
plan = record { name = codes "a"; callbacks = []; jobs = record { on = None; run = WeakRef w x ∷ New o ∷ Say d ∷ WeakRef w x ∷ []; catches = Some d ∷ Some d ∷ [] } ∷ [] }

abbrev text : List ℕ
text = codes "TypeError: cannot be held weakly"

abbrev begun : History
begun = JobBegun 1 ∷ []

abbrev caught : History
caught = Did (Let d (TextLiteral text), [], Gives (Text text)) ∷ begun

abbrev closed : History
closed =
    Closed
    ∷ JobEnded
    ∷ Refused NotHeldWeakly
    ∷ Did (Say d, Text text ∷ [], Nothing)
    ∷ Did (New o, [], Gives (Object 1)) ∷ caught

pub worked : IsWorked [] plan closed (codes "agent a\nsay \"TypeError: cannot be held weakly\"\nerror TypeError: cannot be held weakly\nend live 0 awaiting 0 unregistered 0 taken 0\n")
unfolding digits
worked = record { whole = (search rules, search rules); report = refl }

-- In a callback, whose second command alone stands behind `try`

abbrev plan_callback : AgentPlan
plan_callback = record {
  name = codes "a";
  callbacks = record { name = codes "c"; run = Say d ∷ WeakRef w d ∷ []; catches = None ∷ Some d ∷ [] } ∷ [];
  jobs = record { on = None; run = FinalizationRegistry x 1 ∷ []; catches = Some x ∷ Some x ∷ [] } ∷ [];
}

abbrev called : History
called = Taken 1 Undefined ∷ CleanupBegun 1 ∷ JobEnded ∷ Did (FinalizationRegistry x 1, [], Gives (Object 1)) ∷ JobBegun 1 ∷ []

first_alone : catching plan_callback called ≡ None
first_alone = refl

then_caught : catching plan_callback (Did (Say d, Undefined ∷ [], Nothing) ∷ called) ≡ Some d
then_caught = refl

-- behind a collection
abbrev plan_collect : AgentPlan
plan_collect = record { name = codes "a"; callbacks = []; jobs = record { on = None; run = Collect ∷ WeakRef w x ∷ []; catches = None ∷ Some d ∷ [] } ∷ [] }

after_a_collection : catching plan_collect (Emptied [] ∷ JobBegun 1 ∷ []) ≡ Some d
after_a_collection = refl

-- nothing is caught between two jobs
between_jobs : catching plan_callback (JobEnded ∷ Did (Say d, Undefined ∷ [], Nothing) ∷ called) ≡ None
between_jobs = refl

-- nor where a refusal stopped a callback
after_a_refusal : catching plan_callback (Refused NotHeldWeakly ∷ Did (Say d, Undefined ∷ [], Nothing) ∷ called) ≡ None
after_a_refusal = refl

-- Wrong neighbours

-- a caught refusal ends the job
ends_the_job : IsOutOfPlace plan begun (Refused NotHeldWeakly)
ends_the_job p = cc

ends_it_unsaid : IsOutOfPlace plan begun JobEnded
ends_it_unsaid p = p

-- what is refused is done
done_nevertheless : IsOutOfPlace plan begun (Did (WeakRef w x, [], Nothing))
done_nevertheless p = cc

-- it assigns the variable of the command
abbrev assigned : Command → List ℕ
assigned (Let y l) = y
assigned c = []

assigns_what_the_command_does : IsOutOfPlace plan begun (Did (Let w (TextLiteral text), [], Gives (Text text)))
assigns_what_the_command_does p = let same : ◌≡◌ {A = Bool} true false = ap (λ c. bytes_eq w (assigned c)) p in cc

-- it assigns another text
abbrev said : Command → List ℕ
said (Let y (TextLiteral t)) = t
said c = []

gives_another_text : IsOutOfPlace plan begun (Did (Let d (TextLiteral (codes "TypeError")), [], Gives (Text (codes "TypeError"))))
gives_another_text p = let same : ◌≡◌ {A = ℕ} 9 32 = ap (λ c. length (said c)) p in cc

-- something is caught where nothing is refused
catches_nothing_refused : IsOutOfPlace plan caught (Did (Let d (TextLiteral text), [], Gives (Text text)))
catches_nothing_refused p = cc

-- nothing catches what stands behind no `try`
catches_without_try : IsOutOfPlace (record { name = codes "a"; callbacks = []; jobs = record { on = None; run = WeakRef w x ∷ []; catches = [] } ∷ [] }) begun (Did (Let d (TextLiteral text), [], Gives (Text text)))
catches_without_try p = cc
