-- A WeakRef is dereferenced in the job that made it, and in the next one.
use Rattle.std.proofs.Common.{refl, [], ◌∷◌, codes, rules}
use Rattle.std.specs.Fmt.{digits}
use Rattle.es_value.specs.declared.value.Value.TheVariants.{Undefined, Object}
use Rattle.es_event.specs.declared.command.Command.TheVariants.{New, Say, WeakRef, Deref}
use Rattle.es_event.specs.declared.event.Answer.TheVariants.{Nothing, Gives}
use Rattle.es_event.specs.declared.event.Event.TheVariants.{JobBegun, Did, JobEnded, Closed}
use Rattle.es_event.specs.declared.plan.AgentPlan.{AgentPlan}
use Rattle.es_event.specs.History.{History}
use Rattle.es_event.proofs.Examples.{plan_of}
use Rattle.es_laws.proofs.Letters.{a, b, c, d, w}
use Rattle.es_laws.proofs.Worked.{IsWorked}

abbrev pub plan : AgentPlan
plan = plan_of ((New a ∷ WeakRef w a ∷ Deref b w ∷ Say b ∷ []) ∷ (Deref c w ∷ Say c ∷ Say d ∷ []) ∷ [])

-- The history, event by event

abbrev pub begun : History
begun = JobBegun 1 ∷ []

abbrev pub made_a : History
made_a = Did (New a, [], Gives (Object 1)) ∷ begun

abbrev pub made_w : History
made_w = Did (WeakRef w a, Object 1 ∷ [], Gives (Object 2)) ∷ made_a

abbrev pub derefed : History
derefed = Did (Deref b w, Object 2 ∷ [], Gives (Object 1)) ∷ made_w

abbrev pub said_b : History
said_b = Did (Say b, Object 1 ∷ [], Nothing) ∷ derefed

abbrev pub ended : History
ended = JobEnded ∷ said_b

abbrev pub begun_again : History
begun_again = JobBegun 2 ∷ ended

abbrev pub derefed_again : History
derefed_again = Did (Deref c w, Object 2 ∷ [], Gives (Object 1)) ∷ begun_again

abbrev pub said_c : History
said_c = Did (Say c, Object 1 ∷ [], Nothing) ∷ derefed_again

abbrev pub said_d : History
said_d = Did (Say d, Undefined ∷ [], Nothing) ∷ said_c

abbrev pub ended_again : History
ended_again = JobEnded ∷ said_d

abbrev pub closed : History
closed = Closed ∷ ended_again

pub worked : IsWorked [] plan closed (codes "agent a\nsay object 1\nsay object 1\nsay undefined\nend live 0 awaiting 0 unregistered 0 taken 0\n")
unfolding digits
worked = record { whole = (search rules, search rules); report = refl }
