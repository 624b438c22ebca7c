-- Keys are listed by their first set since they were last absent: setting a present key again does not move it,
-- and a deleted key that is set again comes last.
use Rattle.std.proofs.Common.{true, refl, [], ◌∷◌, codes, rules}
use Rattle.std.specs.Prelude.{pos}
use Rattle.std.specs.Fmt.{digits}
use Rattle.es_value.specs.declared.value.Value.TheVariants.{Boolean, Number, Object}
use Rattle.es_event.specs.declared.literal.Literal.TheVariants.{Number as NumberLiteral}
use Rattle.es_event.specs.declared.command.Command.TheVariants.{Let, New, Say, Set, Get, Delete, Keys, WeakRef}
use Rattle.es_event.specs.declared.event.Answer.TheVariants.{Nothing, Gives, Listed}
use Rattle.es_event.specs.declared.event.Event.TheVariants.{JobBegun, Did, JobEnded, Closed}
use Rattle.es_event.specs.declared.plan.AgentPlan.{AgentPlan}
use Rattle.es_event.specs.History.{History}
use Rattle.es_event.proofs.Examples.{plan_of}
use Rattle.es_laws.proofs.Letters.{a, b, d, o, p, v, w, x}
use Rattle.es_laws.proofs.Worked.{IsWorked}

abbrev pub plan : AgentPlan
plan = plan_of ((New o ∷ Let x (NumberLiteral (pos 1)) ∷ Set o b x ∷ Set o a x ∷ Set o b x ∷ Keys o ∷ Delete d o b ∷ Set o b x ∷ Keys o ∷ Say d ∷ []) ∷ [])

-- The history, event by event

abbrev pub has_b_a : History
has_b_a =
    Did (Set o a x, Object 1 ∷ Number (pos 1) ∷ [], Nothing)
    ∷ Did (Set o b x, Object 1 ∷ Number (pos 1) ∷ [], Nothing)
    ∷ Did (Let x (NumberLiteral (pos 1)), [], Gives (Number (pos 1)))
    ∷ Did (New o, [], Gives (Object 1))
    ∷ JobBegun 1 ∷ []

abbrev pub still_b_a : History
still_b_a = Did (Set o b x, Object 1 ∷ Number (pos 1) ∷ [], Nothing) ∷ has_b_a

abbrev pub has_a : History
has_a =
    Did (Delete d o b, Object 1 ∷ [], Gives (Boolean true))
    ∷ Did (Keys o, Object 1 ∷ [], Listed (codes "b" ∷ codes "a" ∷ [])) ∷ still_b_a

abbrev pub has_a_b : History
has_a_b = Did (Set o b x, Object 1 ∷ Number (pos 1) ∷ [], Nothing) ∷ has_a

abbrev pub closed : History
closed =
    Closed
    ∷ JobEnded
    ∷ Did (Say d, Boolean true ∷ [], Nothing)
    ∷ Did (Keys o, Object 1 ∷ [], Listed (codes "a" ∷ codes "b" ∷ [])) ∷ has_a_b

pub worked : IsWorked [] plan closed (codes "agent a\nkeys b a\nkeys a b\nsay true\nend live 0 awaiting 0 unregistered 0 taken 0\n")
unfolding digits
worked = record { whole = (search rules, search rules); report = refl }

-- An object without properties: nothing follows the word keys. An absent key is deleted all the same

abbrev pub plan_empty : AgentPlan
plan_empty = plan_of ((New o ∷ Keys o ∷ Delete d o b ∷ Say d ∷ []) ∷ [])

abbrev pub listed_none : History
listed_none =
    Did (Keys o, Object 1 ∷ [], Listed [])
    ∷ Did (New o, [], Gives (Object 1))
    ∷ JobBegun 1 ∷ []

abbrev pub closed_empty : History
closed_empty =
    Closed
    ∷ JobEnded
    ∷ Did (Say d, Boolean true ∷ [], Nothing)
    ∷ Did (Delete d o b, Object 1 ∷ [], Gives (Boolean true)) ∷ listed_none

pub worked_empty : IsWorked [] plan_empty closed_empty (codes "agent a\nkeys\nsay true\nend live 0 awaiting 0 unregistered 0 taken 0\n")
unfolding digits
worked_empty = record { whole = (search rules, search rules); report = refl }

-- A WeakRef is an object: it has properties of its own, also itself as one

abbrev pub plan_weakref : AgentPlan
plan_weakref = plan_of ((New o ∷ WeakRef w o ∷ Set w p w ∷ Get v w p ∷ Say v ∷ Keys w ∷ Keys o ∷ []) ∷ [])

abbrev pub listed_p : History
listed_p =
    Did (Keys w, Object 2 ∷ [], Listed (codes "p" ∷ []))
    ∷ Did (Say v, Object 2 ∷ [], Nothing)
    ∷ Did (Get v w p, Object 2 ∷ [], Gives (Object 2))
    ∷ Did (Set w p w, Object 2 ∷ Object 2 ∷ [], Nothing)
    ∷ Did (WeakRef w o, Object 1 ∷ [], Gives (Object 2))
    ∷ Did (New o, [], Gives (Object 1))
    ∷ JobBegun 1 ∷ []

abbrev pub closed_weakref : History
closed_weakref =
    Closed
    ∷ JobEnded
    ∷ Did (Keys o, Object 1 ∷ [], Listed []) ∷ listed_p

pub worked_weakref : IsWorked [] plan_weakref closed_weakref (codes "agent a\nsay object 2\nkeys p\nkeys\nend live 0 awaiting 0 unregistered 0 taken 0\n")
unfolding digits
worked_weakref = record { whole = (search rules, search rules); report = refl }
