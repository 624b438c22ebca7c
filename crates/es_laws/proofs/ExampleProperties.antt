-- A property is set on a number, which is refused; then one is set on an object and read, and one that is absent
-- is read.
use Rattle.std.proofs.Common.{true, refl, [], ◌∷◌, codes, rules}
use Rattle.std.specs.Prelude.{pos}
use Rattle.std.specs.Fmt.{digits}
use Rattle.es_value.specs.declared.value.Value.TheVariants.{Undefined, Boolean, Number, Object}
use Rattle.es_event.specs.declared.literal.Literal.TheVariants.{Number as NumberLiteral}
use Rattle.es_event.specs.declared.command.Command.TheVariants.{Let, New, Say, Set, Get, Delete}
use Rattle.es_event.specs.declared.event.Refusal.TheVariants.{NotAnObject}
use Rattle.es_event.specs.declared.event.Answer.TheVariants.{Nothing, Gives}
use Rattle.es_event.specs.declared.event.Event.TheVariants.{JobBegun, Did, Refused, JobEnded, Closed}
use Rattle.es_event.specs.declared.plan.AgentPlan.{AgentPlan}
use Rattle.es_event.specs.History.{History}
use Rattle.es_event.proofs.Examples.{plan_of}
use Rattle.es_laws.proofs.Letters.{a, b, d, o, p, q, x, y, z}
use Rattle.es_laws.proofs.Worked.{IsWorked}

abbrev pub plan : AgentPlan
plan = plan_of ((Let x (NumberLiteral (pos 1)) ∷ Set x p x ∷ Say x ∷ []) ∷ (New o ∷ Set o p x ∷ Get y o p ∷ Say y ∷ Get z o q ∷ Say z ∷ []) ∷ [])

-- The history, event by event

abbrev pub begun : History
begun = JobBegun 1 ∷ []

abbrev pub let_x : History
let_x = Did (Let x (NumberLiteral (pos 1)), [], Gives (Number (pos 1))) ∷ begun

abbrev pub refused : History
refused = Refused NotAnObject ∷ let_x

abbrev pub made_o : History
made_o =
    Did (New o, [], Gives (Object 1))
    ∷ JobBegun 2
    ∷ JobEnded ∷ refused

abbrev pub has_p : History
has_p = Did (Set o p x, Object 1 ∷ Number (pos 1) ∷ [], Nothing) ∷ made_o

abbrev pub said_y : History
said_y =
    Did (Say y, Number (pos 1) ∷ [], Nothing)
    ∷ Did (Get y o p, Object 1 ∷ [], Gives (Number (pos 1))) ∷ has_p

abbrev pub closed : History
closed =
    Closed
    ∷ JobEnded
    ∷ Did (Say z, Undefined ∷ [], Nothing)
    ∷ Did (Get z o q, Object 1 ∷ [], Gives Undefined) ∷ said_y

pub worked : IsWorked [] plan closed (codes "agent a\nerror TypeError: not an object\nsay 1\nsay undefined\nend live 0 awaiting 0 unregistered 0 taken 0\n")
unfolding digits
worked = record { whole = (search rules, search rules); report = refl }

-- A command reads its operands before it assigns: the object is read from the variable that the property then overwrites

abbrev pub plan_overwriting : AgentPlan
plan_overwriting = plan_of ((New o ∷ Let x (NumberLiteral (pos 1)) ∷ Set o p x ∷ Get o o p ∷ Say o ∷ []) ∷ [])

abbrev pub owner_has_p : History
owner_has_p =
    Did (Set o p x, Object 1 ∷ Number (pos 1) ∷ [], Nothing)
    ∷ Did (Let x (NumberLiteral (pos 1)), [], Gives (Number (pos 1)))
    ∷ Did (New o, [], Gives (Object 1))
    ∷ JobBegun 1 ∷ []

abbrev pub closed_overwriting : History
closed_overwriting =
    Closed
    ∷ JobEnded
    ∷ Did (Say o, Number (pos 1) ∷ [], Nothing)
    ∷ Did (Get o o p, Object 1 ∷ [], Gives (Number (pos 1))) ∷ owner_has_p

pub worked_overwriting : IsWorked [] plan_overwriting closed_overwriting (codes "agent a\nsay 1\nend live 0 awaiting 0 unregistered 0 taken 0\n")
unfolding digits
worked_overwriting = record { whole = (search rules, search rules); report = refl }

-- A property is replaced, deleted and set again

abbrev pub plan_replacing : AgentPlan
plan_replacing = plan_of ((New o ∷ Let x (NumberLiteral (pos 1)) ∷ Set o p x ∷ Set o p o ∷ Get y o p ∷ Say y ∷ Delete d o p ∷ Get y o p ∷ Say y ∷ Set o p x ∷ Get y o p ∷ Say y ∷ []) ∷ [])

abbrev pub has_itself : History
has_itself =
    Did (Set o p o, Object 1 ∷ Object 1 ∷ [], Nothing)
    ∷ Did (Set o p x, Object 1 ∷ Number (pos 1) ∷ [], Nothing)
    ∷ Did (Let x (NumberLiteral (pos 1)), [], Gives (Number (pos 1)))
    ∷ Did (New o, [], Gives (Object 1))
    ∷ JobBegun 1 ∷ []

abbrev pub deleted : History
deleted =
    Did (Delete d o p, Object 1 ∷ [], Gives (Boolean true))
    ∷ Did (Say y, Object 1 ∷ [], Nothing)
    ∷ Did (Get y o p, Object 1 ∷ [], Gives (Object 1)) ∷ has_itself

abbrev pub closed_replacing : History
closed_replacing =
    Closed
    ∷ JobEnded
    ∷ Did (Say y, Number (pos 1) ∷ [], Nothing)
    ∷ Did (Get y o p, Object 1 ∷ [], Gives (Number (pos 1)))
    ∷ Did (Set o p x, Object 1 ∷ Number (pos 1) ∷ [], Nothing)
    ∷ Did (Say y, Undefined ∷ [], Nothing)
    ∷ Did (Get y o p, Object 1 ∷ [], Gives Undefined) ∷ deleted

pub worked_replacing : IsWorked [] plan_replacing closed_replacing (codes "agent a\nsay object 1\nsay undefined\nsay 1\nend live 0 awaiting 0 unregistered 0 taken 0\n")
unfolding digits
worked_replacing = record { whole = (search rules, search rules); report = refl }

-- Two objects have a property of one name each

abbrev pub plan_apart : AgentPlan
plan_apart = plan_of ((New a ∷ Let x (NumberLiteral (pos 1)) ∷ Set a p x ∷ New b ∷ Let y (NumberLiteral (pos 2)) ∷ Set b p y ∷ Get z a p ∷ Say z ∷ Delete d b p ∷ Get z a p ∷ Say z ∷ []) ∷ [])

abbrev pub b_has_p : History
b_has_p =
    Did (Set b p y, Object 2 ∷ Number (pos 2) ∷ [], Nothing)
    ∷ Did (Let y (NumberLiteral (pos 2)), [], Gives (Number (pos 2)))
    ∷ Did (New b, [], Gives (Object 2))
    ∷ Did (Set a p x, Object 1 ∷ Number (pos 1) ∷ [], Nothing)
    ∷ Did (Let x (NumberLiteral (pos 1)), [], Gives (Number (pos 1)))
    ∷ Did (New a, [], Gives (Object 1))
    ∷ JobBegun 1 ∷ []

abbrev pub closed_apart : History
closed_apart =
    Closed
    ∷ JobEnded
    ∷ Did (Say z, Number (pos 1) ∷ [], Nothing)
    ∷ Did (Get z a p, Object 1 ∷ [], Gives (Number (pos 1)))
    ∷ Did (Delete d b p, Object 2 ∷ [], Gives (Boolean true))
    ∷ Did (Say z, Number (pos 1) ∷ [], Nothing)
    ∷ Did (Get z a p, Object 1 ∷ [], Gives (Number (pos 1))) ∷ b_has_p

pub worked_apart : IsWorked [] plan_apart closed_apart (codes "agent a\nsay 1\nsay 1\nend live 0 awaiting 0 unregistered 0 taken 0\n")
unfolding digits
worked_apart = record { whole = (search rules, search rules); report = refl }
