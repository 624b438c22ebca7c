-- A number is neither held weakly nor dereferenced. A WeakRef to a number is refused for the number even where
-- there is no room for another identity.
use Rattle.std.proofs.Common.{◌≡◌, refl, [], ◌∷◌, codes, rules, Ok, Err}
use Rattle.std.specs.Prelude.{pos}
use Rattle.std.specs.Fmt.{digits}
use Rattle.es_value.specs.declared.value.Value.TheVariants.{Number, Registered, Object, Symbol as SymbolValue}
use Rattle.es_event.specs.Heard.{silence}
use Rattle.es_event.specs.declared.literal.Literal.TheVariants.{Number as NumberLiteral}
use Rattle.es_event.specs.declared.command.Command.TheVariants.{Let, New, Symbol, SymbolFor, Set, Get, Delete, Keys, WeakRef, Deref}
use Rattle.es_event.specs.declared.event.Refusal.TheVariants.{NotAnObject, NotAWeakRef, NotHeldWeakly, TooManyValues}
use Rattle.es_event.specs.declared.event.Answer.TheVariants.{Gives}
use Rattle.es_event.specs.declared.event.Event.TheVariants.{JobBegun, Did, Refused, JobEnded, Closed}
use Rattle.es_event.specs.declared.plan.AgentPlan.{AgentPlan}
use Rattle.es_event.specs.History.{History}
use Rattle.es_event.specs.Identities.{made}
use Rattle.es_event.specs.Rules.{completion}
use Rattle.es_event.specs.Report.{line}
use Rattle.es_event.proofs.Examples.{plan_of}
use Rattle.es_laws.proofs.Letters.{a, d, f, k, o, s, u, w, x, y}
use Rattle.es_laws.proofs.Worked.{IsWorked}

abbrev pub plan : AgentPlan
plan = plan_of ((Let x (NumberLiteral (pos 1)) ∷ WeakRef w x ∷ []) ∷ (Deref y x ∷ []) ∷ [])

-- The history, event by event

abbrev pub let_x : History
let_x =
    Did (Let x (NumberLiteral (pos 1)), [], Gives (Number (pos 1)))
    ∷ JobBegun 1 ∷ []

abbrev pub not_held_weakly : History
not_held_weakly = Refused NotHeldWeakly ∷ let_x

abbrev pub begun_again : History
begun_again =
    JobBegun 2
    ∷ JobEnded ∷ not_held_weakly

abbrev pub closed : History
closed =
    Closed
    ∷ JobEnded
    ∷ Refused NotAWeakRef ∷ begun_again

pub worked : IsWorked [] plan closed (codes "agent a\nerror TypeError: cannot be held weakly\nerror TypeError: not a WeakRef\nend live 0 awaiting 0 unregistered 0 taken 0\n")
unfolding digits
worked = record { whole = (search rules, search rules); report = refl }

-- What is no object has no properties, and an object that is no WeakRef is not dereferenced

abbrev pub plan_others : AgentPlan
plan_others = plan_of ((New o ∷ Deref y o ∷ []) ∷ (Get y u k ∷ []) ∷ (Delete d u k ∷ []) ∷ (Keys u ∷ []) ∷ (Symbol s ∷ Set s k o ∷ []) ∷ [])

abbrev pub made_o : History
made_o =
    Did (New o, [], Gives (Object 1))
    ∷ JobBegun 1 ∷ []

abbrev pub begun_set : History
begun_set =
    JobBegun 5
    ∷ JobEnded
    ∷ Refused NotAnObject
    ∷ JobBegun 4
    ∷ JobEnded
    ∷ Refused NotAnObject
    ∷ JobBegun 3
    ∷ JobEnded
    ∷ Refused NotAnObject
    ∷ JobBegun 2
    ∷ JobEnded
    ∷ Refused NotAWeakRef ∷ made_o

abbrev pub closed_others : History
closed_others =
    Closed
    ∷ JobEnded
    ∷ Refused NotAnObject
    ∷ Did (Symbol s, [], Gives (SymbolValue 2)) ∷ begun_set

pub worked_others : IsWorked [] plan_others closed_others (codes "agent a\nerror TypeError: not a WeakRef\nerror TypeError: not an object\nerror TypeError: not an object\nerror TypeError: not an object\nerror TypeError: not an object\nend live 0 awaiting 0 unregistered 0 taken 0\n")
unfolding digits
worked_others = record { whole = (search rules, search rules); report = refl }

-- The limit of identities

-- the last identity is made
room_for_one_more : (h : History) → made h ≡ 999999 → completion [] h (New a) [] silence ≡ Ok (Gives (Object 1000000))
room_for_one_more h e = rw e refl

-- and no further one
no_room_for_an_object : (h : History) → made h ≡ 1000000 → completion [] h (New a) [] silence ≡ Err TooManyValues
no_room_for_an_object h e = rw e refl

no_room_for_a_symbol : (h : History) → made h ≡ 1000000 → completion [] h (Symbol s) [] silence ≡ Err TooManyValues
no_room_for_a_symbol h e = rw e refl

no_room_for_a_weakref : (h : History) → made h ≡ 1000000 → completion [] h (WeakRef w x) (Object 1 ∷ []) silence ≡ Err TooManyValues
no_room_for_a_weakref h e = rw e refl

-- a registered symbol needs no room
registered_needs_none : (h : History) → completion [] h (SymbolFor f k) [] silence ≡ Ok (Gives (Registered k))
registered_needs_none h = refl

-- that a number is not held weakly is asked before whether there is room
number_comes_first : (h : History) → completion [] h (WeakRef w x) (Number (pos 1) ∷ []) silence ≡ Err NotHeldWeakly
number_comes_first h = refl

line_of_the_limit : line (Refused TooManyValues) ≡ codes "error limit: values\n"
line_of_the_limit = refl
