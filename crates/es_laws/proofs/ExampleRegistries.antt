-- FinalizationRegistries: what they hold, what goes, and which cells are taken for their cleanup, in which order.
use Rattle.std.proofs.Common.{ℕ, true, false, refl, List, [], ◌∷◌, Some, None, inr, codes, rules}
use Rattle.std.specs.Prelude.{pos}
use Rattle.std.specs.Fmt.{digits}
use Rattle.es_value.specs.declared.value.Value.TheVariants.{Undefined, Boolean, Number, Object}
use Rattle.es_event.specs.declared.literal.Literal.TheVariants.{Undefined as NoLiteral, Number as NumberLiteral}
use Rattle.es_event.specs.declared.command.Command.{Command}
use Rattle.es_event.specs.declared.command.Command.TheVariants.{Let, New, Say, Set, WeakRef, Deref, FinalizationRegistry, Register, Unregister, Collect}
use Rattle.es_event.specs.declared.event.Answer.TheVariants.{Nothing, Gives}
use Rattle.es_event.specs.declared.event.Event.{Event}
use Rattle.es_event.specs.declared.event.Event.TheVariants.{JobBegun, CleanupBegun, Did, Refused, Emptied, Taken, JobEnded, Closed}
use Rattle.es_event.specs.declared.event.Refusal.TheVariants.{NotAnObject, NotHeldWeakly, SameTargetAndHeld}
use Rattle.es_event.specs.declared.plan.AgentPlan.{AgentPlan}
use Rattle.es_event.specs.History.{History}
use Rattle.es_event.specs.Jobs.{receivers}
use Rattle.es_event.specs.Registrations.{Cell}
use Rattle.es_event.specs.Reach.{AreDead}
use Rattle.es_event.specs.Live.{Live}
use Rattle.es_event.proofs.Examples.{plan_with}
use Rattle.es_event.proofs.Deciding.{dead_by, by_variable, by_cell, by_property}
use Rattle.es_event.proofs.Dead.{not_live}
use Rattle.es_laws.proofs.Letters.{a, b, c, h, i, n, p, q, r, t, w, x, y}
use Rattle.es_laws.proofs.Worked.{IsWorked, dead_but}

-- Variables

-- a property's key
-- the one to which the held value of a cell that is taken goes
abbrev pub held : List ℕ
held = codes "held"

-- Commands

-- a registry whose callback is the plan's first
abbrev pub registry : List ℕ → Command
registry to = FinalizationRegistry to 1

abbrev pub number : List ℕ → ℕ → Command
number to m = Let to (NumberLiteral (pos m))

abbrev pub forget : List ℕ → Command
forget to = Let to NoLiteral

-- Events

abbrev pub made_registry : List ℕ → ℕ → Event
made_registry to m = Did (registry to, [], Gives (Object m))

abbrev pub made_new : List ℕ → ℕ → Event
made_new to m = Did (New to, [], Gives (Object m))

abbrev pub let_number : List ℕ → ℕ → Event
let_number to m = Did (number to m, [], Gives (Number (pos m)))

abbrev pub forgot : List ℕ → Event
forgot to = Did (forget to, [], Gives Undefined)

-- A target that is its own token: once it is emptied, its cell is taken in a cleanup job of its own

abbrev pub plan_own_token : AgentPlan
plan_own_token = plan_with [] ((registry r ∷ New x ∷ number h 5 ∷ Register r x h (Some x) ∷ forget x ∷ Collect ∷ []) ∷ [])

abbrev pub let_own_token : History
let_own_token = let_number h 5 ∷ made_new x 2 ∷ made_registry r 1 ∷ JobBegun 1 ∷ []

abbrev pub forgot_own_token : History
forgot_own_token = forgot x ∷ Did (Register r x h (Some x), Object 1 ∷ Object 2 ∷ Number (pos 5) ∷ Object 2 ∷ [], Nothing) ∷ let_own_token

abbrev pub ended_own_token : History
ended_own_token = JobEnded ∷ Emptied (2 ∷ []) ∷ forgot_own_token

abbrev pub taken_own_token : History
taken_own_token = Taken 1 (Number (pos 5)) ∷ CleanupBegun 1 ∷ ended_own_token

abbrev pub closed_own_token : History
closed_own_token = Closed ∷ JobEnded ∷ taken_own_token

pub dead_own_token : AreDead (receivers plan_own_token.jobs) forgot_own_token (2 ∷ [])
dead_own_token = dead_but plan_own_token forgot_own_token (r ∷ []) (2 ∷ []) refl

pub worked_own_token : IsWorked [] plan_own_token closed_own_token (codes "agent a\nemptied 1\ncleanup 1 held 5\nend live 0 awaiting 0 unregistered 0 taken 1\n")
unfolding digits
worked_own_token = record { whole = (search rules, search (rules, dead_own_token)); report = refl }

-- so the target is not live, though its cell is in the registry
pub target_is_not_live : Live (receivers plan_own_token.jobs) forgot_own_token (2 ∷ []) → ⊥
target_is_not_live = not_live (receivers plan_own_token.jobs) forgot_own_token (2 ∷ []) dead_own_token

-- The held value is held, and what leads on from it: here its own target, which so stays

abbrev pub plan_held : AgentPlan
plan_held = plan_with [] ((registry r ∷ New x ∷ New h ∷ Set h p x ∷ Register r x h None ∷ forget x ∷ forget h ∷ Collect ∷ []) ∷ [])

abbrev pub forgot_held : History
forgot_held =
    forgot h ∷ forgot x
    ∷ Did (Register r x h None, Object 1 ∷ Object 2 ∷ Object 3 ∷ [], Nothing)
    ∷ Did (Set h p x, Object 3 ∷ Object 2 ∷ [], Nothing)
    ∷ made_new h 3
    ∷ made_new x 2
    ∷ made_registry r 1
    ∷ JobBegun 1
    ∷ []

abbrev pub closed_held : History
closed_held = Closed ∷ JobEnded ∷ Emptied [] ∷ forgot_held

abbrev pub cell_held : Cell
cell_held = record { registry = 1; target = 2; held = Object 3; token = None }

pub reached_by_a_cell : AreDead (receivers plan_held.jobs) forgot_held []
reached_by_a_cell =
    let value = by_cell (receivers plan_held.jobs) forgot_held 1 cell_held 3 refl refl refl in
    let target = by_property (receivers plan_held.jobs) forgot_held 3 p (Object 2) 2 value refl refl in
    dead_by (receivers plan_held.jobs) forgot_held (1 ∷ 2 ∷ 3 ∷ []) [] refl (by_variable (receivers plan_held.jobs) forgot_held r 1 refl, (target, (value, tt)))

pub worked_held : IsWorked [] plan_held closed_held (codes "agent a\nemptied 0\nend live 1 awaiting 0 unregistered 0 taken 0\n")
unfolding digits
worked_held = record { whole = (search rules, search (rules, reached_by_a_cell)); report = refl }

-- it is live: its target may be emptied, and then a cleanup job takes the cell
pub held_is_live : Live (receivers plan_held.jobs) forgot_held (3 ∷ [])
held_is_live = inr (record { over = []; other = receivers plan_held.jobs; agree = search rules; before = CleanupBegun 1 ∷ Emptied (2 ∷ []) ∷ []; event = Taken 1 (Object 3); oblivious = search rules; observed = refl })

-- A cell whose target is emptied is found by its token, until it is taken: both cells go at once

abbrev pub plan_shared_token : AgentPlan
plan_shared_token =
    plan_with [] ((registry r ∷ New x ∷ New y ∷ New t ∷ number h 1 ∷ Register r x h (Some t) ∷ Register r y h (Some t) ∷ forget x ∷ Collect ∷ Unregister b r t ∷ Say b ∷ []) ∷ [])

abbrev pub forgot_shared_token : History
forgot_shared_token =
    forgot x
    ∷ Did (Register r y h (Some t), Object 1 ∷ Object 3 ∷ Number (pos 1) ∷ Object 4 ∷ [], Nothing)
    ∷ Did (Register r x h (Some t), Object 1 ∷ Object 2 ∷ Number (pos 1) ∷ Object 4 ∷ [], Nothing)
    ∷ let_number h 1
    ∷ made_new t 4
    ∷ made_new y 3
    ∷ made_new x 2
    ∷ made_registry r 1
    ∷ JobBegun 1
    ∷ []

abbrev pub emptied_shared_token : History
emptied_shared_token = Emptied (2 ∷ []) ∷ forgot_shared_token

abbrev pub unregistered_both : History
unregistered_both = Did (Unregister b r t, Object 1 ∷ Object 4 ∷ [], Gives (Boolean true)) ∷ emptied_shared_token

-- its registry is queued still, so a cleanup job of it begins, and finds nothing
abbrev pub begun_shared_token : History
begun_shared_token = CleanupBegun 1 ∷ JobEnded ∷ Did (Say b, Boolean true ∷ [], Nothing) ∷ unregistered_both

abbrev pub closed_shared_token : History
closed_shared_token = Closed ∷ JobEnded ∷ begun_shared_token

pub dead_shared_token : AreDead (receivers plan_shared_token.jobs) forgot_shared_token (2 ∷ [])
dead_shared_token = dead_but plan_shared_token forgot_shared_token (r ∷ y ∷ t ∷ []) (2 ∷ []) refl

pub worked_shared_token : IsWorked [] plan_shared_token closed_shared_token (codes "agent a\nemptied 1\nsay true\nend live 0 awaiting 0 unregistered 2 taken 0\n")
unfolding digits
worked_shared_token = record { whole = (search rules, search (rules, dead_shared_token)); report = refl }

-- A callback that is refused ends its cleanup job, and another begins for the cells that are left

abbrev pub jobs_refused : List (List Command)
jobs_refused = (registry r ∷ New x ∷ New y ∷ number h 1 ∷ number i 2 ∷ Register r x h None ∷ Register r y i None ∷ forget x ∷ forget y ∷ Collect ∷ []) ∷ []

abbrev pub plan_refused : AgentPlan
plan_refused = plan_with (Set held p held ∷ []) jobs_refused

abbrev pub forgot_refused : History
forgot_refused =
    forgot y
    ∷ forgot x
    ∷ Did (Register r y i None, Object 1 ∷ Object 3 ∷ Number (pos 2) ∷ [], Nothing)
    ∷ Did (Register r x h None, Object 1 ∷ Object 2 ∷ Number (pos 1) ∷ [], Nothing)
    ∷ let_number i 2
    ∷ let_number h 1
    ∷ made_new y 3
    ∷ made_new x 2
    ∷ made_registry r 1
    ∷ JobBegun 1
    ∷ []

abbrev pub begun_refused : History
begun_refused = CleanupBegun 1 ∷ JobEnded ∷ Emptied (2 ∷ 3 ∷ []) ∷ forgot_refused

abbrev pub taken_refused : History
taken_refused = Taken 1 (Number (pos 1)) ∷ begun_refused

abbrev pub refused_first : History
refused_first = Refused NotAnObject ∷ taken_refused

abbrev pub closed_refused : History
closed_refused = Closed ∷ JobEnded ∷ Refused NotAnObject ∷ Taken 2 (Number (pos 2)) ∷ CleanupBegun 1 ∷ JobEnded ∷ refused_first

pub dead_refused : AreDead (receivers plan_refused.jobs) forgot_refused (2 ∷ 3 ∷ [])
dead_refused = dead_but plan_refused forgot_refused (r ∷ []) (2 ∷ 3 ∷ []) refl

pub worked_refused : IsWorked [] plan_refused closed_refused (codes "agent a\nemptied 2\ncleanup 1 held 1\nerror TypeError: not an object\ncleanup 2 held 2\nerror TypeError: not an object\nend live 0 awaiting 0 unregistered 0 taken 2\n")
unfolding digits
worked_refused = record { whole = (search rules, search (rules, dead_refused)); report = refl }

-- No target is its own held value, and none is a number

abbrev pub plan_same : AgentPlan
plan_same = plan_with [] ((registry r ∷ New a ∷ Register r a a None ∷ []) ∷ (number n 5 ∷ Register r n n None ∷ []) ∷ [])

abbrev pub made_same : History
made_same = made_new a 2 ∷ made_registry r 1 ∷ JobBegun 1 ∷ []

abbrev pub let_same : History
let_same = let_number n 5 ∷ JobBegun 2 ∷ JobEnded ∷ Refused SameTargetAndHeld ∷ made_same

abbrev pub closed_same : History
closed_same = Closed ∷ JobEnded ∷ Refused NotHeldWeakly ∷ let_same

pub worked_same : IsWorked [] plan_same closed_same (codes "agent a\nerror TypeError: target and held value are the same\nerror TypeError: cannot be held weakly\nend live 0 awaiting 0 unregistered 0 taken 0\n")
unfolding digits
worked_same = record { whole = (search rules, search rules); report = refl }

-- A cell that was unregistered is not found again, and is not taken once its target is emptied

abbrev pub plan_unregistered : AgentPlan
plan_unregistered =
    plan_with [] ((registry r ∷ New x ∷ New t ∷ number h 1 ∷ Register r x h (Some t) ∷ Unregister b r t ∷ Unregister c r t ∷ Say b ∷ Say c ∷ forget x ∷ Collect ∷ []) ∷ [])

abbrev pub unregistered_once : History
unregistered_once =
    Did (Unregister b r t, Object 1 ∷ Object 3 ∷ [], Gives (Boolean true))
    ∷ Did (Register r x h (Some t), Object 1 ∷ Object 2 ∷ Number (pos 1) ∷ Object 3 ∷ [], Nothing)
    ∷ let_number h 1
    ∷ made_new t 3
    ∷ made_new x 2
    ∷ made_registry r 1
    ∷ JobBegun 1
    ∷ []

abbrev pub forgot_unregistered : History
forgot_unregistered =
    forgot x
    ∷ Did (Say c, Boolean false ∷ [], Nothing)
    ∷ Did (Say b, Boolean true ∷ [], Nothing)
    ∷ Did (Unregister c r t, Object 1 ∷ Object 3 ∷ [], Gives (Boolean false))
    ∷ unregistered_once

abbrev pub emptied_unregistered : History
emptied_unregistered = Emptied (2 ∷ []) ∷ forgot_unregistered

abbrev pub closed_unregistered : History
closed_unregistered = Closed ∷ JobEnded ∷ emptied_unregistered

pub dead_unregistered : AreDead (receivers plan_unregistered.jobs) forgot_unregistered (2 ∷ [])
dead_unregistered = dead_but plan_unregistered forgot_unregistered (r ∷ t ∷ []) (2 ∷ []) refl

pub worked_unregistered : IsWorked [] plan_unregistered closed_unregistered (codes "agent a\nsay true\nsay false\nemptied 1\nend live 0 awaiting 0 unregistered 1 taken 0\n")
unfolding digits
worked_unregistered = record { whole = (search rules, search (rules, dead_unregistered)); report = refl }

-- The callback reads the held value in the variable held, and a WeakRef to the target gives undefined by then

abbrev pub plan_callback : AgentPlan
plan_callback =
    plan_with (Say held ∷ Deref y w ∷ Say y ∷ [])
    ((registry r ∷ New x ∷ WeakRef w x ∷ number h 3 ∷ Register r x h None ∷ forget x ∷ []) ∷ (Collect ∷ Say h ∷ []) ∷ [])

abbrev pub begun_second : History
begun_second =
    JobBegun 2
    ∷ JobEnded
    ∷ forgot x
    ∷ Did (Register r x h None, Object 1 ∷ Object 2 ∷ Number (pos 3) ∷ [], Nothing)
    ∷ let_number h 3
    ∷ Did (WeakRef w x, Object 2 ∷ [], Gives (Object 3))
    ∷ made_new x 2
    ∷ made_registry r 1
    ∷ JobBegun 1
    ∷ []

abbrev pub begun_cleanup : History
begun_cleanup = CleanupBegun 1 ∷ JobEnded ∷ Did (Say h, Number (pos 3) ∷ [], Nothing) ∷ Emptied (2 ∷ []) ∷ begun_second

abbrev pub taken_callback : History
taken_callback = Taken 1 (Number (pos 3)) ∷ begun_cleanup

abbrev pub closed_callback : History
closed_callback =
    Closed
    ∷ JobEnded
    ∷ Did (Say y, Undefined ∷ [], Nothing)
    ∷ Did (Deref y w, Object 3 ∷ [], Gives Undefined)
    ∷ Did (Say held, Number (pos 3) ∷ [], Nothing)
    ∷ taken_callback

pub dead_callback : AreDead (receivers plan_callback.jobs) begun_second (2 ∷ [])
dead_callback = dead_but plan_callback begun_second (r ∷ w ∷ []) (2 ∷ []) refl

pub worked_callback : IsWorked [] plan_callback closed_callback (codes "agent a\nemptied 1\nsay 3\ncleanup 1 held 3\nsay 3\nsay undefined\nend live 0 awaiting 0 unregistered 0 taken 1\n")
unfolding digits
worked_callback = record { whole = (search rules, search (rules, dead_callback)); report = refl }

-- The queue is by rising identity of the registries, not by the order of registrations

abbrev pub plan_order : AgentPlan
plan_order = plan_with [] ((registry r ∷ registry q ∷ New x ∷ number h 1 ∷ number i 2 ∷ Register q x i None ∷ Register r x h None ∷ forget x ∷ Collect ∷ []) ∷ [])

abbrev pub forgot_order : History
forgot_order =
    forgot x
    ∷ Did (Register r x h None, Object 1 ∷ Object 3 ∷ Number (pos 1) ∷ [], Nothing)
    ∷ Did (Register q x i None, Object 2 ∷ Object 3 ∷ Number (pos 2) ∷ [], Nothing)
    ∷ let_number i 2
    ∷ let_number h 1
    ∷ made_new x 3
    ∷ made_registry q 2
    ∷ made_registry r 1
    ∷ JobBegun 1
    ∷ []

abbrev pub ended_order : History
ended_order = JobEnded ∷ Emptied (3 ∷ []) ∷ forgot_order

abbrev pub closed_order : History
closed_order =
    Closed
    ∷ JobEnded
    ∷ Taken 1 (Number (pos 2))
    ∷ CleanupBegun 2
    ∷ JobEnded
    ∷ Taken 2 (Number (pos 1))
    ∷ CleanupBegun 1
    ∷ ended_order

pub dead_order : AreDead (receivers plan_order.jobs) forgot_order (3 ∷ [])
dead_order = dead_but plan_order forgot_order (r ∷ q ∷ []) (3 ∷ []) refl

pub worked_order : IsWorked [] plan_order closed_order (codes "agent a\nemptied 1\ncleanup 2 held 1\ncleanup 1 held 2\nend live 0 awaiting 0 unregistered 0 taken 2\n")
unfolding digits
worked_order = record { whole = (search rules, search (rules, dead_order)); report = refl }
