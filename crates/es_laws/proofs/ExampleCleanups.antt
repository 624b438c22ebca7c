-- More of FinalizationRegistries: what stays without a variable, when cleanup jobs run and for which cells, and what is refused.
use Rattle.std.proofs.Common.{◌≡◌, true, false, refl, [], ◌∷◌, Some, None, inr, reverse, codes, rules}
use Rattle.std.specs.Prelude.{pos}
use Rattle.std.specs.Fmt.{digits}
use Rattle.es_value.specs.declared.value.Value.TheVariants.{Undefined, Boolean, Number, Object}
use Rattle.es_event.specs.declared.command.Command.TheVariants.{New, Say, Set, FinalizationRegistry, Register, Unregister, Collect}
use Rattle.es_event.specs.declared.event.Answer.TheVariants.{Nothing, Gives}
use Rattle.es_event.specs.declared.event.Event.TheVariants.{JobBegun, CleanupBegun, Did, Refused, Emptied, Taken, JobEnded, Closed}
use Rattle.es_event.specs.declared.event.Refusal.TheVariants.{NotAnObject, NotAFinalizationRegistry, NotHeldWeakly, SameTargetAndHeld}
use Rattle.es_event.specs.declared.plan.AgentPlan.{AgentPlan}
use Rattle.es_event.specs.History.{History}
use Rattle.es_event.specs.Jobs.{receivers}
use Rattle.es_event.specs.Registrations.{Cell, awaiting, fate, taken, tally}
use Rattle.es_event.specs.Reach.{AreDead}
use Rattle.es_event.specs.Live.{Live}
use Rattle.es_event.specs.Runs.{IsWholeRun}
use Rattle.es_event.specs.Report.{agent_text}
use Rattle.es_event.proofs.Examples.{job_of, callback_of, plan_with}
use Rattle.es_event.proofs.Deciding.{dead_by, by_registry, by_cell}
use Rattle.es_event.proofs.Dead.{not_live}
use Rattle.es_laws.proofs.ExampleRegistries.{registry, number, forget, made_registry, made_new, let_number, forgot}
use Rattle.es_laws.proofs.Letters.{b, h, i, n, p, q, r, t, x, y}
use Rattle.es_laws.proofs.Worked.{IsWorked, dead_but, dead_beside}

-- A registry that no variable holds stays, and cleans up; its cleanup job comes before the plan's next job

abbrev pub plan_forgotten : AgentPlan
plan_forgotten = plan_with (Say (codes "held") ∷ []) ((registry r ∷ New x ∷ number h 1 ∷ Register r x h None ∷ forget r ∷ forget x ∷ Collect ∷ []) ∷ (Say (codes "held") ∷ []) ∷ [])

abbrev pub forgot_both : History
forgot_both =
    forgot x
    ∷ forgot r
    ∷ Did (Register r x h None, Object 1 ∷ Object 2 ∷ Number (pos 1) ∷ [], Nothing)
    ∷ let_number h 1
    ∷ made_new x 2
    ∷ made_registry r 1
    ∷ JobBegun 1
    ∷ []

abbrev pub ended_forgotten : History
ended_forgotten = JobEnded ∷ Emptied (2 ∷ []) ∷ forgot_both

abbrev pub closed_forgotten : History
closed_forgotten =
    Closed
    ∷ JobEnded
    ∷ Did (Say (codes "held"), Number (pos 1) ∷ [], Nothing)
    ∷ JobBegun 2
    ∷ JobEnded
    ∷ Did (Say (codes "held"), Number (pos 1) ∷ [], Nothing)
    ∷ Taken 1 (Number (pos 1))
    ∷ CleanupBegun 1
    ∷ ended_forgotten

pub registry_stays : AreDead (receivers plan_forgotten.jobs) forgot_both (2 ∷ [])
registry_stays = dead_by (receivers plan_forgotten.jobs) forgot_both (1 ∷ []) (2 ∷ []) refl (by_registry (receivers plan_forgotten.jobs) forgot_both 1 1 refl, tt)

pub worked_forgotten : IsWorked [] plan_forgotten closed_forgotten (codes "agent a\nemptied 1\ncleanup 1 held 1\nsay 1\nsay 1\nend live 0 awaiting 0 unregistered 0 taken 1\n")
unfolding digits
worked_forgotten = record { whole = (search rules, search (rules, registry_stays)); report = refl }

-- until it is taken the registration awaits its cleanup
pub awaits_its_cleanup : tally ended_forgotten awaiting ≡ 1
awaits_its_cleanup = refl

-- A held value that only its cell holds is live, and is dead once the cell is unregistered

abbrev pub plan_released : AgentPlan
plan_released = plan_with [] ((registry r ∷ New x ∷ New h ∷ New t ∷ Register r x h (Some t) ∷ forget h ∷ Collect ∷ Unregister b r t ∷ Collect ∷ []) ∷ [])

abbrev pub held_by_its_cell : History
held_by_its_cell =
    forgot h
    ∷ Did (Register r x h (Some t), Object 1 ∷ Object 2 ∷ Object 3 ∷ Object 4 ∷ [], Nothing)
    ∷ made_new t 4
    ∷ made_new h 3
    ∷ made_new x 2
    ∷ made_registry r 1
    ∷ JobBegun 1
    ∷ []

abbrev pub released : History
released = Did (Unregister b r t, Object 1 ∷ Object 4 ∷ [], Gives (Boolean true)) ∷ Emptied [] ∷ held_by_its_cell

abbrev pub closed_released : History
closed_released = Closed ∷ JobEnded ∷ Emptied (3 ∷ []) ∷ released

abbrev pub cell_released : Cell
cell_released = record { registry = 1; target = 2; held = Object 3; token = Some 4 }

pub reached_by_its_cell : AreDead (receivers plan_released.jobs) held_by_its_cell []
reached_by_its_cell = dead_beside plan_released held_by_its_cell (r ∷ x ∷ t ∷ []) (3 ∷ []) [] refl (by_cell (receivers plan_released.jobs) held_by_its_cell 1 cell_released 3 refl refl refl, tt)

pub dead_once_released : AreDead (receivers plan_released.jobs) released (3 ∷ [])
dead_once_released = dead_but plan_released released (r ∷ x ∷ t ∷ []) (3 ∷ []) refl

pub whole_released : IsWholeRun plan_released closed_released
whole_released = ([], search rules, search (rules, dead_once_released, reached_by_its_cell))

-- a callback would be called with it, since a target may be emptied at any time, also one that a variable holds
pub live_by_its_cell : Live (receivers plan_released.jobs) held_by_its_cell (3 ∷ [])
live_by_its_cell =
    inr (record { over = []; other = receivers plan_released.jobs; agree = search rules; before = CleanupBegun 1 ∷ Emptied (2 ∷ []) ∷ []; event = Taken 1 (Object 3); oblivious = search rules; observed = refl })

pub not_live_once_released : Live (receivers plan_released.jobs) released (3 ∷ []) → ⊥
not_live_once_released = not_live (receivers plan_released.jobs) released (3 ∷ []) dead_once_released

-- A cell that was taken is not found by its token, and stays one that was taken

abbrev pub plan_late : AgentPlan
plan_late = plan_with [] ((registry r ∷ New x ∷ New t ∷ number h 1 ∷ Register r x h (Some t) ∷ forget x ∷ Collect ∷ []) ∷ (Unregister b r t ∷ Say b ∷ []) ∷ [])

abbrev pub forgot_late : History
forgot_late =
    forgot x
    ∷ Did (Register r x h (Some t), Object 1 ∷ Object 2 ∷ Number (pos 1) ∷ Object 3 ∷ [], Nothing)
    ∷ let_number h 1
    ∷ made_new t 3
    ∷ made_new x 2
    ∷ made_registry r 1
    ∷ JobBegun 1
    ∷ []

abbrev pub begun_late : History
begun_late = JobBegun 2 ∷ JobEnded ∷ Taken 1 (Number (pos 1)) ∷ CleanupBegun 1 ∷ JobEnded ∷ Emptied (2 ∷ []) ∷ forgot_late

abbrev pub closed_late : History
closed_late = Closed ∷ JobEnded ∷ Did (Say b, Boolean false ∷ [], Nothing) ∷ Did (Unregister b r t, Object 1 ∷ Object 3 ∷ [], Gives (Boolean false)) ∷ begun_late

pub dead_late : AreDead (receivers plan_late.jobs) forgot_late (2 ∷ [])
dead_late = dead_but plan_late forgot_late (r ∷ t ∷ []) (2 ∷ []) refl

pub worked_late : IsWorked [] plan_late closed_late (codes "agent a\nemptied 1\ncleanup 1 held 1\nsay false\nend live 0 awaiting 0 unregistered 0 taken 1\n")
unfolding digits
worked_late = record { whole = (search rules, search (rules, dead_late)); report = refl }

pub taken_for_good : fate closed_late 1 ≡ taken
taken_for_good = refl

-- A registry that is queued keeps its place, and one cleanup job takes all cells of its registry

abbrev pub plan_queued : AgentPlan
plan_queued =
    plan_with []
    ((registry r ∷ registry q ∷ New x ∷ New y ∷ number h 1 ∷ number i 2 ∷ Register q x h None ∷ Register r y i None ∷ Register q y h None ∷ forget x ∷ Collect ∷ forget y ∷ Collect ∷ []) ∷ [])

abbrev pub forgot_first : History
forgot_first =
    forgot x
    ∷ Did (Register q y h None, Object 2 ∷ Object 4 ∷ Number (pos 1) ∷ [], Nothing)
    ∷ Did (Register r y i None, Object 1 ∷ Object 4 ∷ Number (pos 2) ∷ [], Nothing)
    ∷ Did (Register q x h None, Object 2 ∷ Object 3 ∷ Number (pos 1) ∷ [], Nothing)
    ∷ let_number i 2
    ∷ let_number h 1
    ∷ made_new y 4
    ∷ made_new x 3
    ∷ made_registry q 2
    ∷ made_registry r 1
    ∷ JobBegun 1
    ∷ []

abbrev pub forgot_second : History
forgot_second = forgot y ∷ Emptied (3 ∷ []) ∷ forgot_first

abbrev pub ended_queued : History
ended_queued = JobEnded ∷ Emptied (4 ∷ []) ∷ forgot_second

abbrev pub closed_queued : History
closed_queued =
    Closed
    ∷ JobEnded
    ∷ Taken 2 (Number (pos 2))
    ∷ CleanupBegun 1
    ∷ JobEnded
    ∷ Taken 3 (Number (pos 1))
    ∷ Taken 1 (Number (pos 1))
    ∷ CleanupBegun 2
    ∷ ended_queued

pub dead_first : AreDead (receivers plan_queued.jobs) forgot_first (3 ∷ [])
dead_first = dead_but plan_queued forgot_first (r ∷ q ∷ y ∷ []) (3 ∷ []) refl

pub dead_second : AreDead (receivers plan_queued.jobs) forgot_second (4 ∷ [])
dead_second = dead_but plan_queued forgot_second (r ∷ q ∷ []) (4 ∷ []) refl

pub whole_queued : IsWholeRun plan_queued closed_queued
whole_queued =
    ([], search rules, search (rules, dead_second, dead_first))

-- A cell that awaits its cleanup is in its registry: it holds its value, and is found by its token

abbrev pub plan_awaiting : AgentPlan
plan_awaiting =
    plan_with []
    ((registry r ∷ New x ∷ New h ∷ New t ∷ Register r x h (Some t) ∷ forget x ∷ forget h ∷ Collect ∷ Collect ∷ Unregister b r t ∷ Say b ∷ Collect ∷ []) ∷ [])

abbrev pub forgot_awaiting : History
forgot_awaiting =
    forgot h
    ∷ forgot x
    ∷ Did (Register r x h (Some t), Object 1 ∷ Object 2 ∷ Object 3 ∷ Object 4 ∷ [], Nothing)
    ∷ made_new t 4
    ∷ made_new h 3
    ∷ made_new x 2
    ∷ made_registry r 1
    ∷ JobBegun 1
    ∷ []

abbrev pub emptied_awaiting : History
emptied_awaiting = Emptied (2 ∷ []) ∷ forgot_awaiting

abbrev pub said_awaiting : History
said_awaiting =
    Did (Say b, Boolean true ∷ [], Nothing)
    ∷ Did (Unregister b r t, Object 1 ∷ Object 4 ∷ [], Gives (Boolean true))
    ∷ Emptied []
    ∷ emptied_awaiting

abbrev pub closed_awaiting : History
closed_awaiting = Closed ∷ JobEnded ∷ CleanupBegun 1 ∷ JobEnded ∷ Emptied (3 ∷ []) ∷ said_awaiting

pub dead_target : AreDead (receivers plan_awaiting.jobs) forgot_awaiting (2 ∷ [])
dead_target = dead_beside plan_awaiting forgot_awaiting (r ∷ t ∷ []) (3 ∷ []) (2 ∷ []) refl (by_cell (receivers plan_awaiting.jobs) forgot_awaiting 1 cell_released 3 refl refl refl, tt)

pub reached_while_awaiting : AreDead (receivers plan_awaiting.jobs) emptied_awaiting []
reached_while_awaiting = dead_beside plan_awaiting emptied_awaiting (r ∷ t ∷ []) (3 ∷ []) [] refl (by_cell (receivers plan_awaiting.jobs) emptied_awaiting 1 cell_released 3 refl refl refl, tt)

pub dead_held : AreDead (receivers plan_awaiting.jobs) said_awaiting (3 ∷ [])
dead_held = dead_but plan_awaiting said_awaiting (r ∷ t ∷ []) (3 ∷ []) refl

pub worked_awaiting : IsWorked [] plan_awaiting closed_awaiting (codes "agent a\nemptied 1\nemptied 0\nsay true\nemptied 1\nend live 0 awaiting 0 unregistered 1 taken 0\n")
unfolding digits
worked_awaiting = record { whole = (search rules, search (rules, dead_held, reached_while_awaiting, dead_target)); report = refl }

-- Each registry has its own callback, and one that is queued again after a refusal goes behind the others

abbrev pub plan_two : AgentPlan
plan_two = record {
  name = codes "a";
  callbacks = callback_of (Set (codes "held") p x ∷ []) ∷ callback_of (Say (codes "held") ∷ []) ∷ [];
  jobs = job_of (registry r ∷ FinalizationRegistry q 2 ∷ New x ∷ number h 1 ∷ Register r x h None ∷ Register r x h None ∷ Register q x h None ∷ forget x ∷ Collect ∷ []) ∷ [];
}

abbrev pub forgot_two : History
forgot_two =
    forgot x
    ∷ Did (Register q x h None, Object 2 ∷ Object 3 ∷ Number (pos 1) ∷ [], Nothing)
    ∷ Did (Register r x h None, Object 1 ∷ Object 3 ∷ Number (pos 1) ∷ [], Nothing)
    ∷ Did (Register r x h None, Object 1 ∷ Object 3 ∷ Number (pos 1) ∷ [], Nothing)
    ∷ let_number h 1
    ∷ made_new x 3
    ∷ Did (FinalizationRegistry q 2, [], Gives (Object 2))
    ∷ made_registry r 1
    ∷ JobBegun 1
    ∷ []

abbrev pub refused_two : History
refused_two = JobEnded ∷ Refused NotAnObject ∷ Taken 1 (Number (pos 1)) ∷ CleanupBegun 1 ∷ JobEnded ∷ Emptied (3 ∷ []) ∷ forgot_two

abbrev pub taken_two : History
taken_two = Taken 3 (Number (pos 1)) ∷ CleanupBegun 2 ∷ refused_two

abbrev pub closed_two : History
closed_two =
    Closed
    ∷ JobEnded
    ∷ Refused NotAnObject
    ∷ Taken 2 (Number (pos 1))
    ∷ CleanupBegun 1
    ∷ JobEnded
    ∷ Did (Say (codes "held"), Number (pos 1) ∷ [], Nothing)
    ∷ taken_two

pub dead_two : AreDead (receivers plan_two.jobs) forgot_two (3 ∷ [])
dead_two = dead_but plan_two forgot_two (r ∷ q ∷ []) (3 ∷ []) refl

pub worked_two : IsWorked [] plan_two closed_two (codes "agent a\nemptied 1\ncleanup 1 held 1\nerror TypeError: not an object\ncleanup 3 held 1\nsay 1\ncleanup 2 held 1\nerror TypeError: not an object\nend live 0 awaiting 0 unregistered 0 taken 3\n")
unfolding digits
worked_two = record { whole = (search rules, search (rules, dead_two)); report = refl }

-- Refusals: what is no registry, what is no target, and what is no token, in this order

abbrev pub plan_refusals : AgentPlan
plan_refusals =
    plan_with []
    ((registry r ∷ New x ∷ number n 5 ∷ Register x n n (Some n) ∷ [])
    ∷ (Register r n n (Some n) ∷ [])
    ∷ (Register r x x (Some n) ∷ [])
    ∷ (Register r x n (Some n) ∷ [])
    ∷ (Unregister b x n ∷ [])
    ∷ (Unregister b r n ∷ [])
    ∷ [])

abbrev pub let_five : History
let_five = let_number n 5 ∷ made_new x 2 ∷ made_registry r 1 ∷ JobBegun 1 ∷ []

abbrev pub begun_number_target : History
begun_number_target = JobBegun 2 ∷ JobEnded ∷ Refused NotAFinalizationRegistry ∷ let_five

abbrev pub begun_same_and_token : History
begun_same_and_token = JobBegun 3 ∷ JobEnded ∷ Refused NotHeldWeakly ∷ begun_number_target

abbrev pub begun_number_token : History
begun_number_token = JobBegun 4 ∷ JobEnded ∷ Refused SameTargetAndHeld ∷ begun_same_and_token

abbrev pub begun_no_registry : History
begun_no_registry = JobBegun 5 ∷ JobEnded ∷ Refused NotHeldWeakly ∷ begun_number_token

abbrev pub closed_refusals : History
closed_refusals =
    Closed ∷ JobEnded ∷ Refused NotHeldWeakly ∷ JobBegun 6 ∷ JobEnded ∷ Refused NotAFinalizationRegistry ∷ begun_no_registry

pub whole_refusals : IsWholeRun plan_refusals closed_refusals
whole_refusals = ([], search rules, search rules)

pub reported_refusals : agent_text plan_refusals.name (reverse (Refused NotAFinalizationRegistry ∷ let_five)) ≡ codes "agent a\nerror TypeError: not a FinalizationRegistry\nend live 0 awaiting 0 unregistered 0 taken 0\n"
unfolding digits
reported_refusals = refl

-- What is allowed: a registry as held value, as target and as token, also its own, and an undefined token, which is none; a
-- token is looked for in one registry alone

abbrev pub plan_allowed : AgentPlan
plan_allowed =
    plan_with []
    ((registry r ∷ registry q ∷ New x ∷ Register r x r (Some r) ∷ Register r r h (Some y) ∷ Unregister b q r ∷ Say b ∷ Unregister b r r ∷ Say b ∷ Unregister b r q ∷ Say b ∷ []) ∷ [])

abbrev pub registered_twice : History
registered_twice =
    Did (Register r r h (Some y), Object 1 ∷ Object 1 ∷ Undefined ∷ Undefined ∷ [], Nothing)
    ∷ Did (Register r x r (Some r), Object 1 ∷ Object 3 ∷ Object 1 ∷ Object 1 ∷ [], Nothing)
    ∷ made_new x 3
    ∷ made_registry q 2
    ∷ made_registry r 1
    ∷ JobBegun 1
    ∷ []

abbrev pub looked_in_another : History
looked_in_another = Did (Unregister b q r, Object 2 ∷ Object 1 ∷ [], Gives (Boolean false)) ∷ registered_twice

abbrev pub closed_allowed : History
closed_allowed =
    Closed
    ∷ JobEnded
    ∷ Did (Say b, Boolean false ∷ [], Nothing)
    ∷ Did (Unregister b r q, Object 1 ∷ Object 2 ∷ [], Gives (Boolean false))
    ∷ Did (Say b, Boolean true ∷ [], Nothing)
    ∷ Did (Unregister b r r, Object 1 ∷ Object 1 ∷ [], Gives (Boolean true))
    ∷ Did (Say b, Boolean false ∷ [], Nothing)
    ∷ looked_in_another

pub worked_allowed : IsWorked [] plan_allowed closed_allowed (codes "agent a\nsay false\nsay true\nsay false\nend live 1 awaiting 0 unregistered 1 taken 0\n")
unfolding digits
worked_allowed = record { whole = (search rules, search rules); report = refl }
