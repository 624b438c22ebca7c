-- Later collections: what died since stays, a deref revives its target and what that reaches, a WeakMap's entry comes back with its key, a cell's
-- target goes, a refused job still finishes, and while one is open another is refused.
use Rattle.std.proofs.Common.{◌≡◌, true, false, refl, [], ◌∷◌, None, codes, rules}
use Rattle.std.specs.Prelude.{pos}
use Rattle.std.specs.Fmt.{digits}
use Rattle.es_value.specs.declared.value.Value.TheVariants.{Undefined, Number, Object}
use Rattle.es_event.specs.declared.literal.Literal.TheVariants.{Number as NumberLiteral}
use Rattle.es_event.specs.declared.command.Command.TheVariants.{Let, Set, Say, WeakRef, Deref, WeakMap, WeakMapSet, FinalizationRegistry, Register, Collect, CollectLater}
use Rattle.es_event.specs.declared.event.Answer.TheVariants.{Nothing, Gives}
use Rattle.es_event.specs.declared.event.Event.{Event}
use Rattle.es_event.specs.declared.event.Event.TheVariants.{JobBegun, CleanupBegun, Did, Refused, Emptied, Taken, JobEnded, Closed}
use Rattle.es_event.specs.declared.event.Refusal.TheVariants.{NotAnObject, CollectionOpen}
use Rattle.es_event.specs.declared.plan.AgentPlan.{AgentPlan}
use Rattle.es_event.specs.History.{History}
use Rattle.es_event.specs.Jobs.{receivers}
use Rattle.es_event.specs.Late.{AreLate}
use Rattle.es_event.specs.Reach.{AreDead}
use Rattle.es_event.specs.Runs.{IsWholeRun}
use Rattle.es_event.proofs.Examples.{plan_of, plan_with, IsUnlawful, IsOutOfPlace}
use Rattle.es_laws.proofs.ExampleCollect.{new, forget}
use Rattle.es_event.proofs.Deciding.{by_variable, by_registry, by_cell}
use Rattle.es_laws.proofs.DecidingLate.{late_by, other_late, by_root, by_deref, on_by_property, on_by_entry}
use Rattle.es_laws.proofs.Letters.{a, h, k, m, p, q, r, v, w, x, y, z}
use Rattle.es_laws.proofs.Worked.{IsWorked, dead_but}

-- the event by which a later collection is opened
abbrev pub opening : Event
opening = Did (CollectLater, [], Nothing)

-- A deref revives its target, and what that reaches

abbrev pub plan_revived : AgentPlan
plan_revived = plan_of (
    (new a ∷ new q ∷ Set a p q ∷ WeakRef w a ∷ new z ∷ forget a ∷ forget q ∷ forget z ∷ [])
    ∷ (CollectLater ∷ Deref x w ∷ forget x ∷ [])
    ∷ (Collect ∷ [])
    ∷ []
    )

abbrev pub all_made : History
all_made =
    Did (forget z, [], Gives Undefined)
    ∷ Did (forget q, [], Gives Undefined)
    ∷ Did (forget a, [], Gives Undefined)
    ∷ Did (new z, [], Gives (Object 4))
    ∷ Did (WeakRef w a, Object 1 ∷ [], Gives (Object 3))
    ∷ Did (Set a p q, Object 1 ∷ Object 2 ∷ [], Nothing)
    ∷ Did (new q, [], Gives (Object 2))
    ∷ Did (new a, [], Gives (Object 1))
    ∷ JobBegun 1
    ∷ []

abbrev pub copied : History
copied = opening ∷ JobBegun 2 ∷ JobEnded ∷ all_made

abbrev pub derefed : History
derefed = Did (Deref x w, Object 3 ∷ [], Gives (Object 1)) ∷ copied

abbrev pub to_finish : History
to_finish = Did (forget x, [], Gives Undefined) ∷ derefed

abbrev pub finished : History
finished = Emptied (4 ∷ []) ∷ to_finish

abbrev pub next_job : History
next_job = JobBegun 3 ∷ JobEnded ∷ finished

abbrev pub closed : History
closed = Closed ∷ JobEnded ∷ Emptied (1 ∷ 2 ∷ []) ∷ next_job

pub late_without_the_revived : AreLate (receivers plan_revived.jobs) copied (1 ∷ []) (4 ∷ [])
late_without_the_revived = late_by (receivers plan_revived.jobs) copied (1 ∷ []) (1 ∷ 2 ∷ 3 ∷ []) (4 ∷ []) refl (
  by_deref (receivers plan_revived.jobs) copied (1 ∷ []) 1 refl,
  (on_by_property (receivers plan_revived.jobs) copied (1 ∷ []) 1 p (Object 2) 2 (by_deref (receivers plan_revived.jobs) copied (1 ∷ []) 1 refl) refl refl, (by_root (receivers plan_revived.jobs) copied (1 ∷ []) 3 (by_variable (receivers plan_revived.jobs) copied w 3 refl), tt)),
)

pub dead_in_the_next_job : AreDead (receivers plan_revived.jobs) next_job (1 ∷ 2 ∷ [])
dead_in_the_next_job = dead_but plan_revived next_job (w ∷ []) (1 ∷ 2 ∷ []) refl

pub worked_revived : IsWorked [] plan_revived closed (codes "agent a\nemptied 1\nemptied 2\nend live 0 awaiting 0 unregistered 0 taken 0\n")
unfolding digits
worked_revived = record { whole = (search rules, search (rules, dead_in_the_next_job, late_without_the_revived)); report = refl }

-- Wrong neighbours

-- the deref is passed over
ignores_the_deref : IsOutOfPlace plan_revived to_finish (Emptied (1 ∷ 2 ∷ 4 ∷ []))
ignores_the_deref p = other_late (receivers plan_revived.jobs) copied (1 ∷ []) (1 ∷ 2 ∷ 4 ∷ []) (4 ∷ []) 1 p late_without_the_revived refl refl

-- what it gave stays, but not what that reaches
forgets_what_it_reaches : IsOutOfPlace plan_revived to_finish (Emptied (2 ∷ 4 ∷ []))
forgets_what_it_reaches p = other_late (receivers plan_revived.jobs) copied (1 ∷ []) (2 ∷ 4 ∷ []) (4 ∷ []) 2 p late_without_the_revived refl refl

-- nothing is emptied
finishes_with_nothing : IsOutOfPlace plan_revived to_finish (Emptied [])
finishes_with_nothing p = other_late (receivers plan_revived.jobs) copied (1 ∷ []) (4 ∷ []) [] 4 late_without_the_revived p refl refl

-- the job ends, and the collection stays open
ends_unfinished : IsOutOfPlace plan_revived to_finish JobEnded
ends_unfinished p = p

-- it is finished before the job's last command
finishes_early : IsOutOfPlace plan_revived derefed (Emptied (4 ∷ []))
finishes_early p = let clash : false ≡ true = p.0 in cc

-- it is finished twice
finishes_twice : IsOutOfPlace plan_revived finished (Emptied [])
finishes_twice p = p

-- it is finished where it is opened
finishes_at_once : IsOutOfPlace plan_revived (JobBegun 2 ∷ JobEnded ∷ all_made) (Emptied (1 ∷ 2 ∷ 4 ∷ []))
finishes_at_once p = let clash : false ≡ true = p.0 in cc

-- What died since stays: the late are fewer than the dead

abbrev pub plan_since : AgentPlan
plan_since = plan_of ((CollectLater ∷ new a ∷ forget a ∷ []) ∷ (Collect ∷ []) ∷ [])

abbrev pub copied_first : History
copied_first = opening ∷ JobBegun 1 ∷ []

abbrev pub made_since : History
made_since = Did (forget a, [], Gives Undefined) ∷ Did (new a, [], Gives (Object 1)) ∷ copied_first

abbrev pub closed_since : History
closed_since = Closed ∷ JobEnded ∷ Emptied (1 ∷ []) ∷ JobBegun 2 ∷ JobEnded ∷ Emptied [] ∷ made_since

pub nothing_late : AreLate (receivers plan_since.jobs) copied_first [] []
nothing_late = late_by (receivers plan_since.jobs) copied_first [] [] [] refl tt

pub dead_since : AreDead (receivers plan_since.jobs) made_since (1 ∷ [])
dead_since = dead_but plan_since made_since [] (1 ∷ []) refl

dead_later : AreDead (receivers plan_since.jobs) (JobBegun 2 ∷ JobEnded ∷ Emptied [] ∷ made_since) (1 ∷ [])
dead_later = dead_but plan_since (JobBegun 2 ∷ JobEnded ∷ Emptied [] ∷ made_since) [] (1 ∷ []) refl

pub worked_since : IsWorked [] plan_since closed_since (codes "agent a\nemptied 0\nemptied 1\nend live 0 awaiting 0 unregistered 0 taken 0\n")
unfolding digits
worked_since = record { whole = (search rules, search (rules, dead_later, nothing_late)); report = refl }

-- what was made since is emptied
empties_what_was_made_since : IsOutOfPlace plan_since made_since (Emptied (1 ∷ []))
empties_what_was_made_since p = other_late (receivers plan_since.jobs) copied_first [] (1 ∷ []) [] 1 p nothing_late refl refl

-- While one is open, another is refused, and the refused job still finishes the first

abbrev pub plan_twice : AgentPlan
plan_twice = plan_of ((CollectLater ∷ Collect ∷ []) ∷ [])

abbrev pub refused_second : History
refused_second = Refused CollectionOpen ∷ copied_first

abbrev pub closed_twice : History
closed_twice = Closed ∷ JobEnded ∷ Emptied [] ∷ refused_second

late_twice : AreLate (receivers plan_twice.jobs) copied_first [] []
late_twice = late_by (receivers plan_twice.jobs) copied_first [] [] [] refl tt

pub worked_twice : IsWorked [] plan_twice closed_twice (codes "agent a\nerror a collection is open\nemptied 0\nend live 0 awaiting 0 unregistered 0 taken 0\n")
unfolding digits
worked_twice = record { whole = (search rules, search (rules, late_twice)); report = refl }

-- a collection is made while one is open
collects_while_open : IsOutOfPlace plan_twice copied_first (Emptied [])
collects_while_open p = let clash : false ≡ true = p.0 in cc

-- a second is opened
opens_while_open : IsUnlawful plan_twice copied_first opening
opens_while_open l = cc

-- the refused job ends, and the collection stays open
stops_unfinished : IsOutOfPlace plan_twice refused_second JobEnded
stops_unfinished p = p

-- the first is refused
refuses_the_first : IsOutOfPlace plan_twice (JobBegun 1 ∷ []) (Refused CollectionOpen)
refuses_the_first p = cc

-- A job that another command's refusal stops finishes too

abbrev pub plan_stopped : AgentPlan
plan_stopped = plan_of (
    (new a ∷ WeakRef w a ∷ forget a ∷ [])
    ∷ (CollectLater ∷ Let y (NumberLiteral (pos 1)) ∷ Set y p y ∷ [])
    ∷ []
    )

abbrev pub copied_after : History
copied_after =
    opening
    ∷ JobBegun 2
    ∷ JobEnded
    ∷ Did (forget a, [], Gives Undefined)
    ∷ Did (WeakRef w a, Object 1 ∷ [], Gives (Object 2))
    ∷ Did (new a, [], Gives (Object 1))
    ∷ JobBegun 1
    ∷ []

abbrev pub stopped : History
stopped = Refused NotAnObject ∷ Did (Let y (NumberLiteral (pos 1)), [], Gives (Number (pos 1))) ∷ copied_after

abbrev pub closed_stopped : History
closed_stopped = Closed ∷ JobEnded ∷ Emptied (1 ∷ []) ∷ stopped

late_stopped : AreLate (receivers plan_stopped.jobs) copied_after [] (1 ∷ [])
late_stopped = late_by (receivers plan_stopped.jobs) copied_after [] (2 ∷ []) (1 ∷ []) refl (by_root (receivers plan_stopped.jobs) copied_after [] 2 (by_variable (receivers plan_stopped.jobs) copied_after w 2 refl), tt)

pub worked_stopped : IsWorked [] plan_stopped closed_stopped (codes "agent a\nerror TypeError: not an object\nemptied 1\nend live 0 awaiting 0 unregistered 0 taken 0\n")
unfolding digits
worked_stopped = record { whole = (search rules, search (rules, late_stopped)); report = refl }

-- A WeakMap's entry comes back with its key

abbrev pub plan_entry : AgentPlan
plan_entry = plan_of (
    (WeakMap m ∷ new k ∷ new v ∷ WeakMapSet m k v ∷ WeakRef w k ∷ forget k ∷ forget v ∷ [])
    ∷ (CollectLater ∷ Deref x w ∷ [])
    ∷ []
    )

abbrev pub copied_entry : History
copied_entry =
    opening ∷ JobBegun 2 ∷ JobEnded
    ∷ Did (forget v, [], Gives Undefined)
    ∷ Did (forget k, [], Gives Undefined)
    ∷ Did (WeakRef w k, Object 2 ∷ [], Gives (Object 4))
    ∷ Did (WeakMapSet m k v, Object 1 ∷ Object 2 ∷ Object 3 ∷ [], Nothing)
    ∷ Did (new v, [], Gives (Object 3))
    ∷ Did (new k, [], Gives (Object 2))
    ∷ Did (WeakMap m, [], Gives (Object 1))
    ∷ JobBegun 1
    ∷ []

abbrev pub key_given : History
key_given = Did (Deref x w, Object 4 ∷ [], Gives (Object 2)) ∷ copied_entry

abbrev pub closed_entry : History
closed_entry = Closed ∷ JobEnded ∷ Emptied [] ∷ key_given

-- without the deref both were late
late_unless_given : AreLate (receivers plan_entry.jobs) copied_entry [] (2 ∷ 3 ∷ [])
late_unless_given = late_by (receivers plan_entry.jobs) copied_entry [] (1 ∷ 4 ∷ []) (2 ∷ 3 ∷ []) refl (
  by_root (receivers plan_entry.jobs) copied_entry [] 1 (by_variable (receivers plan_entry.jobs) copied_entry m 1 refl),
  (by_root (receivers plan_entry.jobs) copied_entry [] 4 (by_variable (receivers plan_entry.jobs) copied_entry w 4 refl), tt),
)

pub nothing_late_with_the_key : AreLate (receivers plan_entry.jobs) copied_entry (2 ∷ []) []
nothing_late_with_the_key =
    let map = by_root (receivers plan_entry.jobs) copied_entry (2 ∷ []) 1 (by_variable (receivers plan_entry.jobs) copied_entry m 1 refl) in
    let key = by_deref (receivers plan_entry.jobs) copied_entry (2 ∷ []) 2 refl in
    late_by (receivers plan_entry.jobs) copied_entry (2 ∷ []) (1 ∷ 2 ∷ 3 ∷ 4 ∷ []) [] refl (
      map,
      (key, (on_by_entry (receivers plan_entry.jobs) copied_entry (2 ∷ []) 1 2 (Object 3) 3 map key refl refl, (by_root (receivers plan_entry.jobs) copied_entry (2 ∷ []) 4 (by_variable (receivers plan_entry.jobs) copied_entry w 4 refl), tt))),
    )

pub whole_entry : IsWholeRun plan_entry closed_entry
whole_entry = ([], search rules, search (rules, nothing_late_with_the_key))

-- the key stays, but not the value of its entry
forgets_the_entry : IsOutOfPlace plan_entry key_given (Emptied (3 ∷ []))
forgets_the_entry p = other_late (receivers plan_entry.jobs) copied_entry (2 ∷ []) (3 ∷ []) [] 3 p nothing_late_with_the_key refl refl

-- A cell whose target is late awaits its cleanup, and what it holds stays

abbrev pub plan_cell : AgentPlan
plan_cell = plan_with (Say (codes "held") ∷ []) (
    (FinalizationRegistry r 1 ∷ new x ∷ new h ∷ Register r x h None ∷ forget x ∷ forget h ∷ CollectLater ∷ [])
    ∷ []
    )

abbrev pub copied_cell : History
copied_cell =
    opening
    ∷ Did (forget h, [], Gives Undefined)
    ∷ Did (forget x, [], Gives Undefined)
    ∷ Did (Register r x h None, Object 1 ∷ Object 2 ∷ Object 3 ∷ [], Nothing)
    ∷ Did (new h, [], Gives (Object 3))
    ∷ Did (new x, [], Gives (Object 2))
    ∷ Did (FinalizationRegistry r 1, [], Gives (Object 1))
    ∷ JobBegun 1
    ∷ []

abbrev pub closed_cell : History
closed_cell = Closed ∷ JobEnded ∷ Did (Say (codes "held"), Object 3 ∷ [], Nothing) ∷ Taken 1 (Object 3) ∷ CleanupBegun 1 ∷ JobEnded ∷ Emptied (2 ∷ []) ∷ copied_cell

pub late_target : AreLate (receivers plan_cell.jobs) copied_cell [] (2 ∷ [])
late_target = late_by (receivers plan_cell.jobs) copied_cell [] (1 ∷ 3 ∷ []) (2 ∷ []) refl (
  by_root (receivers plan_cell.jobs) copied_cell [] 1 (by_registry (receivers plan_cell.jobs) copied_cell 1 1 refl),
  (by_root (receivers plan_cell.jobs) copied_cell [] 3 (by_cell (receivers plan_cell.jobs) copied_cell 1 (record { registry = 1; target = 2; held = Object 3; token = None }) 3 refl refl refl), tt),
)

pub worked_cell : IsWorked [] plan_cell closed_cell (codes "agent a\nemptied 1\ncleanup 1 held object 3\nsay object 3\nend live 0 awaiting 0 unregistered 0 taken 1\n")
unfolding digits
worked_cell = record { whole = (search rules, search (rules, late_target)); report = refl }

-- what the cell holds is emptied
empties_the_held : IsOutOfPlace plan_cell copied_cell (Emptied (2 ∷ 3 ∷ []))
empties_the_held p = other_late (receivers plan_cell.jobs) copied_cell [] (2 ∷ 3 ∷ []) (2 ∷ []) 3 p late_target refl refl
