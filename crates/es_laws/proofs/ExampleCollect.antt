-- Collections: a target that KeptAlive keeps and that goes in the next job, one that reaches another, and a cycle.
use Rattle.std.proofs.Common.{◌≡◌, ℕ, true, false, refl, List, [], ◌∷◌, codes, rules}
use Rattle.std.specs.Fmt.{digits}
use Rattle.es_value.specs.declared.value.Value.TheVariants.{Undefined, Object}
use Rattle.es_event.specs.declared.literal.Literal.TheVariants.{Undefined as NoLiteral}
use Rattle.es_event.specs.declared.command.Command.{Command}
use Rattle.es_event.specs.declared.command.Command.TheVariants.{Let, New, Set, Say, WeakRef, Deref, Collect}
use Rattle.es_event.specs.declared.event.Answer.TheVariants.{Nothing, Gives}
use Rattle.es_event.specs.declared.event.Event.TheVariants.{JobBegun, Did, Refused, Emptied, JobEnded, Closed}
use Rattle.es_event.specs.declared.event.Refusal.TheVariants.{NotAWeakRef}
use Rattle.es_event.specs.declared.plan.AgentPlan.{AgentPlan}
use Rattle.es_event.specs.History.{History}
use Rattle.es_event.specs.Jobs.{receivers}
use Rattle.es_event.specs.Reach.{AreDead}
use Rattle.es_event.proofs.Examples.{plan_of, IsUnlawful, IsOutOfPlace}
use Rattle.es_event.proofs.Deciding.{dead_by, other_set, by_variable, by_keeping, by_property}
use Rattle.es_laws.proofs.Letters.{a, b, c, p, s, t, u, v, w, x, y}
use Rattle.es_laws.proofs.Worked.{IsWorked, dead_but, dead_beside}

abbrev pub new : List ℕ → Command
new x = New x

abbrev pub forget : List ℕ → Command
forget x = Let x NoLiteral

-- A target that the making of its WeakRef keeps for the job, and that goes in the next one

abbrev pub plan_kept : AgentPlan
plan_kept = plan_of ((new a ∷ WeakRef w a ∷ forget a ∷ Collect ∷ Deref b w ∷ Say b ∷ []) ∷ (forget b ∷ Collect ∷ Deref b w ∷ Say b ∷ []) ∷ [])

abbrev pub forgot_a : History
forgot_a =
    Did (forget a, [], Gives Undefined)
    ∷ Did (WeakRef w a, Object 1 ∷ [], Gives (Object 2))
    ∷ Did (new a, [], Gives (Object 1)) ∷ JobBegun 1 ∷ []

abbrev pub collected : History
collected = Emptied [] ∷ forgot_a

abbrev pub forgot_b : History
forgot_b =
    Did (forget b, [], Gives Undefined)
    ∷ JobBegun 2 ∷ JobEnded
    ∷ Did (Say b, Object 1 ∷ [], Nothing)
    ∷ Did (Deref b w, Object 2 ∷ [], Gives (Object 1)) ∷ collected

abbrev pub collected_again : History
collected_again = Emptied (1 ∷ []) ∷ forgot_b

abbrev pub closed : History
closed =
    Closed ∷ JobEnded ∷ Did (Say b, Undefined ∷ [], Nothing)
    ∷ Did (Deref b w, Object 2 ∷ [], Gives Undefined) ∷ collected_again

pub kept_by_its_weakref : AreDead (receivers plan_kept.jobs) forgot_a []
kept_by_its_weakref = dead_by (receivers plan_kept.jobs) forgot_a (1 ∷ 2 ∷ []) [] refl (by_keeping (receivers plan_kept.jobs) forgot_a 1 refl, (by_variable (receivers plan_kept.jobs) forgot_a w 2 refl, tt))

pub dead_in_the_next_job : AreDead (receivers plan_kept.jobs) forgot_b (1 ∷ [])
dead_in_the_next_job = dead_but plan_kept forgot_b (w ∷ []) (1 ∷ []) refl

pub worked_kept : IsWorked [] plan_kept closed (codes "agent a\nemptied 0\nsay object 1\nemptied 1\nsay undefined\nend live 0 awaiting 0 unregistered 0 taken 0\n")
unfolding digits
worked_kept = record { whole = (search rules, search (rules, kept_by_its_weakref, dead_in_the_next_job)); report = refl }

-- One that reaches another: both go in one event

abbrev pub plan_reaches : AgentPlan
plan_reaches = plan_of (
    (new t ∷ new s ∷ Set t p s ∷ WeakRef u t ∷ WeakRef v s ∷ forget t ∷ forget s ∷ [])
    ∷ (Collect ∷ Deref x u ∷ Deref y v ∷ Say x ∷ Say y ∷ [])
    ∷ []
    )

abbrev pub forgot_both : History
forgot_both =
    JobBegun 2 ∷ JobEnded ∷ Did (forget s, [], Gives Undefined) ∷ Did (forget t, [], Gives Undefined)
    ∷ Did (WeakRef v s, Object 2 ∷ [], Gives (Object 4))
    ∷ Did (WeakRef u t, Object 1 ∷ [], Gives (Object 3))
    ∷ Did (Set t p s, Object 1 ∷ Object 2 ∷ [], Nothing)
    ∷ Did (new s, [], Gives (Object 2)) ∷ Did (new t, [], Gives (Object 1)) ∷ JobBegun 1 ∷ []

abbrev pub closed_reaches : History
closed_reaches =
    Closed
    ∷ JobEnded
    ∷ Did (Say y, Undefined ∷ [], Nothing)
    ∷ Did (Say x, Undefined ∷ [], Nothing)
    ∷ Did (Deref y v, Object 4 ∷ [], Gives Undefined)
    ∷ Did (Deref x u, Object 3 ∷ [], Gives Undefined)
    ∷ Emptied (1 ∷ 2 ∷ [])
    ∷ forgot_both

pub dead_both : AreDead (receivers plan_reaches.jobs) forgot_both (1 ∷ 2 ∷ [])
dead_both = dead_but plan_reaches forgot_both (u ∷ v ∷ []) (1 ∷ 2 ∷ []) refl

pub worked_reaches : IsWorked [] plan_reaches closed_reaches (codes "agent a\nemptied 2\nsay undefined\nsay undefined\nend live 0 awaiting 0 unregistered 0 taken 0\n")
unfolding digits
worked_reaches = record { whole = (search rules, search (rules, dead_both)); report = refl }

-- A cycle goes as a whole, once nothing in KeptAlive reaches it

abbrev pub plan_cycle : AgentPlan
plan_cycle = plan_of (
    (new a ∷ new b ∷ Set a p b ∷ Set b p a ∷ WeakRef w a ∷ forget a ∷ forget b ∷ Collect ∷ [])
    ∷ (Collect ∷ Deref x w ∷ Say x ∷ [])
    ∷ []
    )

abbrev pub forgot_cycle : History
forgot_cycle =
    Did (forget b, [], Gives Undefined)
    ∷ Did (forget a, [], Gives Undefined)
    ∷ Did (WeakRef w a, Object 1 ∷ [], Gives (Object 3))
    ∷ Did (Set b p a, Object 2 ∷ Object 1 ∷ [], Nothing)
    ∷ Did (Set a p b, Object 1 ∷ Object 2 ∷ [], Nothing)
    ∷ Did (new b, [], Gives (Object 2))
    ∷ Did (new a, [], Gives (Object 1))
    ∷ JobBegun 1
    ∷ []

abbrev pub next_job : History
next_job = JobBegun 2 ∷ JobEnded ∷ Emptied [] ∷ forgot_cycle

abbrev pub closed_cycle : History
closed_cycle =
    Closed
    ∷ JobEnded
    ∷ Did (Say x, Undefined ∷ [], Nothing)
    ∷ Did (Deref x w, Object 3 ∷ [], Gives Undefined)
    ∷ Emptied (1 ∷ 2 ∷ [])
    ∷ next_job

pub kept_cycle : AreDead (receivers plan_cycle.jobs) forgot_cycle []
kept_cycle =
    let first = by_keeping (receivers plan_cycle.jobs) forgot_cycle 1 refl in
    dead_beside plan_cycle forgot_cycle (w ∷ []) (1 ∷ 2 ∷ []) [] refl (first, (by_property (receivers plan_cycle.jobs) forgot_cycle 1 p (Object 2) 2 first refl refl, tt))

pub dead_cycle : AreDead (receivers plan_cycle.jobs) next_job (1 ∷ 2 ∷ [])
dead_cycle = dead_but plan_cycle next_job (w ∷ []) (1 ∷ 2 ∷ []) refl

pub worked_cycle : IsWorked [] plan_cycle closed_cycle (codes "agent a\nemptied 0\nemptied 2\nsay undefined\nend live 0 awaiting 0 unregistered 0 taken 0\n")
unfolding digits
worked_cycle = record { whole = (search rules, search (rules, dead_cycle, kept_cycle)); report = refl }

-- Wrong neighbours

-- KeptAlive is passed over
passes_over_kept_alive : IsOutOfPlace plan_kept forgot_a (Emptied (1 ∷ []))
passes_over_kept_alive p = other_set (receivers plan_kept.jobs) forgot_a (1 ∷ []) [] 1 p.1 kept_by_its_weakref refl refl

-- nothing is emptied
empties_nothing : IsOutOfPlace plan_kept forgot_b (Emptied [])
empties_nothing p = other_set (receivers plan_kept.jobs) forgot_b (1 ∷ []) [] 1 dead_in_the_next_job p.1 refl refl

-- what is reached is emptied too
empties_the_weakref : IsOutOfPlace plan_kept forgot_b (Emptied (1 ∷ 2 ∷ []))
empties_the_weakref p = other_set (receivers plan_kept.jobs) forgot_b (1 ∷ 2 ∷ []) (1 ∷ []) 2 p.1 dead_in_the_next_job refl refl

-- only what has no properties is emptied
empties_the_leaf : IsOutOfPlace plan_reaches forgot_both (Emptied (2 ∷ []))
empties_the_leaf p = other_set (receivers plan_reaches.jobs) forgot_both (1 ∷ 2 ∷ []) (2 ∷ []) 1 dead_both p.1 refl refl

-- only what nothing holds is emptied
empties_the_first : IsOutOfPlace plan_reaches forgot_both (Emptied (1 ∷ []))
empties_the_first p = other_set (receivers plan_reaches.jobs) forgot_both (1 ∷ 2 ∷ []) (1 ∷ []) 2 dead_both p.1 refl refl

-- the collection is recorded as a command that was done
records_a_command : IsUnlawful plan_kept forgot_a (Did (Collect, [], Nothing))
records_a_command l = let no : true ≡ false = l.2 in cc

-- it is refused
refuses_it : IsOutOfPlace plan_kept forgot_a (Refused NotAWeakRef)
refuses_it p = cc

-- it is skipped
skips_it : IsOutOfPlace plan_kept forgot_a (Did (Deref b w, Object 2 ∷ [], Gives (Object 1)))
skips_it p = cc

-- it is recorded twice
records_it_twice : IsOutOfPlace plan_kept collected (Emptied [])
records_it_twice p = let no : false ≡ true = p.0 in cc

-- an emptied identity is given again
gives_an_identity_again : IsUnlawful plan_kept collected_again (Did (new c, [], Gives (Object 1)))
gives_an_identity_again l = cc

-- a deref of an emptied target answers the object
answers_the_emptied : IsUnlawful plan_kept collected_again (Did (Deref b w, Object 2 ∷ [], Gives (Object 1)))
answers_the_emptied l = cc

-- or is refused
refuses_the_emptied : IsOutOfPlace plan_kept collected_again (Refused NotAWeakRef)
refuses_the_emptied p = cc
