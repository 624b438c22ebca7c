-- Wrong neighbours of the histories of FinalizationRegistries, each of which the definitions refuse.
use Rattle.std.proofs.Common.{◌≡◌, true, false, refl, [], ◌∷◌, ◌++◌, Some, None, codes}
use Rattle.std.specs.Prelude.{pos}
use Rattle.std.specs.Fmt.{digits}
use Rattle.std.specs.Str.{bytes_eq}
use Rattle.es_value.specs.declared.value.Value.TheVariants.{Undefined, Boolean, Number, Object}
use Rattle.es_event.specs.declared.command.Command.TheVariants.{Say, Set, Register, Unregister}
use Rattle.es_event.specs.declared.event.Answer.TheVariants.{Nothing, Gives}
use Rattle.es_event.specs.declared.event.Event.TheVariants.{JobBegun, CleanupBegun, Did, Refused, Emptied, Taken, JobEnded, Closed}
use Rattle.es_event.specs.declared.event.Refusal.TheVariants.{NotAnObject, NotHeldWeakly, SameTargetAndHeld}
use Rattle.es_event.specs.declared.plan.AgentPlan.{AgentPlan}
use Rattle.es_event.specs.Identities.{is_in}
use Rattle.es_event.specs.Jobs.{receivers}
use Rattle.es_event.specs.WeakRefs.{kept}
use Rattle.es_event.specs.Registrations.{live, unregistered, fate, tally}
use Rattle.es_event.specs.Live.{Oblivious, observes, Honest}
use Rattle.es_event.specs.Report.{line, end_line}
use Rattle.es_event.proofs.Examples.{plan_with, IsUnlawful, IsOutOfPlace}
use Rattle.es_event.proofs.Deciding.{other_set}
use Rattle.es_laws.proofs.ExampleRegistries as Registries
use Rattle.es_laws.proofs.ExampleRegistries.{held}
use Rattle.es_laws.proofs.ExampleCleanups as Cleanups
use Rattle.es_laws.proofs.Letters.{a, b, c, n, p, q, r, t, x}

-- Cells

-- a cell is taken before its target is emptied
taken_too_early : IsUnlawful Registries.plan_own_token Registries.forgot_own_token (Taken 1 (Number (pos 5)))
taken_too_early l = cc

-- it is taken twice
taken_twice : IsUnlawful Registries.plan_own_token Registries.taken_own_token (Taken 1 (Number (pos 5)))
taken_twice l = cc

taken_once_more : IsOutOfPlace Registries.plan_own_token Registries.taken_own_token (Taken 1 (Number (pos 5)))
taken_once_more e = e

-- another value is held than was registered
other_held_value : IsUnlawful Registries.plan_own_token (CleanupBegun 1 ∷ Registries.ended_own_token) (Taken 1 (Number (pos 6)))
other_held_value l = cc

-- a registration is taken that was never made
taken_unmade : IsUnlawful Registries.plan_own_token (CleanupBegun 1 ∷ Registries.ended_own_token) (Taken 2 (Number (pos 5)))
taken_unmade l = cc

-- the younger of two cells is taken first
younger_first : IsOutOfPlace Registries.plan_refused Registries.begun_refused (Taken 2 (Number (pos 2)))
younger_first e = cc

-- a cell of another registry is taken
of_another_registry : IsOutOfPlace Registries.plan_order (CleanupBegun 1 ∷ Registries.ended_order) (Taken 1 (Number (pos 2)))
of_another_registry e = cc

-- the callback runs before the cell is taken
callback_before_its_cell : IsOutOfPlace Registries.plan_callback Registries.begun_cleanup (Did (Say held, Undefined ∷ [], Nothing))
callback_before_its_cell e = e

-- the next cell is taken before the callback has run
cell_before_the_callback : IsOutOfPlace Registries.plan_refused Registries.taken_refused (Taken 2 (Number (pos 2)))
cell_before_the_callback e = e

-- the held value is not what the variable held has
held_not_assigned : IsUnlawful Registries.plan_callback Registries.taken_callback (Did (Say held, Undefined ∷ [], Nothing))
held_not_assigned l = cc

-- KeptAlive has the held value of a cell that is taken
held_is_kept : is_in (kept (Taken 1 (Object 3) ∷ CleanupBegun 1 ∷ Emptied (2 ∷ []) ∷ Registries.forgot_held)) 3 ≡ true → ⊥
held_is_kept e = cc

-- a cell that was unregistered is taken
taken_unregistered : IsUnlawful Registries.plan_unregistered Registries.emptied_unregistered (Taken 1 (Number (pos 1)))
taken_unregistered l = cc

-- a cell that was taken becomes one that was unregistered
unregistered_once_taken : fate Cleanups.closed_late 1 ≡ unregistered → ⊥
unregistered_once_taken e = cc

-- Cleanup jobs

-- the same jobs with a callback that does nothing, so that none is refused
abbrev pub plan_quiet : AgentPlan
plan_quiet = plan_with [] Registries.jobs_refused

-- a cleanup job ends before it takes a cell that awaits it
ends_at_once : IsOutOfPlace plan_quiet Registries.begun_refused JobEnded
ends_at_once e = e

-- or before it takes the second
ends_after_the_first : IsOutOfPlace plan_quiet Registries.taken_refused JobEnded
ends_after_the_first e = e

-- it goes on after a refusal
goes_on_once_refused : IsOutOfPlace Registries.plan_refused Registries.refused_first (Taken 2 (Number (pos 2)))
goes_on_once_refused e = e

-- its registry is not queued again after a refusal: the agent closes, and a cell awaits its cleanup
closed_with_a_cell_left : IsOutOfPlace Registries.plan_refused (JobEnded ∷ Registries.refused_first) Closed
closed_with_a_cell_left e = e

-- or the next job of the plan begins, where there is one
abbrev pub plan_another_job : AgentPlan
plan_another_job = plan_with (Set held p held ∷ []) (Registries.jobs_refused ++ (Say b ∷ []) ∷ [])

next_job_with_a_cell_left : IsOutOfPlace plan_another_job (JobEnded ∷ Registries.refused_first) (JobBegun 2)
next_job_with_a_cell_left e = e

-- the next job of the plan begins before the cleanup job
next_job_first : IsOutOfPlace Cleanups.plan_forgotten Cleanups.ended_forgotten (JobBegun 2)
next_job_first e = e

-- a registry is queued again after a job without a refusal
begun_again : IsOutOfPlace Registries.plan_own_token (JobEnded ∷ Registries.taken_own_token) (CleanupBegun 1)
begun_again e = e

-- cleanup jobs by falling identity of their registries
wrong_order : IsOutOfPlace Registries.plan_order Registries.ended_order (CleanupBegun 2)
wrong_order e = cc

-- one that is queued again after a refusal comes before the others
again_first : IsOutOfPlace Cleanups.plan_two Cleanups.refused_two (CleanupBegun 1)
again_first e = cc

-- the callback of another registry is called
another_callback : IsOutOfPlace Cleanups.plan_two Cleanups.taken_two (Refused NotAnObject)
another_callback e = cc

-- a registry that is queued already loses its place
place_lost : IsOutOfPlace Cleanups.plan_queued Cleanups.ended_queued (CleanupBegun 1)
place_lost e = cc

-- a cleanup job begins inside the job that collects
begun_inside : IsOutOfPlace Registries.plan_shared_token Registries.emptied_shared_token (CleanupBegun 1)
begun_inside e = e

-- one begins for a registry of which only an unregistered cell lost its target
begun_for_nothing : IsOutOfPlace Registries.plan_unregistered (JobEnded ∷ Registries.emptied_unregistered) (CleanupBegun 1)
begun_for_nothing e = e

-- none begins for one whose cells were unregistered since it was queued
not_begun : IsOutOfPlace Registries.plan_shared_token (JobEnded ∷ Did (Say b, Boolean true ∷ [], Nothing) ∷ Registries.unregistered_both) Closed
not_begun e = e

-- the agent closes while a registry is queued
closed_while_queued : IsOutOfPlace Registries.plan_own_token Registries.ended_own_token Closed
closed_while_queued e = e

-- Tokens

-- a token is not found, though two cells have it
token_not_found : IsUnlawful Registries.plan_shared_token Registries.emptied_shared_token (Did (Unregister b r t, Object 1 ∷ Object 4 ∷ [], Gives (Boolean false)))
token_not_found l = cc

-- or though a cell has it that awaits its cleanup
awaiting_is_not_found : IsUnlawful Cleanups.plan_awaiting (Emptied [] ∷ Cleanups.emptied_awaiting) (Did (Unregister b r t, Object 1 ∷ Object 4 ∷ [], Gives (Boolean false)))
awaiting_is_not_found l = cc

-- one is found, though its only cell was taken
taken_is_found : IsUnlawful Cleanups.plan_late Cleanups.begun_late (Did (Unregister b r t, Object 1 ∷ Object 3 ∷ [], Gives (Boolean true)))
taken_is_found l = cc

-- or was unregistered before
unregistered_is_found : IsUnlawful Registries.plan_unregistered Registries.unregistered_once (Did (Unregister c r t, Object 1 ∷ Object 3 ∷ [], Gives (Boolean true)))
unregistered_is_found l = cc

-- or is of another registry
found_in_another : IsUnlawful Cleanups.plan_allowed Cleanups.registered_twice (Did (Unregister b q r, Object 2 ∷ Object 1 ∷ [], Gives (Boolean true)))
found_in_another l = cc

-- the second of two cells with a token stays
second_stays : IsUnlawful Registries.plan_shared_token (Emptied (3 ∷ []) ∷ Registries.unregistered_both) (Taken 2 (Number (pos 1)))
second_stays l = cc

-- or the first, whose target was emptied before
first_stays : IsUnlawful Registries.plan_shared_token Registries.begun_shared_token (Taken 1 (Number (pos 1)))
first_stays l = cc

-- a cell is taken out of another registry than the one that was asked
taken_out_of_another : fate Cleanups.looked_in_another 1 ≡ unregistered → ⊥
taken_out_of_another e = cc

-- Refusals

-- a target is its own held value
holds_its_target : IsUnlawful Registries.plan_same Registries.made_same (Did (Register r a a None, Object 1 ∷ Object 2 ∷ Object 2 ∷ [], Nothing))
holds_its_target l = cc

-- a number is a target
number_as_target : IsUnlawful Registries.plan_same Registries.let_same (Did (Register r n n None, Object 1 ∷ Number (pos 5) ∷ Number (pos 5) ∷ [], Nothing))
number_as_target l = cc

-- or a token
number_as_token : IsUnlawful Cleanups.plan_refusals Cleanups.begun_number_token (Did (Register r x n (Some n), Object 1 ∷ Object 2 ∷ Number (pos 5) ∷ Number (pos 5) ∷ [], Nothing))
number_as_token l = cc

-- or is looked for as one
number_looked_for : IsUnlawful Cleanups.plan_refusals Cleanups.begun_no_registry (Did (Unregister b r n, Object 1 ∷ Number (pos 5) ∷ [], Gives (Boolean false)))
number_looked_for l = cc

-- an object is a registry
object_as_registry : IsUnlawful Cleanups.plan_refusals Cleanups.let_five (Did (Register x r n None, Object 2 ∷ Object 1 ∷ Number (pos 5) ∷ [], Nothing))
object_as_registry l = cc

-- a token that is its target is refused
own_token_refused : IsOutOfPlace Registries.plan_own_token Registries.let_own_token (Refused SameTargetAndHeld)
own_token_refused e = cc

-- the code of a later test, where an earlier one fails
later_than_the_registry : IsOutOfPlace Cleanups.plan_refusals Cleanups.let_five (Refused NotHeldWeakly)
later_than_the_registry e = cc

later_than_the_target : IsOutOfPlace Cleanups.plan_refusals Cleanups.begun_number_target (Refused SameTargetAndHeld)
later_than_the_target e = cc

later_than_the_held_value : IsOutOfPlace Cleanups.plan_refusals Cleanups.begun_same_and_token (Refused NotHeldWeakly)
later_than_the_held_value e = cc

no_registry_is_asked : IsOutOfPlace Cleanups.plan_refusals Cleanups.begun_no_registry (Refused NotHeldWeakly)
no_registry_is_asked e = cc

-- Emptying

-- the held value is emptied while its cell is in the registry
empties_the_held_value : IsOutOfPlace Cleanups.plan_released Cleanups.held_by_its_cell (Emptied (3 ∷ []))
empties_the_held_value e = other_set (receivers Cleanups.plan_released.jobs) Cleanups.held_by_its_cell (3 ∷ []) [] 3 e.1 Cleanups.reached_by_its_cell refl refl

-- or while its cell awaits its cleanup there
empties_while_awaiting : IsOutOfPlace Cleanups.plan_awaiting Cleanups.emptied_awaiting (Emptied (3 ∷ []))
empties_while_awaiting e = other_set (receivers Cleanups.plan_awaiting.jobs) Cleanups.emptied_awaiting (3 ∷ []) [] 3 e.1 Cleanups.reached_while_awaiting refl refl

-- or with what it leads to, its own target
empties_what_it_holds : IsOutOfPlace Registries.plan_held Registries.forgot_held (Emptied (2 ∷ 3 ∷ []))
empties_what_it_holds e = other_set (receivers Registries.plan_held.jobs) Registries.forgot_held (2 ∷ 3 ∷ []) [] 2 e.1 Registries.reached_by_a_cell refl refl

empties_the_target : IsOutOfPlace Registries.plan_held Registries.forgot_held (Emptied (2 ∷ []))
empties_the_target e = other_set (receivers Registries.plan_held.jobs) Registries.forgot_held (2 ∷ []) [] 2 e.1 Registries.reached_by_a_cell refl refl

-- a cell that is out of its registry keeps its held value
keeps_the_held_value : IsOutOfPlace Cleanups.plan_released Cleanups.released (Emptied [])
keeps_the_held_value e = other_set (receivers Cleanups.plan_released.jobs) Cleanups.released (3 ∷ []) [] 3 Cleanups.dead_once_released e.1 refl refl

-- a cell keeps its target
cell_keeps_its_target : IsOutOfPlace Registries.plan_callback Registries.begun_second (Emptied [])
cell_keeps_its_target e = other_set (receivers Registries.plan_callback.jobs) Registries.begun_second (2 ∷ []) [] 2 Registries.dead_callback e.1 refl refl

-- or its token, here the target
cell_keeps_its_token : IsOutOfPlace Registries.plan_own_token Registries.forgot_own_token (Emptied [])
cell_keeps_its_token e = other_set (receivers Registries.plan_own_token.jobs) Registries.forgot_own_token (2 ∷ []) [] 2 Registries.dead_own_token e.1 refl refl

-- a registry goes that no variable holds
empties_the_registry : IsOutOfPlace Cleanups.plan_forgotten Cleanups.forgot_both (Emptied (1 ∷ 2 ∷ []))
empties_the_registry e = other_set (receivers Cleanups.plan_forgotten.jobs) Cleanups.forgot_both (1 ∷ 2 ∷ []) (2 ∷ []) 1 e.1 Cleanups.registry_stays refl refl

-- Liveness

-- an execution takes a cell whose target it has not emptied
takes_a_live_cell : Oblivious (3 ∷ []) [] (receivers Cleanups.plan_released.jobs) Cleanups.held_by_its_cell (Taken 1 (Object 3) ∷ CleanupBegun 1 ∷ []) → ⊥
takes_a_live_cell o = cc

-- or one that was unregistered
takes_a_released_cell : Oblivious (3 ∷ []) [] (receivers Cleanups.plan_released.jobs) Cleanups.released (Taken 1 (Object 3) ∷ Emptied (2 ∷ []) ∷ []) → ⊥
takes_a_released_cell o = cc

-- the held value is emptied, which is live
empties_a_live_value : Honest (receivers Registries.plan_held.jobs) (Emptied (3 ∷ []) ∷ Registries.forgot_held) → ⊥
empties_a_live_value honest = honest.0 Registries.held_is_live

-- a cell that is taken observes its target or its token, and not its held value alone
observes_the_target : observes (2 ∷ 4 ∷ []) (Taken 1 (Object 3)) ≡ true → ⊥
observes_the_target e = cc

-- Reports

-- the end line counts a cell that was taken as one that was unregistered
counts_another_fate : bytes_eq (end_line Registries.closed_shared_token) (codes "end live 0 awaiting 0 unregistered 1 taken 1\n") ≡ false
unfolding digits
counts_another_fate = refl

-- or leaves a registration out
leaves_one_out : bytes_eq (end_line Registries.closed_order) (codes "end live 0 awaiting 0 unregistered 0 taken 1\n") ≡ false
unfolding digits
leaves_one_out = refl

-- the line of a cell says nothing of what it holds
line_without_held : bytes_eq (line (Taken 1 (Number (pos 5)))) (codes "cleanup 1\n") ≡ false
unfolding digits
line_without_held = refl

-- a registration that awaits its cleanup is counted as live
counts_awaiting_as_live : tally Registries.ended_own_token live ≡ 1 → ⊥
counts_awaiting_as_live e = cc
