-- Wrong neighbours of the worked histories, each of which the definitions refuse.
use Rattle.std.proofs.Common.{◌≡◌, ℕ, Bool, true, false, refl, ap, arith, List, [], ◌∷◌, Some, Result, Ok, codes}
use Rattle.std.specs.Prelude.{pos}
use Rattle.std.specs.Str.{bytes_eq}
use Rattle.std.proofs.lemmas.Bool.{false≢true}
use Rattle.es_value.specs.Values.{is_same}
use Rattle.es_value.specs.declared.value.Value.TheVariants.{Undefined, Boolean, Number, Text, Registered, Object, Symbol as SymbolValue}
use Rattle.es_event.specs.declared.literal.Literal.TheVariants.{Number as NumberLiteral}
use Rattle.es_event.specs.declared.command.Command.TheVariants.{Let, New, Symbol, Same, Say, Set, Get, Delete, Keys, WeakRef, Deref}
use Rattle.es_event.specs.declared.event.Answer.{Answer}
use Rattle.es_event.specs.declared.event.Answer.TheVariants.{Nothing, Gives, Listed}
use Rattle.es_event.specs.declared.event.Event.{Event}
use Rattle.es_event.specs.declared.event.Event.TheVariants.{JobBegun, Did, Refused, Emptied, JobEnded, Closed}
use Rattle.es_event.specs.declared.event.Refusal.{Refusal}
use Rattle.es_event.specs.declared.event.Refusal.TheVariants.{NotAnObject, NotHeldWeakly, TooManyValues}
use Rattle.es_event.specs.declared.plan.AgentPlan.{AgentPlan}
use Rattle.es_event.specs.History.{History}
use Rattle.es_event.specs.Identities.{is_in, made}
use Rattle.es_event.specs.Jobs.{Receivers, receivers}
use Rattle.es_event.specs.Variables.{var}
use Rattle.es_event.specs.Properties.{prop, keys}
use Rattle.es_event.specs.WeakRefs.{kept}
use Rattle.es_event.specs.Legal.{LegalBy}
use Rattle.es_event.specs.Order.{phase, inside}
use Rattle.es_event.specs.Follows.{Follows}
use Rattle.es_event.specs.Runs.{IsWholeRun}
use Rattle.es_event.specs.Report.{line}
use Rattle.es_event.proofs.Examples.{IsUnlawful, IsOutOfPlace}
use Rattle.es_laws.proofs.ExampleDeref as Deref
use Rattle.es_laws.proofs.ExampleProperties as Properties
use Rattle.es_laws.proofs.ExampleRefusals as Refusals
use Rattle.es_laws.proofs.ExampleKeys as Keys
use Rattle.es_laws.proofs.ExampleSymbols as Symbols
use Rattle.es_event.proofs.ExampleReach as Reach
use Rattle.es_laws.proofs.Letters.{a, b, c, d, f, g, k, o, p, q, r, s, t, w, x, y, z}

-- KeptAlive

-- a job's end clears it
cleared : kept Deref.ended ≡ []
cleared = refl

-- it is not cleared at the end of a job
kept_past_the_job : is_in (kept Deref.ended) 1 ≡ true → ⊥
kept_past_the_job e = cc

-- nor at the beginning of the next
kept_into_the_next_job : is_in (kept Deref.begun_again) 1 ≡ true → ⊥
kept_into_the_next_job e = cc

-- it is cleared before the job ends
cleared_too_early : kept Deref.said_b ≡ [] → ⊥
cleared_too_early e = cc

-- the making of a WeakRef does not keep its target
weakref_keeps_nothing : is_in (kept Deref.made_w) 1 ≡ false → ⊥
weakref_keeps_nothing e = cc

-- it keeps the WeakRef
weakref_keeps_itself : is_in (kept Deref.made_w) 2 ≡ true → ⊥
weakref_keeps_itself e = cc

-- a deref does not keep what it gives
deref_keeps_nothing : is_in (kept Deref.derefed_again) 1 ≡ false → ⊥
deref_keeps_nothing e = cc

-- Identities

-- the number of another object is used again
number_used_again : IsUnlawful Deref.plan Deref.made_a (Did (WeakRef w a, Object 1 ∷ [], Gives (Object 1)))
number_used_again l = cc

-- a number is left out
number_left_out : IsUnlawful Deref.plan Deref.made_a (Did (WeakRef w a, Object 1 ∷ [], Gives (Object 3)))
number_left_out l = cc

-- numbers begin at 0
numbers_from_zero : IsUnlawful Deref.plan Deref.begun (Did (New a, [], Gives (Object 0)))
numbers_from_zero l = cc

-- symbols are numbered apart from objects
symbols_apart : IsUnlawful Refusals.plan_others Refusals.begun_set (Did (Symbol s, [], Gives (SymbolValue 1)))
symbols_apart l = cc

-- a registered symbol takes a number
registered_takes_a_number : made Symbols.found_registered ≡ 1 → ⊥
registered_takes_a_number e = cc

-- what is made is not given
gives_nothing : IsUnlawful Deref.plan Deref.begun (Did (New a, [], Nothing))
gives_nothing l = cc

-- Derefs

-- a deref gives the WeakRef itself
gives_itself : IsUnlawful Deref.plan Deref.made_w (Did (Deref b w, Object 2 ∷ [], Gives (Object 2)))
gives_itself l = cc

-- it gives undefined, though its target is not emptied
gives_undefined : IsUnlawful Deref.plan Deref.begun_again (Did (Deref c w, Object 2 ∷ [], Gives Undefined))
gives_undefined l = cc

-- it gives another object
gives_another : IsUnlawful Deref.plan Deref.made_w (Did (Deref b w, Object 2 ∷ [], Gives (Object 3)))
gives_another l = cc

-- it gives a target that was emptied
gives_the_emptied : IsUnlawful Reach.plan_weakref Reach.emptied (Did (Reach.deref_b_w, Object 2 ∷ [], Gives (Object 1)))
gives_the_emptied l = cc

-- an object that is no WeakRef is dereferenced
derefs_an_object : IsUnlawful Refusals.plan_others Refusals.made_o (Did (Deref y o, Object 1 ∷ [], Gives Undefined))
derefs_an_object l = cc

-- Refusals

-- a refusal leaves variables, properties, keys, the count of identities and KeptAlive as they were
refusal_assigns_nothing : (into : Receivers) (h : History) (code : Refusal) (x : List ℕ) → var into (Refused code ∷ h) x ≡ var into h x
refusal_assigns_nothing into h code x = refl

refusal_sets_nothing : (h : History) (code : Refusal) (o : ℕ) (k : List ℕ) → prop (Refused code ∷ h) o k ≡ prop h o k
refusal_sets_nothing h code o k = refl

refusal_adds_no_key : (h : History) (code : Refusal) (o : ℕ) → keys (Refused code ∷ h) o ≡ keys h o
refusal_adds_no_key h code o = refl

refusal_makes_nothing : (h : History) (code : Refusal) → made (Refused code ∷ h) ≡ made h
refusal_makes_nothing h code = omega arith

refusal_keeps_nothing : (h : History) (code : Refusal) → kept (Refused code ∷ h) ≡ kept h
refusal_keeps_nothing h code = refl

-- a refused command assigns its variable all the same
refused_assigns : var (receivers Refusals.plan.jobs) Refusals.not_held_weakly w ≡ Object 1 → ⊥
refused_assigns e = cc

-- a refused set is done
refused_set_done : IsUnlawful Properties.plan Properties.let_x (Did (Set x p x, Number (pos 1) ∷ Number (pos 1) ∷ [], Nothing))
refused_set_done l = cc

-- a refused WeakRef is made
refused_weakref_made : IsUnlawful Refusals.plan Refusals.let_x (Did (WeakRef w x, Number (pos 1) ∷ [], Gives (Object 1)))
refused_weakref_made l = cc

-- a refused deref gives undefined
refused_deref_done : IsUnlawful Refusals.plan Refusals.begun_again (Did (Deref y x, Number (pos 1) ∷ [], Gives Undefined))
refused_deref_done l = cc

-- the code of a later test, where an earlier one fails
later_code : IsOutOfPlace Refusals.plan Refusals.let_x (Refused TooManyValues)
later_code p = cc

-- the code of another command's test
other_code : IsOutOfPlace Refusals.plan Refusals.begun_again (Refused NotAnObject)
other_code p = cc

-- a WeakRef to an object is refused
refused_for_nothing : IsOutOfPlace Deref.plan Deref.made_a (Refused NotHeldWeakly)
refused_for_nothing p = cc

-- a new object is refused, though there is room
refused_with_room : IsOutOfPlace Deref.plan Deref.begun (Refused TooManyValues)
refused_with_room p = cc

-- a command that no test refuses is refused
refused_say : IsOutOfPlace Deref.plan Deref.derefed (Refused NotAnObject)
refused_say p = cc

-- a second refusal in one job
refused_twice : IsOutOfPlace Properties.plan Properties.refused (Refused NotAnObject)
refused_twice p = p

-- Values read and assigned

-- a command reads a value that its variable does not hold
wrong_operand : IsUnlawful Deref.plan Deref.derefed (Did (Say b, Object 2 ∷ [], Nothing))
wrong_operand l = cc

-- it reads one value too many
operand_too_many : IsUnlawful Deref.plan Deref.derefed (Did (Say b, Object 1 ∷ Object 1 ∷ [], Nothing))
operand_too_many l = cc

-- it reads none
operand_missing : IsUnlawful Deref.plan Deref.derefed (Did (Say b, [], Nothing))
operand_missing l = cc

-- a variable that was never assigned is read as something
never_assigned : IsUnlawful Deref.plan Deref.said_c (Did (Say d, Object 1 ∷ [], Nothing))
never_assigned l = cc

-- its operands are swapped
operands_swapped : IsUnlawful Properties.plan Properties.made_o (Did (Set o p x, Number (pos 1) ∷ Object 1 ∷ [], Nothing))
operands_swapped l = cc

-- a command reads its operand after it assigns
read_after_assigning : IsUnlawful Properties.plan_overwriting Properties.owner_has_p (Did (Get o o p, Number (pos 1) ∷ [], Gives (Number (pos 1))))
read_after_assigning l = cc

-- a literal gives another value than is written
other_literal : IsUnlawful Properties.plan Properties.begun (Did (Let x (NumberLiteral (pos 1)), [], Gives (Number (pos 2))))
other_literal l = cc

-- a command that assigns nothing gives a value
set_gives : IsUnlawful Properties.plan Properties.made_o (Did (Set o p x, Object 1 ∷ Number (pos 1) ∷ [], Gives (Number (pos 1))))
set_gives l = cc

-- Properties and keys

-- a present property is read as undefined
property_lost : IsUnlawful Properties.plan Properties.has_p (Did (Get y o p, Object 1 ∷ [], Gives Undefined))
property_lost l = cc

-- an absent property has the value of another one
property_of_another_name : IsUnlawful Properties.plan Properties.said_y (Did (Get z o q, Object 1 ∷ [], Gives (Number (pos 1))))
property_of_another_name l = cc

-- an object has the property that another object has
property_of_another_object : IsUnlawful Properties.plan_apart Properties.b_has_p (Did (Get z a p, Object 1 ∷ [], Gives (Number (pos 2))))
property_of_another_object l = cc

-- a set does not replace what was there
not_replaced : IsUnlawful Properties.plan_replacing Properties.has_itself (Did (Get y o p, Object 1 ∷ [], Gives (Number (pos 1))))
not_replaced l = cc

-- a deleted property is still read
deleted_is_read : IsUnlawful Properties.plan_replacing Properties.deleted (Did (Get y o p, Object 1 ∷ [], Gives (Object 1)))
deleted_is_read l = cc

-- whether a command lists this key first
abbrev lists_first : List ℕ → Result Answer Refusal → Bool
lists_first k (Ok (Listed (l ∷ ls))) = bytes_eq l k
lists_first k _ = false

-- keys are listed in the order of their names
keys_by_name : IsUnlawful Keys.plan Keys.has_b_a (Did (Keys o, Object 1 ∷ [], Listed (codes "a" ∷ codes "b" ∷ [])))
keys_by_name l = false≢true (ap (lists_first a) l.1)

-- a present key that is set again is moved last
moved_last : IsUnlawful Keys.plan Keys.still_b_a (Did (Keys o, Object 1 ∷ [], Listed (codes "a" ∷ codes "b" ∷ [])))
moved_last l = false≢true (ap (lists_first a) l.1)

-- or is listed twice
listed_twice : IsUnlawful Keys.plan Keys.still_b_a (Did (Keys o, Object 1 ∷ [], Listed (codes "b" ∷ codes "a" ∷ codes "b" ∷ [])))
listed_twice l = cc

-- a deleted key is listed
deleted_is_listed : IsUnlawful Keys.plan Keys.has_a (Did (Keys o, Object 1 ∷ [], Listed (codes "b" ∷ codes "a" ∷ [])))
deleted_is_listed l = cc

-- a deleted key that is set again has its old place
old_place : IsUnlawful Keys.plan Keys.has_a_b (Did (Keys o, Object 1 ∷ [], Listed (codes "b" ∷ codes "a" ∷ [])))
old_place l = false≢true (ap (lists_first b) l.1)

-- a delete of an absent key gives false
deletes_nothing : IsUnlawful Keys.plan_empty Keys.listed_none (Did (Delete d o b, Object 1 ∷ [], Gives (Boolean false)))
deletes_nothing l = cc

-- the property of a WeakRef is its target's
property_of_the_target : IsUnlawful Keys.plan_weakref Keys.listed_p (Did (Keys o, Object 1 ∷ [], Listed (codes "p" ∷ [])))
property_of_the_target l = cc

-- Sameness

-- a text is the registered symbol of that text
text_is_symbol : IsUnlawful Symbols.plan_sameness Symbols.let_text (Did (Same b f t, Registered k ∷ Text k ∷ [], Gives (Boolean true)))
text_is_symbol l = cc

-- two lookups of one text give two symbols
registered_twice : IsUnlawful Symbols.plan_sameness Symbols.found_g (Did (Same b f g, Registered k ∷ Registered k ∷ [], Gives (Boolean false)))
registered_twice l = cc

-- two symbols outside the registry are the same
symbols_alike : IsUnlawful Symbols.plan_sameness Symbols.made_r (Did (Same b s r, SymbolValue 1 ∷ SymbolValue 2 ∷ [], Gives (Boolean true)))
symbols_alike l = cc

-- values of two kinds with one content are the same
kinds_alike : is_same (Object 1) (SymbolValue 1) ≡ true → ⊥
kinds_alike e = cc

-- The order of events

-- a command is skipped
skipped : IsOutOfPlace Deref.plan Deref.made_a (Did (Deref b w, Undefined ∷ [], Gives Undefined))
skipped p = cc

-- a command is done twice
done_twice : IsOutOfPlace Deref.plan Deref.made_a (Did (New a, [], Gives (Object 2)))
done_twice p = cc

-- a command after the last one of its job
one_too_many : IsOutOfPlace Deref.plan Deref.said_b (Did (Say b, Object 1 ∷ [], Nothing))
one_too_many p = p

-- a command after a refusal
after_a_refusal : IsOutOfPlace Properties.plan Properties.refused (Did (Say x, Number (pos 1) ∷ [], Nothing))
after_a_refusal p = p

-- a job that a refusal stopped goes on
goes_on : phase Properties.refused ≡ inside → ⊥
goes_on e = cc

-- a command between two jobs
between_jobs : IsOutOfPlace Deref.plan Deref.ended (Did (Deref c w, Object 2 ∷ [], Gives (Object 1)))
between_jobs p = p

-- a job is begun inside itself
begun_inside : IsOutOfPlace Deref.plan Deref.begun (JobBegun 1)
begun_inside p = p

-- a job is begun again after its end
begun_twice : IsOutOfPlace Deref.plan Deref.ended (JobBegun 1)
begun_twice p = cc

-- the first job is passed over
wrong_job : IsOutOfPlace Deref.plan [] (JobBegun 2)
wrong_job p = cc

-- a job is begun that the plan does not have
no_such_job : IsOutOfPlace Deref.plan Deref.ended_again (JobBegun 3)
no_such_job p = p

-- a job that waits for a message
abbrev pub waiting : AgentPlan
waiting = record { name = codes "a"; callbacks = []; jobs = record { on = Some (0, codes "m"); catches = []; run = [] } ∷ [] }

-- is begun without it
begun_without_message : IsOutOfPlace waiting [] (JobBegun 1)
begun_without_message p = p

-- or is passed over
message_passed_over : IsOutOfPlace waiting [] Closed
message_passed_over p = p

-- a job is ended before its commands are done
ended_early : IsOutOfPlace Deref.plan Deref.made_w JobEnded
ended_early p = p

-- a job is ended twice
ended_twice : IsOutOfPlace Deref.plan Deref.ended JobEnded
ended_twice p = p

-- an agent is closed before its last job
closed_early : IsOutOfPlace Deref.plan Deref.ended Closed
closed_early p = p

-- inside a job
closed_inside : IsOutOfPlace Deref.plan Deref.said_d Closed
closed_inside p = p

-- or without its jobs
closed_at_once : IsOutOfPlace Deref.plan [] Closed
closed_at_once p = p

-- an agent is closed twice
closed_twice : IsOutOfPlace Deref.plan Deref.closed Closed
closed_twice p = p

-- any event comes after the last
after_the_end : (e : Event) → IsOutOfPlace Deref.plan Deref.closed e
after_the_end e p = p

-- The past

-- an event further back reads a wrong value
unlawful_past : LegalBy [] (receivers Deref.plan.jobs) (JobEnded ∷ Did (Say b, Object 2 ∷ [], Nothing) ∷ Deref.derefed) → ⊥
unlawful_past l = cc

-- a job further back was begun twice
past_out_of_place : Follows [] Deref.plan (Did (New a, [], Gives (Object 1)) ∷ JobBegun 1 ∷ Deref.begun) → ⊥
past_out_of_place f = f.1.0

-- a history that is not closed is whole
not_closed : IsWholeRun Deref.plan Deref.ended_again → ⊥
not_closed w = let e = w.2.1 in cc

-- Emptying

-- an identity stands twice in one set
emptied_with_itself : IsUnlawful Reach.plan_weakref Reach.ended (Emptied (1 ∷ 1 ∷ []))
emptied_with_itself l = cc

-- the identities fall
emptied_falling : IsUnlawful Reach.plan_weakref Reach.ended (Emptied (2 ∷ 1 ∷ []))
emptied_falling l = cc

-- the last ones do not rise
emptied_twice_last : IsUnlawful Reach.plan_weakref Reach.ended (Emptied (1 ∷ 2 ∷ 2 ∷ []))
emptied_twice_last l = cc

-- one was never made
emptied_unmade : IsUnlawful Reach.plan_weakref Reach.ended (Emptied (3 ∷ []))
emptied_unmade l = cc

-- no value has the number 0
emptied_zero : IsUnlawful Reach.plan_weakref Reach.ended (Emptied (0 ∷ []))
emptied_zero l = cc

-- one was emptied before
emptied_again : IsUnlawful Reach.plan_weakref Reach.emptied (Emptied (1 ∷ []))
emptied_again l = cc

-- an agent empties what is dead where its plan collects, and nowhere else
emptied_between_jobs : IsOutOfPlace Reach.plan_weakref Reach.ended (Emptied (1 ∷ []))
emptied_between_jobs p = p

emptied_inside : IsOutOfPlace Reach.plan_weakref Reach.begun_again (Emptied (1 ∷ []))
emptied_inside p = false≢true p.0

-- Reports

-- an empty list of keys ends in a space
space_after_keys : line (Did (Keys o, Object 1 ∷ [], Listed [])) ≡ codes "keys \n" → ⊥
space_after_keys e = cc

-- the empty text is printed as nothing
empty_text_unquoted : line (Did (Say t, Text [] ∷ [], Nothing)) ≡ codes "say \n" → ⊥
empty_text_unquoted e = cc

-- a job's end has a line
line_of_an_end : line JobEnded ≡ codes "\n" → ⊥
line_of_an_end e = cc
