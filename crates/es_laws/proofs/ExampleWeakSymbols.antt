-- Symbols outside the registry are held weakly: as the target of a WeakRef, as a WeakMap's key, as a WeakSet's member, and as
-- the target and the token of a registration. Registered symbols are not.
use Rattle.std.proofs.Common.{◌≡◌, ℕ, true, false, refl, List, [], ◌∷◌, Some, None, codes, rules}
use Rattle.std.specs.Prelude.{pos}
use Rattle.std.specs.Fmt.{digits}
use Rattle.es_value.specs.declared.value.Value.TheVariants.{Undefined, Boolean, Number, Registered, Object, Symbol as SymbolValue}
use Rattle.es_event.specs.declared.literal.Literal.TheVariants.{Undefined as NoLiteral, Number as NumberLiteral}
use Rattle.es_event.specs.declared.command.Command.TheVariants.{Let, New, Symbol, SymbolFor, Say, Set, WeakRef, Deref, WeakMap, WeakMapSet, WeakMapGet, WeakMapHas, WeakSet, WeakSetAdd, WeakSetHas, FinalizationRegistry, Register, Unregister, Collect}
use Rattle.es_event.specs.declared.event.Answer.TheVariants.{Nothing, Gives}
use Rattle.es_event.specs.declared.event.Event.{Event}
use Rattle.es_event.specs.declared.event.Event.TheVariants.{JobBegun, CleanupBegun, Did, Refused, Emptied, Taken, JobEnded, Closed}
use Rattle.es_event.specs.declared.event.Refusal.TheVariants.{NotHeldWeakly, SameTargetAndHeld}
use Rattle.es_event.specs.declared.plan.AgentPlan.{AgentPlan}
use Rattle.es_event.specs.History.{History}
use Rattle.es_event.specs.Jobs.{receivers}
use Rattle.es_event.specs.Ephemerons.{entry, is_member}
use Rattle.es_event.specs.Reach.{AreDead}
use Rattle.es_event.specs.Runs.{IsWholeRun}
use Rattle.es_event.proofs.Examples.{plan_of, plan_with, IsUnlawful}
use Rattle.es_event.proofs.Deciding.{dead_by, other_set, by_variable, by_keeping, by_entry}
use Rattle.es_laws.proofs.Letters.{f, h, k, m, p, r, s, t, u, v, w, x, y}
use Rattle.es_laws.proofs.Worked.{IsWorked, dead_but, dead_beside}

-- Variables, and a property's key

-- Events

abbrev pub made_symbol : List ℕ → ℕ → Event
made_symbol to n = Did (Symbol to, [], Gives (SymbolValue n))

abbrev pub forgot : List ℕ → Event
forgot to = Did (Let to NoLiteral, [], Gives Undefined)

abbrev pub said_symbol : List ℕ → ℕ → Event
said_symbol from n = Did (Say from, SymbolValue n ∷ [], Nothing)

abbrev pub said_true : List ℕ → Event
said_true from = Did (Say from, Boolean true ∷ [], Nothing)

-- A WeakRef to a symbol: KeptAlive keeps it to the end of the job that makes the WeakRef, and to the end of one that asks for it;
-- a deref gives the symbol itself

abbrev pub plan_target : AgentPlan
plan_target = plan_of (
    (Symbol s ∷ WeakRef w s ∷ Let s NoLiteral ∷ Collect ∷ [])
    ∷ (Deref x w ∷ Say x ∷ Let x NoLiteral ∷ Collect ∷ [])
    ∷ (Collect ∷ Deref x w ∷ Say x ∷ [])
    ∷ []
    )

abbrev pub forgot_target : History
forgot_target = forgot s ∷ Did (WeakRef w s, SymbolValue 1 ∷ [], Gives (Object 2)) ∷ made_symbol s 1 ∷ JobBegun 1 ∷ []

abbrev pub begun_second : History
begun_second = JobBegun 2 ∷ JobEnded ∷ Emptied [] ∷ forgot_target

abbrev pub forgot_again : History
forgot_again = forgot x ∷ said_symbol x 1 ∷ Did (Deref x w, Object 2 ∷ [], Gives (SymbolValue 1)) ∷ begun_second

abbrev pub begun_third : History
begun_third = JobBegun 3 ∷ JobEnded ∷ Emptied [] ∷ forgot_again

abbrev pub closed_target : History
closed_target =
    Closed ∷ JobEnded ∷ Did (Say x, Undefined ∷ [], Nothing) ∷ Did (Deref x w, Object 2 ∷ [], Gives Undefined)
    ∷ Emptied (1 ∷ []) ∷ begun_third

pub kept_target : AreDead (receivers plan_target.jobs) forgot_target []
kept_target = dead_by (receivers plan_target.jobs) forgot_target (1 ∷ 2 ∷ []) [] refl (by_keeping (receivers plan_target.jobs) forgot_target 1 refl, (by_variable (receivers plan_target.jobs) forgot_target w 2 refl, tt))

pub kept_again : AreDead (receivers plan_target.jobs) forgot_again []
kept_again = dead_by (receivers plan_target.jobs) forgot_again (1 ∷ 2 ∷ []) [] refl (by_keeping (receivers plan_target.jobs) forgot_again 1 refl, (by_variable (receivers plan_target.jobs) forgot_again w 2 refl, tt))

pub dead_target : AreDead (receivers plan_target.jobs) begun_third (1 ∷ [])
dead_target = dead_but plan_target begun_third (w ∷ []) (1 ∷ []) refl

pub worked_target : IsWorked [] plan_target closed_target (codes "agent a\nemptied 0\nsay symbol 1\nemptied 0\nemptied 1\nsay undefined\nend live 0 awaiting 0 unregistered 0 taken 0\n")
unfolding digits
worked_target = record { whole = (search rules, search (rules, dead_target, kept_again, kept_target)); report = refl }

-- A WeakMap with a symbol as key: the entry's value is reached where both are, and leads to the key without keeping it

abbrev pub plan_key : AgentPlan
plan_key = plan_of (
    (Symbol k ∷ New v ∷ WeakMap m ∷ WeakMapSet m k v ∷ Set v p k ∷ Let v NoLiteral ∷ Collect ∷ WeakMapGet x m k ∷ WeakMapHas y m k ∷ Say y
    ∷ Let x NoLiteral ∷ Let k NoLiteral ∷ Collect ∷ [])
    ∷ []
    )

abbrev pub forgot_value : History
forgot_value =
    forgot v
    ∷ Did (Set v p k, Object 2 ∷ SymbolValue 1 ∷ [], Nothing)
    ∷ Did (WeakMapSet m k v, Object 3 ∷ SymbolValue 1 ∷ Object 2 ∷ [], Nothing)
    ∷ Did (WeakMap m, [], Gives (Object 3))
    ∷ Did (New v, [], Gives (Object 2))
    ∷ made_symbol k 1
    ∷ JobBegun 1
    ∷ []

abbrev pub forgot_key : History
forgot_key =
    forgot k ∷ forgot x ∷ said_true y ∷ Did (WeakMapHas y m k, Object 3 ∷ SymbolValue 1 ∷ [], Gives (Boolean true))
    ∷ Did (WeakMapGet x m k, Object 3 ∷ SymbolValue 1 ∷ [], Gives (Object 2)) ∷ Emptied [] ∷ forgot_value

abbrev pub emptied_key : History
emptied_key = Emptied (1 ∷ 2 ∷ []) ∷ forgot_key

abbrev pub closed_key : History
closed_key = Closed ∷ JobEnded ∷ emptied_key

pub reached_by_key : AreDead (receivers plan_key.jobs) forgot_value []
reached_by_key = dead_beside plan_key forgot_value (k ∷ m ∷ []) (2 ∷ []) [] refl
    (by_entry (receivers plan_key.jobs) forgot_value 3 1 (Object 2) 2 (by_variable (receivers plan_key.jobs) forgot_value m 3 refl) (by_variable (receivers plan_key.jobs) forgot_value k 1 refl) refl refl, tt)

pub dead_key : AreDead (receivers plan_key.jobs) forgot_key (1 ∷ 2 ∷ [])
dead_key = dead_but plan_key forgot_key (m ∷ []) (1 ∷ 2 ∷ []) refl

pub worked_key : IsWorked [] plan_key closed_key (codes "agent a\nemptied 0\nsay true\nemptied 2\nend live 0 awaiting 0 unregistered 0 taken 0\n")
unfolding digits
worked_key = record { whole = (search rules, search (rules, dead_key, reached_by_key)); report = refl }

pub entry_of_the_symbol : entry forgot_value 3 1 ≡ Some (Object 2)
entry_of_the_symbol = refl

pub no_entry_afterwards : entry emptied_key 3 1 ≡ None
no_entry_afterwards = refl

-- A WeakSet with a symbol as member

abbrev pub plan_member : AgentPlan
plan_member = plan_of (
    (Symbol s ∷ WeakSet w ∷ WeakSetAdd w s ∷ WeakSetHas x w s ∷ Say x ∷ WeakRef u s ∷ Deref y u ∷ Say y ∷ [])
    ∷ (Let s NoLiteral ∷ Let y NoLiteral ∷ Collect ∷ [])
    ∷ []
    )

abbrev pub joined : History
joined = Did (WeakSetAdd w s, Object 2 ∷ SymbolValue 1 ∷ [], Nothing) ∷ Did (WeakSet w, [], Gives (Object 2)) ∷ made_symbol s 1 ∷ JobBegun 1 ∷ []

abbrev pub forgot_member : History
forgot_member =
    forgot y ∷ forgot s ∷ JobBegun 2 ∷ JobEnded
    ∷ said_symbol y 1
    ∷ Did (Deref y u, Object 3 ∷ [], Gives (SymbolValue 1))
    ∷ Did (WeakRef u s, SymbolValue 1 ∷ [], Gives (Object 3))
    ∷ said_true x
    ∷ Did (WeakSetHas x w s, Object 2 ∷ SymbolValue 1 ∷ [], Gives (Boolean true))
    ∷ joined

abbrev pub emptied_member : History
emptied_member = Emptied (1 ∷ []) ∷ forgot_member

abbrev pub closed_member : History
closed_member = Closed ∷ JobEnded ∷ emptied_member

pub dead_member : AreDead (receivers plan_member.jobs) forgot_member (1 ∷ [])
dead_member = dead_but plan_member forgot_member (w ∷ u ∷ []) (1 ∷ []) refl

pub worked_member : IsWorked [] plan_member closed_member (codes "agent a\nsay true\nsay symbol 1\nemptied 1\nend live 0 awaiting 0 unregistered 0 taken 0\n")
unfolding digits
worked_member = record { whole = (search rules, search (rules, dead_member)); report = refl }

pub member_before : is_member forgot_member 2 1 ≡ true
member_before = refl

pub no_member_afterwards : is_member emptied_member 2 1 ≡ false
no_member_afterwards = refl

-- A symbol is the target and the token of a registration

abbrev pub plan_token : AgentPlan
plan_token = plan_with [] (
    (FinalizationRegistry r 1 ∷ Symbol s ∷ Let h (NumberLiteral (pos 5)) ∷ Register r s h (Some s) ∷ Symbol t ∷ Register r s h (Some t)
    ∷ Unregister x r t ∷ Say x ∷ Let s NoLiteral ∷ Collect ∷ [])
    ∷ []
    )

abbrev pub forgot_token : History
forgot_token =
    forgot s
    ∷ said_true x
    ∷ Did (Unregister x r t, Object 1 ∷ SymbolValue 3 ∷ [], Gives (Boolean true))
    ∷ Did (Register r s h (Some t), Object 1 ∷ SymbolValue 2 ∷ Number (pos 5) ∷ SymbolValue 3 ∷ [], Nothing)
    ∷ made_symbol t 3
    ∷ Did (Register r s h (Some s), Object 1 ∷ SymbolValue 2 ∷ Number (pos 5) ∷ SymbolValue 2 ∷ [], Nothing)
    ∷ Did (Let h (NumberLiteral (pos 5)), [], Gives (Number (pos 5)))
    ∷ made_symbol s 2
    ∷ Did (FinalizationRegistry r 1, [], Gives (Object 1))
    ∷ JobBegun 1
    ∷ []

abbrev pub closed_token : History
closed_token = Closed ∷ JobEnded ∷ Taken 1 (Number (pos 5)) ∷ CleanupBegun 1 ∷ JobEnded ∷ Emptied (2 ∷ []) ∷ forgot_token

pub dead_token : AreDead (receivers plan_token.jobs) forgot_token (2 ∷ [])
dead_token = dead_but plan_token forgot_token (r ∷ t ∷ []) (2 ∷ []) refl

pub worked_token : IsWorked [] plan_token closed_token (codes "agent a\nsay true\nemptied 1\ncleanup 1 held 5\nend live 0 awaiting 0 unregistered 1 taken 1\n")
unfolding digits
worked_token = record { whole = (search rules, search (rules, dead_token)); report = refl }

-- A symbol is not its own held value; a registered one is no target and no token

abbrev pub plan_refused : AgentPlan
plan_refused = plan_with [] (
    (FinalizationRegistry r 1 ∷ Symbol s ∷ SymbolFor f k ∷ Register r s s None ∷ [])
    ∷ (Register r f h None ∷ [])
    ∷ (Register r s h (Some f) ∷ [])
    ∷ (Unregister x r f ∷ [])
    ∷ (WeakRef w f ∷ [])
    ∷ []
    )

abbrev pub found_registered : History
found_registered = Did (SymbolFor f k, [], Gives (Registered k)) ∷ made_symbol s 2 ∷ Did (FinalizationRegistry r 1, [], Gives (Object 1)) ∷ JobBegun 1 ∷ []

abbrev pub closed_refused : History
closed_refused =
    Closed
    ∷ JobEnded
    ∷ Refused NotHeldWeakly
    ∷ JobBegun 5
    ∷ JobEnded
    ∷ Refused NotHeldWeakly
    ∷ JobBegun 4
    ∷ JobEnded
    ∷ Refused NotHeldWeakly
    ∷ JobBegun 3
    ∷ JobEnded
    ∷ Refused NotHeldWeakly
    ∷ JobBegun 2
    ∷ JobEnded
    ∷ Refused SameTargetAndHeld
    ∷ found_registered

pub whole_refused : IsWholeRun plan_refused closed_refused
whole_refused = ([], search rules, search rules)

-- Wrong neighbours

-- a deref gives an object for the symbol
object_for_a_symbol : IsUnlawful plan_target begun_second (Did (Deref x w, Object 2 ∷ [], Gives (Object 1)))
object_for_a_symbol l = cc

-- or undefined, where nothing was emptied
undefined_for_a_symbol : IsUnlawful plan_target begun_second (Did (Deref x w, Object 2 ∷ [], Gives Undefined))
undefined_for_a_symbol l = cc

-- the symbol goes while KeptAlive has it
empties_the_kept : AreDead (receivers plan_target.jobs) forgot_target (1 ∷ []) → ⊥
empties_the_kept d = other_set (receivers plan_target.jobs) forgot_target (1 ∷ []) [] 1 d kept_target refl refl

-- or while it leads to what is under it
empties_the_value : AreDead (receivers plan_key.jobs) forgot_value (2 ∷ []) → ⊥
empties_the_value d = other_set (receivers plan_key.jobs) forgot_value (2 ∷ []) [] 2 d reached_by_key refl refl

-- a symbol that is a member is asked in vain
denies_the_member : IsUnlawful plan_member joined (Did (WeakSetHas x w s, Object 2 ∷ SymbolValue 1 ∷ [], Gives (Boolean false)))
denies_the_member l = cc

-- and a symbol that is a key
denies_the_key : IsUnlawful plan_key (Emptied [] ∷ forgot_value) (Did (WeakMapGet x m k, Object 3 ∷ SymbolValue 1 ∷ [], Gives Undefined))
denies_the_key l = cc

-- a registered symbol is a target
registered_target : IsUnlawful plan_refused found_registered (Did (WeakRef w f, Registered k ∷ [], Gives (Object 3)))
registered_target l = cc
