-- Entries of WeakMaps and members of WeakSets: what they hold, what they keep, and what goes with their keys.
use Rattle.std.proofs.Common.{◌≡◌, ℕ, true, false, refl, List, [], ◌∷◌, Some, None, inr, Ok, codes, rules}
use Rattle.std.specs.Prelude.{pos}
use Rattle.std.specs.Fmt.{digits}
use Rattle.es_value.specs.declared.value.Value.TheVariants.{Undefined, Boolean, Number, Registered, Object, Symbol as SymbolValue}
use Rattle.es_event.specs.Heard.{silence}
use Rattle.es_event.specs.declared.literal.Literal.TheVariants.{Undefined as NoLiteral, Number as NumberLiteral}
use Rattle.es_event.specs.declared.command.Command.{Command}
use Rattle.es_event.specs.declared.command.Command.TheVariants.{Let, New, Symbol, SymbolFor, Say, Set, WeakMap, WeakMapSet, WeakMapGet, WeakMapHas, WeakMapDelete, WeakSet, WeakSetAdd, WeakSetHas, WeakSetDelete, Collect}
use Rattle.es_event.specs.declared.event.Answer.TheVariants.{Nothing, Gives}
use Rattle.es_event.specs.declared.event.Event.TheVariants.{JobBegun, Did, Refused, Emptied, JobEnded, Closed}
use Rattle.es_event.specs.declared.event.Refusal.TheVariants.{NotAWeakMap, NotAWeakSet, NotHeldWeakly}
use Rattle.es_event.specs.declared.plan.AgentPlan.{AgentPlan}
use Rattle.es_event.specs.History.{History}
use Rattle.es_event.specs.Ephemerons.{entry, is_member}
use Rattle.es_event.specs.Jobs.{receivers}
use Rattle.es_event.specs.Rules.{completion}
use Rattle.es_event.specs.Reach.{AreDead, IsHeld, in_variable, in_entry}
use Rattle.es_event.specs.Live.{Live}
use Rattle.es_event.specs.Runs.{IsWholeRun}
use Rattle.es_event.proofs.Examples.{plan_of, IsUnlawful, IsOutOfPlace}
use Rattle.es_event.proofs.Deciding.{dead_by, other_set, by_variable, by_entry}
use Rattle.es_event.proofs.Dead.{not_live}
use Rattle.es_laws.proofs.Letters.{a, b, f, k, l, m, n, p, s, t, u, v, x, y}
use Rattle.es_laws.proofs.Worked.{IsWorked, dead_but}

abbrev pub forget : List ℕ → Command
forget x = Let x NoLiteral

-- A key leads to the next key, and that to a value: all go with the first key, and the WeakMap stays

abbrev pub plan_chain : AgentPlan
plan_chain = plan_of (
    (New (codes "k1") ∷ New (codes "k2") ∷ New v ∷ WeakMap m ∷ WeakMapSet m (codes "k1") (codes "k2") ∷ WeakMapSet m (codes "k2") v
    ∷ forget (codes "k2") ∷ forget v ∷ Collect ∷ forget (codes "k1") ∷ Collect ∷ [])
    ∷ []
    )

abbrev pub first_key_held : History
first_key_held =
    Did (forget v, [], Gives Undefined) ∷ Did (forget (codes "k2"), [], Gives Undefined)
    ∷ Did (WeakMapSet m (codes "k2") v, Object 4 ∷ Object 2 ∷ Object 3 ∷ [], Nothing)
    ∷ Did (WeakMapSet m (codes "k1") (codes "k2"), Object 4 ∷ Object 1 ∷ Object 2 ∷ [], Nothing)
    ∷ Did (WeakMap m, [], Gives (Object 4))
    ∷ Did (New v, [], Gives (Object 3))
    ∷ Did (New (codes "k2"), [], Gives (Object 2))
    ∷ Did (New (codes "k1"), [], Gives (Object 1))
    ∷ JobBegun 1
    ∷ []

abbrev pub no_key_held : History
no_key_held = Did (forget (codes "k1"), [], Gives Undefined) ∷ Emptied [] ∷ first_key_held

abbrev pub closed_chain : History
closed_chain = Closed ∷ JobEnded ∷ Emptied (1 ∷ 2 ∷ 3 ∷ []) ∷ no_key_held

pub reached_along_the_chain : AreDead (receivers plan_chain.jobs) first_key_held []
reached_along_the_chain =
    let map = by_variable (receivers plan_chain.jobs) first_key_held m 4 refl in
    let first = by_variable (receivers plan_chain.jobs) first_key_held (codes "k1") 1 refl in
    let second = by_entry (receivers plan_chain.jobs) first_key_held 4 1 (Object 2) 2 map first refl refl in
    let third = by_entry (receivers plan_chain.jobs) first_key_held 4 2 (Object 3) 3 map second refl refl in
    dead_by (receivers plan_chain.jobs) first_key_held (1 ∷ 2 ∷ 3 ∷ 4 ∷ []) [] refl (first, (second, (third, (map, tt))))

pub dead_chain : AreDead (receivers plan_chain.jobs) no_key_held (1 ∷ 2 ∷ 3 ∷ [])
dead_chain = dead_but plan_chain no_key_held (m ∷ []) (1 ∷ 2 ∷ 3 ∷ []) refl

pub worked_chain : IsWorked [] plan_chain closed_chain (codes "agent a\nemptied 0\nemptied 3\nend live 0 awaiting 0 unregistered 0 taken 0\n")
unfolding digits
worked_chain = record { whole = (search rules, search (rules, dead_chain, reached_along_the_chain)); report = refl }

-- A value that leads to its own key does not keep the key

abbrev pub plan_own_key : AgentPlan
plan_own_key = plan_of (
    (New k ∷ New v ∷ WeakMap m ∷ Set v p k ∷ WeakMapSet m k v ∷ forget k ∷ forget v ∷ Collect ∷ [])
    ∷ []
    )

abbrev pub leads_back : History
leads_back =
    Did (forget v, [], Gives Undefined)
    ∷ Did (forget k, [], Gives Undefined)
    ∷ Did (WeakMapSet m k v, Object 3 ∷ Object 1 ∷ Object 2 ∷ [], Nothing)
    ∷ Did (Set v p k, Object 2 ∷ Object 1 ∷ [], Nothing)
    ∷ Did (WeakMap m, [], Gives (Object 3))
    ∷ Did (New v, [], Gives (Object 2))
    ∷ Did (New k, [], Gives (Object 1))
    ∷ JobBegun 1
    ∷ []

abbrev pub closed_own_key : History
closed_own_key = Closed ∷ JobEnded ∷ Emptied (1 ∷ 2 ∷ []) ∷ leads_back

pub dead_with_its_key : AreDead (receivers plan_own_key.jobs) leads_back (1 ∷ 2 ∷ [])
dead_with_its_key = dead_but plan_own_key leads_back (m ∷ []) (1 ∷ 2 ∷ []) refl

pub worked_own_key : IsWorked [] plan_own_key closed_own_key (codes "agent a\nemptied 2\nend live 0 awaiting 0 unregistered 0 taken 0\n")
unfolding digits
worked_own_key = record { whole = (search rules, search (rules, dead_with_its_key)); report = refl }

-- An entry's value where both its WeakMap and its key are held, where only the key is, and where only the WeakMap is

abbrev pub plan_key : AgentPlan
plan_key = plan_of ((New k ∷ New v ∷ WeakMap m ∷ WeakMapSet m k v ∷ forget v ∷ Collect ∷ forget m ∷ Collect ∷ []) ∷ [])

abbrev pub plan_map : AgentPlan
plan_map = plan_of ((New k ∷ New v ∷ WeakMap m ∷ WeakMapSet m k v ∷ forget v ∷ WeakMapGet x m k ∷ forget x ∷ forget k ∷ Collect ∷ []) ∷ [])

abbrev pub entered : History
entered =
    Did (WeakMapSet m k v, Object 3 ∷ Object 1 ∷ Object 2 ∷ [], Nothing)
    ∷ Did (WeakMap m, [], Gives (Object 3))
    ∷ Did (New v, [], Gives (Object 2))
    ∷ Did (New k, [], Gives (Object 1))
    ∷ JobBegun 1
    ∷ []

abbrev pub both_held : History
both_held = Did (forget v, [], Gives Undefined) ∷ entered

abbrev pub key_held : History
key_held = Did (forget m, [], Gives Undefined) ∷ Emptied [] ∷ both_held

abbrev pub map_held : History
map_held =
    Did (forget k, [], Gives Undefined)
    ∷ Did (forget x, [], Gives Undefined)
    ∷ Did (WeakMapGet x m k, Object 3 ∷ Object 1 ∷ [], Gives (Object 2))
    ∷ both_held

abbrev pub closed_key : History
closed_key = Closed ∷ JobEnded ∷ Emptied (2 ∷ 3 ∷ []) ∷ key_held

abbrev pub closed_map : History
closed_map = Closed ∷ JobEnded ∷ Emptied (1 ∷ 2 ∷ []) ∷ map_held

-- both: the value is reached
pub reached_by_both : AreDead (receivers plan_key.jobs) both_held []
reached_by_both =
    let map = by_variable (receivers plan_key.jobs) both_held m 3 refl in
    let key = by_variable (receivers plan_key.jobs) both_held k 1 refl in
    dead_by (receivers plan_key.jobs) both_held (1 ∷ 2 ∷ 3 ∷ []) [] refl (key, (by_entry (receivers plan_key.jobs) both_held 3 1 (Object 2) 2 map key refl refl, (map, tt)))

-- the key alone: the value is dead, and the WeakMap
pub dead_without_its_map : AreDead (receivers plan_key.jobs) key_held (2 ∷ 3 ∷ [])
dead_without_its_map = dead_but plan_key key_held (k ∷ []) (2 ∷ 3 ∷ []) refl

-- the WeakMap alone: the value is dead, and the key, also in the job of a get, which keeps nothing
pub dead_without_its_key : AreDead (receivers plan_map.jobs) map_held (1 ∷ 2 ∷ [])
dead_without_its_key = dead_but plan_map map_held (m ∷ []) (1 ∷ 2 ∷ []) refl

pub whole_key : IsWholeRun plan_key closed_key
whole_key = ([], search rules, search (rules, dead_without_its_map, reached_by_both))

pub whole_map : IsWholeRun plan_map closed_map
whole_map = ([], search rules, search (rules, dead_without_its_key))

-- so it is held and live where both are, since a get can give it, and dead where one alone is
pub held_by_both : IsHeld (receivers plan_key.jobs) both_held (Object 2)
held_by_both = in_entry 3 1 (Object 1) (Object 2) (in_variable m (Object 3) refl) (in_variable k (Object 1) refl) refl refl

pub entry_is_live : Live (receivers plan_key.jobs) both_held (2 ∷ [])
entry_is_live = inr (record { over = []; other = receivers plan_key.jobs; agree = search rules; before = []; event = Did (WeakMapGet x m k, Object 3 ∷ Object 1 ∷ [], Gives (Object 2)); oblivious = search rules; observed = refl })

pub not_live_without_its_map : Live (receivers plan_key.jobs) key_held (2 ∷ 3 ∷ []) → ⊥
not_live_without_its_map = not_live (receivers plan_key.jobs) key_held (2 ∷ 3 ∷ []) dead_without_its_map

pub not_live_without_its_key : Live (receivers plan_map.jobs) map_held (1 ∷ 2 ∷ []) → ⊥
not_live_without_its_key = not_live (receivers plan_map.jobs) map_held (1 ∷ 2 ∷ []) dead_without_its_key

-- what is under a key that was emptied is there no more, also where the value is
pub entry_is_there : entry entered 3 1 ≡ Some (Object 2)
entry_is_there = refl

pub entry_goes_with_its_key : entry (Emptied (1 ∷ []) ∷ entered) 3 1 ≡ None
entry_goes_with_its_key = refl

-- A WeakSet reaches no member: what nothing else holds goes, and what is held stays a member

abbrev pub plan_members : AgentPlan
plan_members = plan_of (
    (New a ∷ New b ∷ WeakSet s ∷ WeakSetAdd s a ∷ WeakSetAdd s b ∷ forget a ∷ Collect
    ∷ WeakSetHas x s b ∷ Say x ∷ WeakSetHas x s a ∷ Say x ∷ [])
    ∷ []
    )

abbrev pub joined : History
joined =
    Did (WeakSetAdd s b, Object 3 ∷ Object 2 ∷ [], Nothing)
    ∷ Did (WeakSetAdd s a, Object 3 ∷ Object 1 ∷ [], Nothing)
    ∷ Did (WeakSet s, [], Gives (Object 3))
    ∷ Did (New b, [], Gives (Object 2))
    ∷ Did (New a, [], Gives (Object 1))
    ∷ JobBegun 1
    ∷ []

abbrev pub forgot_member : History
forgot_member = Did (forget a, [], Gives Undefined) ∷ joined

abbrev pub emptied_member : History
emptied_member = Emptied (1 ∷ []) ∷ forgot_member

abbrev pub closed_members : History
closed_members =
    Closed
    ∷ JobEnded
    ∷ Did (Say x, Boolean false ∷ [], Nothing)
    ∷ Did (WeakSetHas x s a, Object 3 ∷ Undefined ∷ [], Gives (Boolean false))
    ∷ Did (Say x, Boolean true ∷ [], Nothing)
    ∷ Did (WeakSetHas x s b, Object 3 ∷ Object 2 ∷ [], Gives (Boolean true))
    ∷ emptied_member

pub dead_member : AreDead (receivers plan_members.jobs) forgot_member (1 ∷ [])
dead_member = dead_but plan_members forgot_member (b ∷ s ∷ []) (1 ∷ []) refl

pub worked_members : IsWorked [] plan_members closed_members (codes "agent a\nemptied 1\nsay true\nsay false\nend live 0 awaiting 0 unregistered 0 taken 0\n")
unfolding digits
worked_members = record { whole = (search rules, search (rules, dead_member)); report = refl }

-- what was emptied was a member before and is none afterwards; the other member is one
pub member_before : is_member forgot_member 3 1 ≡ true
member_before = refl

pub no_member_afterwards : is_member emptied_member 3 1 ≡ false
no_member_afterwards = refl

pub other_member_stays : is_member emptied_member 3 2 ≡ true
other_member_stays = refl

-- so the answer is false even to one who still had the value
emptied_is_no_member : completion [] emptied_member (WeakSetHas x s a) (Object 3 ∷ Object 1 ∷ []) silence ≡ Ok (Gives (Boolean false))
emptied_is_no_member = refl

-- What can't be held weakly is no key and no member; what is no WeakMap or no WeakSet is refused first

abbrev pub plan_refusals : AgentPlan
plan_refusals = plan_of (
    (WeakMap m ∷ WeakSet s ∷ Let n (NumberLiteral (pos 1)) ∷ SymbolFor f t ∷ Symbol y
    ∷ WeakMapGet x m n ∷ Say x ∷ WeakMapHas x m n ∷ Say x ∷ WeakMapDelete x m f ∷ Say x
    ∷ WeakSetHas x s n ∷ Say x ∷ WeakSetDelete x s f ∷ Say x
    ∷ WeakMapHas x m y ∷ WeakSetHas x s y ∷ WeakMapSet m n n ∷ Say x ∷ [])
    ∷ (WeakMapSet m f m ∷ [])
    ∷ (WeakSetAdd s n ∷ [])
    ∷ (WeakSetAdd s f ∷ [])
    ∷ (WeakMapSet s n n ∷ [])
    ∷ (WeakSetAdd m n ∷ [])
    ∷ (WeakMapGet x n m ∷ [])
    ∷ (WeakMapHas x s m ∷ [])
    ∷ (WeakMapDelete x s m ∷ [])
    ∷ (WeakSetHas x m s ∷ [])
    ∷ (WeakSetDelete x n s ∷ [])
    ∷ []
    )

abbrev pub made_kinds : History
made_kinds =
    Did (Symbol y, [], Gives (SymbolValue 3))
    ∷ Did (SymbolFor f t, [], Gives (Registered t))
    ∷ Did (Let n (NumberLiteral (pos 1)), [], Gives (Number (pos 1)))
    ∷ Did (WeakSet s, [], Gives (Object 2))
    ∷ Did (WeakMap m, [], Gives (Object 1))
    ∷ JobBegun 1
    ∷ []

abbrev pub asked_in_vain : History
asked_in_vain =
    Did (WeakSetHas x s y, Object 2 ∷ SymbolValue 3 ∷ [], Gives (Boolean false))
    ∷ Did (WeakMapHas x m y, Object 1 ∷ SymbolValue 3 ∷ [], Gives (Boolean false))
    ∷ Did (Say x, Boolean false ∷ [], Nothing)
    ∷ Did (WeakSetDelete x s f, Object 2 ∷ Registered t ∷ [], Gives (Boolean false))
    ∷ Did (Say x, Boolean false ∷ [], Nothing)
    ∷ Did (WeakSetHas x s n, Object 2 ∷ Number (pos 1) ∷ [], Gives (Boolean false))
    ∷ Did (Say x, Boolean false ∷ [], Nothing)
    ∷ Did (WeakMapDelete x m f, Object 1 ∷ Registered t ∷ [], Gives (Boolean false))
    ∷ Did (Say x, Boolean false ∷ [], Nothing)
    ∷ Did (WeakMapHas x m n, Object 1 ∷ Number (pos 1) ∷ [], Gives (Boolean false))
    ∷ Did (Say x, Undefined ∷ [], Nothing)
    ∷ Did (WeakMapGet x m n, Object 1 ∷ Number (pos 1) ∷ [], Gives Undefined)
    ∷ made_kinds

abbrev pub begun_wrong_map : History
begun_wrong_map =
    JobBegun 5
    ∷ JobEnded
    ∷ Refused NotHeldWeakly
    ∷ JobBegun 4
    ∷ JobEnded
    ∷ Refused NotHeldWeakly
    ∷ JobBegun 3
    ∷ JobEnded
    ∷ Refused NotHeldWeakly
    ∷ JobBegun 2
    ∷ JobEnded
    ∷ Refused NotHeldWeakly
    ∷ asked_in_vain

abbrev pub begun_wrong_set : History
begun_wrong_set = JobBegun 6 ∷ JobEnded ∷ Refused NotAWeakMap ∷ begun_wrong_map

abbrev pub closed_refusals : History
closed_refusals =
    Closed ∷ JobEnded ∷ Refused NotAWeakSet ∷ JobBegun 11 ∷ JobEnded ∷ Refused NotAWeakSet ∷ JobBegun 10
    ∷ JobEnded
    ∷ Refused NotAWeakMap
    ∷ JobBegun 9
    ∷ JobEnded
    ∷ Refused NotAWeakMap
    ∷ JobBegun 8
    ∷ JobEnded
    ∷ Refused NotAWeakMap
    ∷ JobBegun 7
    ∷ JobEnded
    ∷ Refused NotAWeakSet
    ∷ begun_wrong_set

pub worked_refusals : IsWorked [] plan_refusals closed_refusals (codes "agent a\nsay undefined\nsay false\nsay false\nsay false\nsay false\nerror TypeError: cannot be held weakly\nerror TypeError: cannot be held weakly\nerror TypeError: cannot be held weakly\nerror TypeError: cannot be held weakly\nerror TypeError: not a WeakMap\nerror TypeError: not a WeakSet\nerror TypeError: not a WeakMap\nerror TypeError: not a WeakMap\nerror TypeError: not a WeakMap\nerror TypeError: not a WeakSet\nerror TypeError: not a WeakSet\nend live 0 awaiting 0 unregistered 0 taken 0\n")
unfolding digits
worked_refusals = record { whole = (search rules, search rules); report = refl }

-- The newest set or delete of a key says what is under it; an entry of undefined is an entry

abbrev pub plan_entries : AgentPlan
plan_entries = plan_of (
    (New k ∷ New v ∷ WeakMap m ∷ WeakMapSet m k v ∷ WeakMapGet x m k ∷ WeakMapSet m k k ∷ WeakMapGet x m k ∷ WeakMapHas x m k
    ∷ WeakMapDelete x m k ∷ WeakMapDelete x m k ∷ WeakMapHas x m k ∷ WeakMapGet x m k ∷ WeakMapSet m k v ∷ WeakMapGet x m k ∷ WeakMapSet m k u ∷ WeakMapGet x m k ∷ WeakMapHas x m k ∷ WeakMapDelete x m k ∷ [])
    ∷ []
    )

abbrev pub overwritten : History
overwritten =
    Did (WeakMapHas x m k, Object 3 ∷ Object 1 ∷ [], Gives (Boolean true))
    ∷ Did (WeakMapGet x m k, Object 3 ∷ Object 1 ∷ [], Gives (Object 1))
    ∷ Did (WeakMapSet m k k, Object 3 ∷ Object 1 ∷ Object 1 ∷ [], Nothing)
    ∷ Did (WeakMapGet x m k, Object 3 ∷ Object 1 ∷ [], Gives (Object 2))
    ∷ entered

abbrev pub deleted : History
deleted = Did (WeakMapDelete x m k, Object 3 ∷ Object 1 ∷ [], Gives (Boolean true)) ∷ overwritten

abbrev pub undefined_entered : History
undefined_entered =
    Did (WeakMapSet m k u, Object 3 ∷ Object 1 ∷ Undefined ∷ [], Nothing)
    ∷ Did (WeakMapGet x m k, Object 3 ∷ Object 1 ∷ [], Gives (Object 2))
    ∷ Did (WeakMapSet m k v, Object 3 ∷ Object 1 ∷ Object 2 ∷ [], Nothing)
    ∷ Did (WeakMapGet x m k, Object 3 ∷ Object 1 ∷ [], Gives Undefined)
    ∷ Did (WeakMapHas x m k, Object 3 ∷ Object 1 ∷ [], Gives (Boolean false))
    ∷ Did (WeakMapDelete x m k, Object 3 ∷ Object 1 ∷ [], Gives (Boolean false)) ∷ deleted

abbrev pub closed_entries : History
closed_entries =
    Closed
    ∷ JobEnded
    ∷ Did (WeakMapDelete x m k, Object 3 ∷ Object 1 ∷ [], Gives (Boolean true))
    ∷ Did (WeakMapHas x m k, Object 3 ∷ Object 1 ∷ [], Gives (Boolean true))
    ∷ Did (WeakMapGet x m k, Object 3 ∷ Object 1 ∷ [], Gives Undefined)
    ∷ undefined_entered

pub whole_entries : IsWholeRun plan_entries closed_entries
whole_entries = ([], search rules, search rules)

-- The same of members: one that was deleted can be added again, and one that is added twice is deleted once

abbrev pub plan_adding : AgentPlan
plan_adding = plan_of ((New y ∷ WeakSet s ∷ WeakSetHas x s y ∷ WeakSetAdd s y ∷ WeakSetAdd s y ∷ WeakSetHas x s y ∷ WeakSetDelete x s y ∷ WeakSetDelete x s y ∷ WeakSetHas x s y ∷ WeakSetAdd s y ∷ WeakSetHas x s y ∷ []) ∷ [])

abbrev pub deleted_member : History
deleted_member =
    Did (WeakSetDelete x s y, Object 2 ∷ Object 1 ∷ [], Gives (Boolean true))
    ∷ Did (WeakSetHas x s y, Object 2 ∷ Object 1 ∷ [], Gives (Boolean true))
    ∷ Did (WeakSetAdd s y, Object 2 ∷ Object 1 ∷ [], Nothing)
    ∷ Did (WeakSetAdd s y, Object 2 ∷ Object 1 ∷ [], Nothing)
    ∷ Did (WeakSetHas x s y, Object 2 ∷ Object 1 ∷ [], Gives (Boolean false))
    ∷ Did (WeakSet s, [], Gives (Object 2))
    ∷ Did (New y, [], Gives (Object 1))
    ∷ JobBegun 1
    ∷ []

abbrev pub closed_adding : History
closed_adding =
    Closed
    ∷ JobEnded
    ∷ Did (WeakSetHas x s y, Object 2 ∷ Object 1 ∷ [], Gives (Boolean true))
    ∷ Did (WeakSetAdd s y, Object 2 ∷ Object 1 ∷ [], Nothing)
    ∷ Did (WeakSetHas x s y, Object 2 ∷ Object 1 ∷ [], Gives (Boolean false))
    ∷ Did (WeakSetDelete x s y, Object 2 ∷ Object 1 ∷ [], Gives (Boolean false))
    ∷ deleted_member

pub whole_adding : IsWholeRun plan_adding closed_adding
whole_adding = ([], search rules, search rules)

-- Two WeakMaps, a WeakMap and a WeakSet: an entry or a member is one of its own alone, and no property

abbrev pub plan_apart : AgentPlan
plan_apart = plan_of (
    (New k ∷ WeakMap m ∷ WeakMap l ∷ WeakMapSet m k l ∷ WeakMapHas x l k ∷ WeakMapHas x m l
    ∷ WeakMapDelete x l k ∷ WeakMapGet x m k ∷ WeakMapSet m m k ∷ WeakMapGet x m m ∷ [])
    ∷ []
    )

abbrev pub entered_in_one : History
entered_in_one =
    Did (WeakMapSet m k l, Object 2 ∷ Object 1 ∷ Object 3 ∷ [], Nothing)
    ∷ Did (WeakMap l, [], Gives (Object 3))
    ∷ Did (WeakMap m, [], Gives (Object 2))
    ∷ Did (New k, [], Gives (Object 1))
    ∷ JobBegun 1
    ∷ []

abbrev pub closed_apart : History
closed_apart =
    Closed
    ∷ JobEnded
    ∷ Did (WeakMapGet x m m, Object 2 ∷ Object 2 ∷ [], Gives (Object 1))
    ∷ Did (WeakMapSet m m k, Object 2 ∷ Object 2 ∷ Object 1 ∷ [], Nothing)
    ∷ Did (WeakMapGet x m k, Object 2 ∷ Object 1 ∷ [], Gives (Object 3))
    ∷ Did (WeakMapDelete x l k, Object 3 ∷ Object 1 ∷ [], Gives (Boolean false))
    ∷ Did (WeakMapHas x m l, Object 2 ∷ Object 3 ∷ [], Gives (Boolean false))
    ∷ Did (WeakMapHas x l k, Object 3 ∷ Object 1 ∷ [], Gives (Boolean false))
    ∷ entered_in_one

pub whole_apart : IsWholeRun plan_apart closed_apart
whole_apart = ([], search rules, search rules)

-- Wrong neighbours: reading

-- a get gives a value after its key was emptied
gives_after_its_key : IsUnlawful plan_key (Emptied (1 ∷ []) ∷ entered) (Did (WeakMapGet x m k, Object 3 ∷ Object 1 ∷ [], Gives (Object 2)))
gives_after_its_key l = cc

-- or there is an entry still
has_after_its_key : IsUnlawful plan_key (Emptied (1 ∷ []) ∷ entered) (Did (WeakMapHas x m k, Object 3 ∷ Object 1 ∷ [], Gives (Boolean true)))
has_after_its_key l = cc

-- a deleted entry is there
has_the_deleted : IsUnlawful plan_entries deleted (Did (WeakMapHas x m k, Object 3 ∷ Object 1 ∷ [], Gives (Boolean true)))
has_the_deleted l = cc

-- or is given
gives_the_deleted : IsUnlawful plan_entries deleted (Did (WeakMapGet x m k, Object 3 ∷ Object 1 ∷ [], Gives (Object 1)))
gives_the_deleted l = cc

-- or what it had replaced comes back
gives_the_replaced : IsUnlawful plan_entries deleted (Did (WeakMapGet x m k, Object 3 ∷ Object 1 ∷ [], Gives (Object 2)))
gives_the_replaced l = cc

-- a delete gives true again
deletes_twice : IsUnlawful plan_entries deleted (Did (WeakMapDelete x m k, Object 3 ∷ Object 1 ∷ [], Gives (Boolean true)))
deletes_twice l = cc

-- the first value is given after a second set
gives_the_first : IsUnlawful plan_entries overwritten (Did (WeakMapGet x m k, Object 3 ∷ Object 1 ∷ [], Gives (Object 2)))
gives_the_first l = cc

-- an entry of undefined is none
lacks_undefined : IsUnlawful plan_entries undefined_entered (Did (WeakMapHas x m k, Object 3 ∷ Object 1 ∷ [], Gives (Boolean false)))
lacks_undefined l = cc

-- an entry is one of another WeakMap too
in_another_map : IsUnlawful plan_apart entered_in_one (Did (WeakMapHas x l k, Object 3 ∷ Object 1 ∷ [], Gives (Boolean true)))
in_another_map l = cc

-- the value of an entry is a key
value_for_key : IsUnlawful plan_apart entered_in_one (Did (WeakMapHas x m l, Object 2 ∷ Object 3 ∷ [], Gives (Boolean true)))
value_for_key l = cc

-- an emptied member is one still
has_the_emptied : IsUnlawful plan_members (Emptied (1 ∷ []) ∷ joined) (Did (WeakSetHas x s a, Object 3 ∷ Object 1 ∷ [], Gives (Boolean true)))
has_the_emptied l = cc

-- a deleted member is one
has_the_deleted_member : IsUnlawful plan_adding deleted_member (Did (WeakSetHas x s y, Object 2 ∷ Object 1 ∷ [], Gives (Boolean true)))
has_the_deleted_member l = cc

-- Wrong neighbours: refusals

-- a number becomes a key
number_as_key : IsUnlawful plan_refusals asked_in_vain (Did (WeakMapSet m n n, Object 1 ∷ Number (pos 1) ∷ Number (pos 1) ∷ [], Nothing))
number_as_key l = cc

-- or a registered symbol does
registered_as_key : IsUnlawful plan_refusals asked_in_vain (Did (WeakMapSet m f m, Object 1 ∷ Registered t ∷ Object 1 ∷ [], Nothing))
registered_as_key l = cc

-- or a member
registered_as_member : IsUnlawful plan_refusals asked_in_vain (Did (WeakSetAdd s f, Object 2 ∷ Registered t ∷ [], Nothing))
registered_as_member l = cc

-- a get of such a key is refused
refuses_a_get : IsOutOfPlace plan_refusals made_kinds (Refused NotHeldWeakly)
refuses_a_get p = cc

-- the later of two refusals
later_code_of_a_map : IsOutOfPlace plan_refusals begun_wrong_map (Refused NotHeldWeakly)
later_code_of_a_map p = cc

later_code_of_a_set : IsOutOfPlace plan_refusals begun_wrong_set (Refused NotHeldWeakly)
later_code_of_a_set p = cc

-- a WeakSet is taken for a WeakMap, or the other way round
set_for_a_map : IsOutOfPlace plan_refusals begun_wrong_map (Refused NotAWeakSet)
set_for_a_map p = cc

map_for_a_set : IsOutOfPlace plan_refusals begun_wrong_set (Refused NotAWeakMap)
map_for_a_set p = cc

-- Wrong neighbours: emptying

-- a value is emptied whose WeakMap and key are both reached
empties_a_held_value : IsOutOfPlace plan_key both_held (Emptied (2 ∷ []))
empties_a_held_value p = other_set (receivers plan_key.jobs) both_held (2 ∷ []) [] 2 p.1 reached_by_both refl refl

-- the key alone keeps the value
key_keeps_the_value : IsOutOfPlace plan_key key_held (Emptied (3 ∷ []))
key_keeps_the_value p = other_set (receivers plan_key.jobs) key_held (2 ∷ 3 ∷ []) (3 ∷ []) 2 dead_without_its_map p.1 refl refl

-- the WeakMap alone keeps the value
map_keeps_the_value : IsOutOfPlace plan_map map_held (Emptied (1 ∷ []))
map_keeps_the_value p = other_set (receivers plan_map.jobs) map_held (1 ∷ 2 ∷ []) (1 ∷ []) 2 dead_without_its_key p.1 refl refl

-- or it keeps the key
map_keeps_the_key : IsOutOfPlace plan_map map_held (Emptied [])
map_keeps_the_key p = other_set (receivers plan_map.jobs) map_held (1 ∷ 2 ∷ []) [] 1 dead_without_its_key p.1 refl refl

-- a value keeps its own key, as a WeakMap that holds its values would have it
value_keeps_its_key : IsOutOfPlace plan_own_key leads_back (Emptied [])
value_keeps_its_key p = other_set (receivers plan_own_key.jobs) leads_back (1 ∷ 2 ∷ []) [] 1 dead_with_its_key p.1 refl refl

-- only the first step of a chain of entries is taken
stops_at_the_second : IsOutOfPlace plan_chain first_key_held (Emptied (3 ∷ []))
stops_at_the_second p = other_set (receivers plan_chain.jobs) first_key_held (3 ∷ []) [] 3 p.1 reached_along_the_chain refl refl

-- only the first key of a chain goes
empties_the_first_key : IsOutOfPlace plan_chain no_key_held (Emptied (1 ∷ []))
empties_the_first_key p = other_set (receivers plan_chain.jobs) no_key_held (1 ∷ 2 ∷ 3 ∷ []) (1 ∷ []) 3 dead_chain p.1 refl refl

-- the WeakMap goes with its keys
empties_the_map : IsOutOfPlace plan_chain no_key_held (Emptied (1 ∷ 2 ∷ 3 ∷ 4 ∷ []))
empties_the_map p = other_set (receivers plan_chain.jobs) no_key_held (1 ∷ 2 ∷ 3 ∷ 4 ∷ []) (1 ∷ 2 ∷ 3 ∷ []) 4 p.1 dead_chain refl refl

-- a WeakSet keeps its members
set_keeps_its_member : IsOutOfPlace plan_members forgot_member (Emptied [])
set_keeps_its_member p = other_set (receivers plan_members.jobs) forgot_member (1 ∷ []) [] 1 dead_member p.1 refl refl

-- or it goes with one
empties_the_set : IsOutOfPlace plan_members forgot_member (Emptied (1 ∷ 3 ∷ []))
empties_the_set p = other_set (receivers plan_members.jobs) forgot_member (1 ∷ 3 ∷ []) (1 ∷ []) 3 p.1 dead_member refl refl
