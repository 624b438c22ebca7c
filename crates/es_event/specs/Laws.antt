-- To believe: what is said of the definitions as a whole. Each is the contract of a function of its name that does
-- nothing, so it is proved; none of them adds to what the definitions mean.
use Rattle.std.specs.Prelude.{ℕ, ◌≡◌, ◌↔◌, ◌+◌, Bool, true, false, List, [], ◌∷◌, ◌++◌, Some, None, is_some, map, nat_lt}
use Rattle.std.specs.List.{list_all}
use Rattle.es_value.specs.Limits.{most_identities}
use Rattle.es_value.specs.declared.value.Value.{Value}
use Rattle.es_value.specs.declared.value.Value.TheVariants.{Object}
use Rattle.es_event.specs.declared.row.Row.{Row}
use Rattle.es_event.specs.declared.event.Event.{Event}
use Rattle.es_event.specs.declared.event.Event.TheVariants.{Received, Refused, Taken}
use Rattle.es_event.specs.declared.event.Refusal.{Refusal}
use Rattle.es_event.specs.declared.outcome.Outcome.{Outcome}
use Rattle.es_event.specs.declared.plan.AgentPlan.{AgentPlan}
use Rattle.es_event.specs.declared.plan.Plan.{Plan}
use Rattle.es_event.specs.History.{History}
use Rattle.es_event.specs.Identities.{identity, is_in, made, is_made, has_identity_in, gone}
use Rattle.es_event.specs.Jobs.{Receivers, receivers, stays_alone, callbacks_collect_nothing}
use Rattle.es_event.specs.LookBacks.{LookAlike}
use Rattle.es_event.specs.Properties.{prop, keys, has_key}
use Rattle.es_event.specs.WeakRefs.{kept}
use Rattle.es_event.specs.Registrations.{Cell, Fate, live, awaiting, unregistered, taken, registered, is_registered, cell, fate, is_present, tally}
use Rattle.es_event.specs.Sharing.{Buffers, AgreeSoFar}
use Rattle.es_event.specs.Legal.{is_rising, LegalBy}
use Rattle.es_event.specs.Reach.{IsClosed, IsReached, LedTo, IsHeld, AreDead, IsClosedBeside, with_later}
use Rattle.es_event.specs.Live.{AgreeAlong, Oblivious, Live, Honest}
use Rattle.es_event.specs.Late.{derefed, IsReachedWith, AreLate}
use Rattle.es_event.specs.Order.{receive, nothing, due}
use Rattle.es_event.specs.Runs.{ComesNext, heard, IsRun, IsRunOver, IsWholeRunOver, IsOutcome}

-- Runs

-- Of two events that may come next, over the same buffers, and that hear the same from outside, each is the other.
abbrev pub OneEventComesNext : Type 0
OneEventComesNext = (over : Buffers) (plan : AgentPlan) (h : History) (e f : Event) → ComesNext over plan h e → ComesNext over plan h f → heard e ≡ heard f → e ≡ f

-- No history is stuck: where something is due, an event may come next, over a table that says the same of what was made so
-- far. A job that waits for a message may be skipped.
abbrev pub SomeEventComesNext : Type 0
SomeEventComesNext =
    (over : Buffers) (plan : AgentPlan) (h : History) → (due plan h ≡ nothing → ⊥) → (more : Buffers) × AgreeSoFar h over more × (e : Event) × ComesNext more plan h e

-- And where a job waits for a message, each value without an identity may be received, and where there is room so may a buffer.
abbrev pub AMessageMayCome : Type 0
AMessageMayCome =
    (over : Buffers) (plan : AgentPlan) (h : History) (job sender : ℕ) → due plan h ≡ receive job sender
    → ((v : Value) → identity v ≡ None → ComesNext over plan h (Received sender v))
    × ((row : Row) → nat_lt (made h) most_identities ≡ true → ComesNext ((made h + 1, row) ∷ over) plan h (Received sender (Object (made h + 1))))

-- Each run so far of a plan in which no callback collects comes to its end, if nothing else by skips: the work on the cleanup
-- queue ends too.
abbrev pub EachRunComesToItsEnd : Type 0
EachRunComesToItsEnd =
    (over : Buffers) (plan : AgentPlan) (h : History) → callbacks_collect_nothing plan ≡ true
    → IsRunOver over plan h
    → (more : Buffers) × AgreeSoFar h over more × (f : History) × IsWholeRunOver more plan (f ++ h)

-- What a run hears from outside settles it: two runs of a plan so far, over the same buffers, that hear the same are the same.
abbrev pub WhatIsHeardSettlesARun : Type 0
WhatIsHeardSettlesARun = (over : Buffers) (plan : AgentPlan) (g h : History) → IsRunOver over plan g → IsRunOver over plan h → map heard g ≡ map heard h → g ≡ h

-- An agent's plan has one whole run, if the agent stays alone.
abbrev pub APlanHasOneWholeRun : Type 0
APlanHasOneWholeRun =
    (over other : Buffers) (plan : AgentPlan) (g h : History) → stays_alone plan ≡ true → IsWholeRunOver over plan g → IsWholeRunOver other plan h → g ≡ h

-- A plan has one outcome, but for the ledger's history, if each agent stays alone.
abbrev pub APlanHasOneOutcome : Type 0
APlanHasOneOutcome =
    (plan : Plan) (a b : Outcome) → list_all stays_alone plan.agents ≡ true → IsOutcome plan a → IsOutcome plan b
    → (a.names ≡ b.names) × (a.histories ≡ b.histories)

-- Look-backs

-- A refused command changes nothing that the rules look back at, but for how far the agent is in its plan.
abbrev pub ARefusalChangesNothing : Type 0
ARefusalChangesNothing = (into : Receivers) (h : History) (code : Refusal) → LookAlike into (Refused code ∷ h) h

-- A key is listed exactly where the object has a property of it.
abbrev pub KeysAreThoseOfProperties : Type 0
KeysAreThoseOfProperties = (h : History) (o : ℕ) (k : List ℕ) → has_key (keys h o) k ≡ is_some (prop h o k)

-- Registrations

-- Every registration ever made is exactly one of live, awaiting its cleanup, unregistered or taken.
abbrev pub EachRegistrationHasOneFate : Type 0
EachRegistrationHasOneFate = (h : History) → tally h live + tally h awaiting + tally h unregistered + tally h taken ≡ registered h

-- where the fate may go from here
abbrev pub may_become : Fate → Fate → Bool
may_become live f = true
may_become awaiting live = false
may_become awaiting awaiting = true
may_become awaiting unregistered = true
may_become awaiting taken = true
may_become unregistered live = false
may_become unregistered awaiting = false
may_become unregistered unregistered = true
may_become unregistered taken = false
may_become taken live = false
may_become taken awaiting = false
may_become taken unregistered = false
may_become taken taken = true

-- A fate only moves forward: from live, or from awaiting to unregistered or taken.
abbrev pub FatesMoveForward : Type 0
FatesMoveForward = (f h : History) (n : ℕ) → is_registered h n ≡ true → may_become (fate h n) (fate (f ++ h) n) ≡ true

-- No registration is taken twice.
abbrev pub NothingIsTakenTwice : Type 0
NothingIsTakenTwice = (over : Buffers) (into : Receivers) (f h : History) (n : ℕ) (v w : Value) → LegalBy over into (Taken n w ∷ (f ++ (Taken n v ∷ h))) → ⊥

-- No cleanup is lost: where a run of a plan is whole, no registration awaits its cleanup any more.
abbrev pub NoCleanupIsLost : Type 0
NoCleanupIsLost = (over : Buffers) (plan : AgentPlan) (h : History) → IsWholeRunOver over plan h → tally h awaiting ≡ 0

-- What is reached, and what is dead

-- What every closed set has, of those that a test decides, is what a chain of steps leads to.
abbrev pub ReachedIsLedTo : Type 0
ReachedIsLedTo = (into : Receivers) (h : History) (i : ℕ) → IsReached into h i ↔ LedTo into h i

-- And every closed set has it, also one that no test decides: sets as tests lose nothing.
abbrev pub TestsLoseNothing : (ℕ → Type 0) → Type 0
TestsLoseNothing m = (into : Receivers) (h : History) (i : ℕ) → IsClosed into h m → IsReached into h i → m i

-- All that is dead can be listed, by rising identity.
abbrev pub TheDeadCanBeListed : Type 0
TheDeadCanBeListed = (into : Receivers) (h : History) → (s : List ℕ) × AreDead into h s × (is_rising s ≡ true)

-- There is one such list.
abbrev pub TheDeadAreOneList : Type 0
TheDeadAreOneList = (into : Receivers) (h : History) (s t : List ℕ) → AreDead into h s → AreDead into h t → is_rising s ≡ true → is_rising t ≡ true → s ≡ t

-- Liveness

-- A closed set that has all that is there outside s stays closed, with what is made later, through every execution
-- that is oblivious of s, whatever is emptied on the way.
abbrev pub AClosedSetStaysClosed : Type 0
AClosedSetStaysClosed =
    (over : Buffers) (into other : Receivers) (h : History) (s : List ℕ) (m : ℕ → Bool) → IsClosedBeside s into h m → AgreeAlong h into other
    → (f : History) → Oblivious s over other h f → IsClosed other (f ++ h) (λ i. with_later h m i ≡ true)

-- So what such a set lacks is not live: a collector may empty any s whose rest is closed, not only all that is dead.
abbrev pub NothingThatAClosedSetLacksIsLive : Type 0
NothingThatAClosedSetLacksIsLive =
    (into : Receivers) (h : History) (s : List ℕ) (m : ℕ → Bool) → IsClosedBeside s into h m → ((i : ℕ) → is_in s i ≡ true → (is_made h i ≡ true) × (m i ≡ false))
    → Live into h s → ⊥

-- What is dead is not live: no execution that is oblivious of all that is dead observes a member of it, whatever is
-- emptied on the way.
abbrev pub NothingDeadIsLive : Type 0
NothingDeadIsLive = (into : Receivers) (h : History) (s : List ℕ) → AreDead into h s → Live into h s → ⊥

-- What a variable holds is live, and what a property holds of an object that is held so, or an entry of a WeakMap under a
-- key where both are: a set with a member of these is observed by some execution that is oblivious of it.
abbrev pub WhatIsHeldIsLive : Type 0
WhatIsHeldIsLive = (over : Buffers) (into : Receivers) (h : History) (s : List ℕ) (v : Value) → LegalBy over into h → IsHeld into h v → has_identity_in s v ≡ true → Live into h s

-- What a cell holds that is in its registry is live: its target may be emptied, and its cleanup observes the held value.
abbrev pub WhatACellHoldsIsLive : Type 0
WhatACellHoldsIsLive =
    (over : Buffers) (into : Receivers) (h : History) (s : List ℕ) (n : ℕ) (c : Cell) → LegalBy over into h → cell h n ≡ Some c → is_present (fate h n) ≡ true
    → has_identity_in s c.held ≡ true → Live into h s

-- Emptying, in any run of a plan so far

-- Nothing in KeptAlive is emptied.
abbrev pub NothingKeptIsGone : Type 0
NothingKeptIsGone = (plan : AgentPlan) (h : History) (i : ℕ) → IsRun plan h → is_in (kept h) i ≡ true → is_in (gone h) i ≡ true → ⊥

-- Nothing that is reached is emptied: no registry, and nothing that a variable, KeptAlive, a cell in its registry or a property
-- of something reached holds, or an entry of a WeakMap and a key that are both reached.
abbrev pub NothingReachedIsGone : Type 0
NothingReachedIsGone = (plan : AgentPlan) (h : History) (i : ℕ) → IsRun plan h → IsReached (receivers plan.jobs) h i → is_in (gone h) i ≡ true → ⊥

-- Every set that was emptied was not live then.
abbrev pub NothingEmptiedWasLive : Type 0
NothingEmptiedWasLive = (plan : AgentPlan) (h : History) → IsRun plan h → Honest (receivers plan.jobs) h

-- Later collections

-- What is late, by a copy that was taken at p and what derefs gave in g since, is not live after g, however the graph has changed.
abbrev pub NothingLateIsLive : Type 0
NothingLateIsLive = (over : Buffers) (into : Receivers) (p g : History) (s : List ℕ) → LegalBy over into (g ++ p) → AreLate into p (derefed g) s → Live into (g ++ p) s → ⊥

-- Where no deref gave anything, what is late is what was dead when the copy was taken.
abbrev pub TheLateAreTheDead : Type 0
TheLateAreTheDead = (into : Receivers) (p : History) (s : List ℕ) → AreLate into p [] s ↔ AreDead into p s

-- What a deref gave since is not late, nor what is reached from it in the copy.
abbrev pub WhatADerefGaveStays : Type 0
WhatADerefGaveStays = (into : Receivers) (p g : History) (s : List ℕ) → AreLate into p (derefed g) s → ((i : ℕ) → is_in (derefed g) i ≡ true → is_in s i ≡ false) × ((i : ℕ) → IsReachedWith into p (derefed g) i → is_in s i ≡ false)

-- All that is late can be listed, by rising identity.
abbrev pub TheLateCanBeListed : Type 0
TheLateCanBeListed = (into : Receivers) (p : History) (more : List ℕ) → (s : List ℕ) × AreLate into p more s × (is_rising s ≡ true)

-- There is one such list.
abbrev pub TheLateAreOneList : Type 0
TheLateAreOneList = (into : Receivers) (p : History) (more s t : List ℕ) → AreLate into p more s → AreLate into p more t → is_rising s ≡ true → is_rising t ≡ true → s ≡ t
