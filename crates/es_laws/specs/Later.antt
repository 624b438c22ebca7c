-- To believe: what is said of later collections as a whole. Each is the contract of a function of its name that does nothing, so it is
-- proved; none of them adds to what the definitions mean.
use Rattle.std.specs.Prelude.{ℕ, ◌≡◌, ◌↔◌, Bool, true, false, List, [], Some, None}
use Rattle.es_value.specs.declared.value.Value.{Value}
use Rattle.es_event.specs.declared.plan.AgentPlan.{AgentPlan}
use Rattle.es_event.specs.History.{History}
use Rattle.es_event.specs.Identities.{identity, is_in}
use Rattle.es_event.specs.Jobs.{Receivers, callbacks_collect_nothing, cleaning}
use Rattle.es_event.specs.Variables.{var}
use Rattle.es_event.specs.Properties.{prop}
use Rattle.es_event.specs.WeakRefs.{kept}
use Rattle.es_event.specs.Ephemerons.{entry}
use Rattle.es_event.specs.Registrations.{Cell, callback, cell, fate, is_present}
use Rattle.es_event.specs.Sharing.{Buffers}
use Rattle.es_event.specs.Reach.{IsClosed}
use Rattle.es_event.specs.Late.{IsReachedWith}
use Rattle.es_event.specs.Later.{snapshot}
use Rattle.es_event.specs.Order.{Phase, between, handed, inside, stopped, ended, phase, queue}
use Rattle.es_event.specs.Follows.{Follows}
use Rattle.es_event.specs.Runs.{IsWholeRunOver}

-- What is reached with what derefs gave

-- steps lead to i: from one of these, or as in `LedTo`
pub data LedToWith (into : Receivers) (p : History) (more : List ℕ) : ℕ → Type 0 where
  by_giving : (i : ℕ) → is_in more i ≡ true → LedToWith into p more i
  by_variable : (x : List ℕ) (i : ℕ) → identity (var into p x) ≡ Some i → LedToWith into p more i
  by_keeping : (i : ℕ) → is_in (kept p) i ≡ true → LedToWith into p more i
  by_registry : (r c : ℕ) → callback p r ≡ Some c → LedToWith into p more r
  by_cell : (n : ℕ) (c : Cell) (i : ℕ) → cell p n ≡ Some c → is_present (fate p n) ≡ true → identity c.held ≡ Some i → LedToWith into p more i
  by_property : (o : ℕ) (k : List ℕ) (v : Value) (i : ℕ) → LedToWith into p more o → prop p o k ≡ Some v → identity v ≡ Some i → LedToWith into p more i
  by_entry : (w : ℕ) (k : ℕ) (v : Value) (i : ℕ) → LedToWith into p more w → LedToWith into p more k → entry p w k ≡ Some v → identity v ≡ Some i → LedToWith into p more i

-- What every closed set has that has these too, of those that a test decides, is what a chain of steps leads to.
abbrev pub WhatIsReachedWithTheseIsLedTo : Type 0
WhatIsReachedWithTheseIsLedTo = (into : Receivers) (p : History) (more : List ℕ) (i : ℕ) → IsReachedWith into p more i ↔ LedToWith into p more i

-- And every closed set that has these has it, also one that no test decides.
abbrev pub LaterTestsLoseNothing : (ℕ → Type 0) → Type 0
LaterTestsLoseNothing m =
    (into : Receivers) (p : History) (more : List ℕ) (i : ℕ) → IsClosed into p m → ((j : ℕ) → is_in more j ≡ true → m j) → IsReachedWith into p more i → m i

-- How long a later collection is open

-- a job is under way, or was stopped and has not ended
abbrev pub is_under_way : Phase → Bool
is_under_way between = false
is_under_way handed = false
is_under_way inside = true
is_under_way stopped = true
is_under_way ended = false

-- None stays open past its job: where no job is under way, none is.
abbrev pub NoLaterCollectionStaysOpen : Type 0
NoLaterCollectionStaysOpen = (over : Buffers) (plan : AgentPlan) (h : History) → Follows over plan h → is_under_way (phase h) ≡ false → snapshot h ≡ None

-- And where no callback collects, none is open in a cleanup job.
abbrev pub NoCallbackRunsWhileOneIsOpen : Type 0
NoCallbackRunsWhileOneIsOpen =
    (over : Buffers) (plan : AgentPlan) (h : History) (r : ℕ) → callbacks_collect_nothing plan ≡ true → Follows over plan h → cleaning h ≡ Some r → snapshot h ≡ None

-- Where a run of a plan is whole, no later collection is open, no cleanup job is queued, and none is under way.
abbrev pub NothingIsLeftOpen : Type 0
NothingIsLeftOpen = (over : Buffers) (plan : AgentPlan) (h : History) → IsWholeRunOver over plan h → (snapshot h ≡ None) × (queue h ≡ []) × (cleaning h ≡ None)
