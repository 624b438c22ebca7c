-- Internal: a cluster by turns that is to do what follows.
use Rattle.std.specs.Prelude.{ℕ, suc, ◌<◌, ◌≤◌, length, ◌≡◌, Bool, true, false, ◌||◌, List, [], ◌∷◌, ◌++◌, Some, reverse, slice_get}
use Rattle.es_event.specs.declared.event.Event.{Event}
use Rattle.es_event.specs.declared.ledger_event.LedgerEvent.{LedgerEvent}
use Rattle.es_event.specs.Ledger.{Ledger}
use Rattle.es_event.specs.LegalLedger.{LegalSoFar}
use Rattle.es_match.specs.Deeds.{Deed, Opens, Posts, Takes, Spends, Accesses, Waits, Passes, Ends, Sleeps, Notifies, Wakes, TimesOut, part}
use Rattle.es_match.specs.Patience.{drained_last, patient}
use Rattle.es_match.specs.Asks.{Asking, nothing, to_open, to_measure, to_compare, to_access, to_miss, to_sleep, to_notify, to_post, to_receive, to_refuse, to_pass, to_empty, to_close, between_jobs}
use Rattle.es_match.specs.Cluster.{Account, IsSaid, account_of}
use Rattle.es_match.specs.Goes.{goes}
use Rattle.es_match.specs.Meets.{Came}
use Rattle.es_record.specs.AgentView.{AgentView}
use Rattle.es_cluster.specs.Tied.{came_to}
use Rattle.es_cluster.specs.declared.member.Progress.TheVariants.{Moved}
use Rattle.es_cluster.specs.State.{ClusterView}
use Rattle.es_cluster.specs.Turns.{AllTurned, Turned}
use Rattle.es_theorems.specs.Together.{AnyPlan, StandsBy}
use Rattle.es_theorems.specs.Going.{AllGoing}
use Rattle.es_theorems.specs.Ahead.{Like, Steps, ahead, played}
use Rattle.es_theorems.specs.Grown.{deeds_asked}

-- the agent is on its way to this account, and these deeds are left to it
pub record Left (a : Account) (b : AgentView) (ds : List Deed) : Type 0 where
  pub plan : b.plan ≡ a.plan
  pub rest : List Event
  pub history : a.history ≡ reverse rest ++ b.history
  pub final : Came
  pub go : goes (between_jobs b.history) (came_to b) rest ds ≡ Some final
  pub said : IsSaid a final

-- after the turns so far these events may follow, and by them each agent comes to its account
pub record Underway (n : ℕ) (all : List Account) (c : ClusterView) (es : List LedgerEvent) : Type 0 where
  pub stands : StandsBy AnyPlan c
  pub going : AllGoing c
  pub number : c.ledger.agents ≡ n
  pub legal : LegalSoFar n c.ledger.history
  pub whole : c.failed ≡ false
  pub steps : Steps n es c.ledger.history
  pub strangers : (a : ℕ) → n ≤ a → part c.ledger.history a ≡ []
  pub waits_end : patient c.ledger.history ≡ true
  pub drains_end : drained_last c.ledger.history ≡ true
  pub left : (i : ℕ) (b : AgentView) → slice_get c.agents i ≡ Some b → Left (account_of all i) b (ahead es c.ledger.history i)

-- agent i took a turn, and these events follow
pub record Turn (n : ℕ) (all : List Account) (c : ClusterView) (i : ℕ) (new : AgentView) (m : Ledger) (es : List LedgerEvent) (rest : List Event) : Type 0 where
  pub after : ClusterView
  pub turned : Turned Moved i c after
  pub on : Underway n all after es
  pub history : after.ledger.history ≡ m
  pub agent : slice_get after.agents i ≡ Some new
  pub mine : Left (account_of all i) new (ahead es after.ledger.history i)
  pub mine_is : mine.rest ≡ rest

-- agent i has taken its turns that ask for no deed, and its next event asks for some
pub record Settled (n : ℕ) (all : List Account) (c : ClusterView) (es : List LedgerEvent) (i : ℕ) : Type 0 where
  pub turns : List ℕ
  pub after : ClusterView
  pub turned : AllTurned turns c after
  pub on : Underway n all after es
  pub history : after.ledger.history ≡ c.ledger.history
  pub agent : AgentView
  pub here : slice_get after.agents i ≡ Some agent
  pub mine : Left (account_of all i) agent (ahead es after.ledger.history i)
  pub event : Event
  pub rest : List Event
  pub mine_is : mine.rest ≡ event ∷ rest
  pub fewer : ℕ
  pub some : deeds_asked agent event ≡ suc fewer

-- turns were taken, by which fewer events are left to follow
pub record Stepped (n : ℕ) (all : List Account) (c : ClusterView) (es : List LedgerEvent) : Type 0 where
  pub turns : List ℕ
  pub after : ClusterView
  pub turned : AllTurned turns c after
  pub behind : List LedgerEvent
  pub on : Underway n all after behind
  pub less : length behind < length es
  pub like : Like (played es c.ledger.history) (played behind after.ledger.history)
  pub parts : (a : ℕ) → part (played es c.ledger.history) a ≡ part (played behind after.ledger.history) a

abbrev pub is_end : Deed → Bool
is_end (Opens b w s) = false
is_end (Posts r m) = false
is_end (Takes s m w) = false
is_end (Spends s) = false
is_end (Accesses s i m old) = false
is_end (Waits s) = false
is_end (Passes s) = false
is_end Ends = true
is_end (Sleeps s i w) = false
is_end (Notifies s i n k) = false
is_end (Wakes o) = false
is_end (TimesOut o) = false

abbrev pub has_end : List Deed → Bool
has_end [] = false
has_end (d ∷ ds) = is_end d || has_end ds

abbrev pub closes : Asking → Bool
closes nothing = false
closes (to_open n v) = false
closes (to_measure b v) = false
closes (to_compare b c v) = false
closes (to_access b i m v) = false
closes (to_miss b i w) = false
closes (to_sleep b i w r) = false
closes (to_notify b i n v) = false
closes (to_post a v) = false
closes (to_receive s v) = false
closes to_refuse = false
closes (to_pass s) = false
closes (to_empty ids) = false
closes to_close = true
