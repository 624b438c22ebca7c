-- To believe: what one agent does to the ledger, and that its history, its tickets and its part in the ledger's history go together.
use Rattle.std.specs.Prelude.{ℕ, ◌≡◌, ⊤, true, false, List, [], ◌∷◌, ◌++◌, Some, None, reverse}
use Rattle.es_value.specs.declared.value.Value.TheVariants.{Object}
use Rattle.es_event.specs.declared.access.Task.{Task}
use Rattle.es_event.specs.declared.ledger_event.LedgerEvent.{LedgerEvent}
use Rattle.es_event.specs.Ledger.{Ledger, waits}
use Rattle.es_event.specs.Waiters.{asleep}
use Rattle.es_match.specs.declared.deed.Sleep.{Sleep}
use Rattle.es_match.specs.Deeds.{Deed, deed, part, sleep_of}
use Rattle.es_match.specs.Patience.{patient, drained_last}
use Rattle.es_match.specs.Cluster.{DeedsMeet, refused_senders}
use Rattle.es_match.specs.Meets.{Came, is_ticket}
use Rattle.es_record.specs.AgentView.{AgentView}
use Rattle.es_rules.specs.Needs.{for_word, asks_ledger, asks_message, need}
use Rattle.es_agent.specs.Tickets.{tickets}

-- each of these events, the newest first, which come after l, is a deed of agent n
abbrev pub AreDeedsOf : ℕ → List LedgerEvent → Ledger → Type 0
AreDeedsOf n [] l = ⊤
AreDeedsOf n (e ∷ es) l = ((d : Deed) × (deed (es ++ l) e ≡ Some (n, d))) × AreDeedsOf n es l

-- m is l, and then deeds of agent n alone
abbrev pub GrowsBy : ℕ → Ledger → Ledger → Type 0
GrowsBy n l m = (es : List LedgerEvent) × (m ≡ es ++ l) × AreDeedsOf n es l

-- what has come to the agent from the ledger, as the agent has it: its tickets; what each of its buffer objects is over; and the
-- senders of the jobs whose messages found no room
abbrev pub came_to : AgentView → Came
came_to b = record { tickets = tickets b; ever = reverse b.over; refused = refused_senders b.plan b.history }

-- the agent asks for this sleep: to wait at a word through its ticket
abbrev pub AsksFor : AgentView → Sleep → Type 0
AsksFor b s = (o : ℕ) × (need b ≡ asks_ledger (for_word o s.index (Task.Sleep s.word))) × (is_ticket (tickets b) (Object o) s.serial ≡ true)

pub record IsTied (b : AgentView) (l : Ledger) : Type 0 where
  -- its part is, in order and with nothing besides, what its history asks, and brought what the agent has
  pub ties : DeedsMeet b.history (part l b.number) (came_to b)
  -- where it waits, it asks for a message of that sender
  pub awaits : (s : ℕ) → waits l b.number ≡ Some s → need b ≡ asks_message s
  -- where it sleeps, it asks for that sleep
  pub sleeps : (s : Sleep) → sleep_of l b.number ≡ Some s → AsksFor b s
  -- what an agent does after a wait ends the wait, what it does asleep ends the sleep, and no agent does anything after a drain
  pub waits_end : patient l ≡ true
  pub drains_end : drained_last l ≡ true

-- besides, it waits for nobody, and is awake
pub record IsSettled (b : AgentView) (l : Ledger) : Type 0 where
  pub tied : IsTied b l
  pub free : waits l b.number ≡ None
  pub awake : asleep l b.number ≡ false
