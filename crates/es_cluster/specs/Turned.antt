-- To believe: what a turn of an agent asks of those who call it, and what it leaves of the agent and of the ledger.
use Rattle.std.specs.Prelude.{ℕ, ◌≡◌, ◌≢◌, ◌<◌, ⊤, ◌⊎◌, not, Bool, false, List, Option, Some, map, ◌++◌}
use Rattle.es_event.specs.Access.{is_of_sleep}
use Rattle.es_event.specs.declared.access.Task.{Task}
use Rattle.es_event.specs.declared.command.Command.TheVariants.{Atomic}
use Rattle.es_event.specs.declared.event.Event.{Event}
use Rattle.es_event.specs.declared.ledger_event.LedgerEvent.TheVariants.{Spent}
use Rattle.es_event.specs.declared.row.Row.{Row}
use Rattle.es_event.specs.Ledger.{Ledger, ended as has_ended}
use Rattle.es_event.specs.Order.{Due, run, phase}
use Rattle.es_ledger.specs.LedgerView.{LedgerView}
use Rattle.es_ledger.specs.Sleeps.{rested}
use Rattle.es_ledger.specs.Turns.{told}
use Rattle.es_ledger.specs.declared.turn.Turn.{Turn}
use Rattle.es_ledger.specs.declared.turn.Turn.TheVariants.{Stay}
use Rattle.es_ticket.specs.Stakes.{StakeView, at}
use Rattle.es_record.specs.AgentView.{AgentView, IsNext, Records, with_row}
use Rattle.es_record.specs.Graph.{AreMarksOf, AreLateMarks}
use Rattle.es_rules.specs.Needs.{for_block, for_post, for_buffer_post, for_word, Need, asks_nobody, asks_marks, asks_copy, asks_late_marks, asks_ledger, asks_message, asks_closing, asks_nothing, need}
use Rattle.es_agent.specs.Tickets.{is_ended, tickets}
use Rattle.es_cluster.specs.Members.{MemberView, Holds}
use Rattle.es_cluster.specs.Tied.{GrowsBy, IsSettled, IsTied}
use Rattle.es_cluster.specs.declared.beside.Beforehand.{Beforehand}
use Rattle.es_cluster.specs.declared.beside.Beforehand.TheVariants.{Copy, Marks, Nothing}
use Rattle.es_cluster.specs.declared.member.Progress.{Progress}
use Rattle.es_cluster.specs.declared.member.Progress.TheVariants.{Moved, Waiting, Ended}

-- whom an agent asks to post to, or waits for, is one of the agents, and not itself
abbrev pub NamesOthers : Need → ℕ → ℕ → Type 0
NamesOthers asks_nobody n agents = ⊤
NamesOthers asks_marks n agents = ⊤
NamesOthers asks_copy n agents = ⊤
NamesOthers asks_late_marks n agents = ⊤
NamesOthers (asks_ledger (for_block w)) n agents = ⊤
NamesOthers (asks_ledger (for_post a v)) n agents = (a < agents) × (n ≢ a)
NamesOthers (asks_ledger (for_buffer_post a o)) n agents = (a < agents) × (n ≢ a)
NamesOthers (asks_ledger (for_word o i t)) n agents = ⊤
NamesOthers (asks_message s) n agents = (s < agents) × (n ≢ s)
NamesOthers asks_closing n agents = ⊤
NamesOthers asks_nothing n agents = ⊤

-- the marks are those that the agent asks for: of what it reaches, or, to finish a later collection, of its copy and what derefs
-- gave since
abbrev pub AreAskedFor : Need → AgentView → List Bool → Type 0
AreAskedFor asks_nobody b m = ⊥
AreAskedFor asks_marks b m = AreMarksOf b m
AreAskedFor asks_copy b m = ⊥
AreAskedFor asks_late_marks b m = AreLateMarks b m
AreAskedFor (asks_ledger r) b m = ⊥
AreAskedFor (asks_message s) b m = ⊥
AreAskedFor asks_closing b m = ⊥
AreAskedFor asks_nothing b m = ⊥

-- the agent asks for marks
abbrev pub AsksMarks : Need → Type 0
AsksMarks n = (n ≡ asks_marks) ⊎ (n ≡ asks_late_marks)

-- what an agent that asks this needs before it has the ledger: a copy to open a later collection, and marks to empty
abbrev pub beforehand : Need → Beforehand
beforehand asks_nobody = Nothing
beforehand asks_marks = Marks
beforehand asks_copy = Copy
beforehand asks_late_marks = Marks
beforehand (asks_ledger r) = Nothing
beforehand (asks_message s) = Nothing
beforehand asks_closing = Nothing
beforehand asks_nothing = Nothing

-- a command is due that reads or writes a word alone: no wait, which may sleep there, and no notify, which wakes others (The
-- Atomics Object)
abbrev pub runs_access : Due → Bool
runs_access (run x (Atomic a)) = not (is_of_sleep a.operation)
runs_access _ = false

-- the agent is one of the ledger's, and has ended there where it has closed
pub record IsSeated (b : AgentView) (l : LedgerView) : Type 0 where
  pub known : b.number < l.agents
  pub agents : b.agents ≡ l.agents
  pub over : has_ended l.history b.number ≡ is_ended (phase b.history)

-- the agent grew by one event, the next by the rules and the plan; a buffer object may have come with it
abbrev pub GrowsByOne : AgentView → AgentView → Type 0
GrowsByOne old new = (e : Event) × (r : Option Row) × IsNext (with_row r old) e × Records (with_row r old) e new

-- the agent asks for a message, or to sleep at a word
abbrev pub MayWait : Need → Type 0
MayWait n = ((s : ℕ) × (n ≡ asks_message s)) ⊎ ((o i w : ℕ) × (n ≡ asks_ledger (for_word o i (Task.Sleep w))))

-- an agent that waits asks for a message or sleeps at a word, and one that has ended asks for nothing; neither has changed
abbrev pub Proceeds : Progress → MemberView → MemberView → Type 0
Proceeds Moved old new = GrowsByOne old.core new.core
Proceeds Waiting old new = MayWait (need old.core) × (new ≡ old)
Proceeds Ended old new = (need old.core ≡ asks_nothing) × (new ≡ old)

-- beside others it has ended too where the ledger says so; then it has not changed
abbrev pub ProceedsBeside : Progress → MemberView → MemberView → Type 0
ProceedsBeside Moved old new = Proceeds Moved old new
ProceedsBeside Waiting old new = Proceeds Waiting old new
ProceedsBeside Ended old new = new ≡ old

-- the rules tell the agent to wait on for a message
abbrev pub WaitsOn : AgentView → LedgerView → LedgerView → Type 0
WaitsOn b old new = (s : ℕ) × (need b ≡ asks_message s) × (◌≡◌ {A = Turn × Ledger} (Stay, new.history) (told old.history old.agents b.number s))

-- or to sleep on at a word, through its ticket of this row
abbrev pub SleepsOn : AgentView → LedgerView → LedgerView → Type 0
SleepsOn b old new =
    (o i w : ℕ) × (r : Row) × (need b ≡ asks_ledger (for_word o i (Task.Sleep w))) × (Some r ≡ at o (tickets b))
    × (◌≡◌ {A = Option Turn × Ledger} (Some Stay, new.history) (rested old.history old.agents b.number r i w))

-- an agent that waits or sleeps on was told to by the rules, one that asks for a message or to sleep and goes on was not, and one
-- that has ended does nothing
abbrev pub WaitsRightly : Progress → AgentView → LedgerView → LedgerView → Type 0
WaitsRightly Moved b old new =
    ((s : ℕ) → need b ≡ asks_message s → (told old.history old.agents b.number s).0 ≢ Stay)
    × ((o i w : ℕ) (r : Row) → need b ≡ asks_ledger (for_word o i (Task.Sleep w)) → Some r ≡ at o (tickets b) → (rested old.history old.agents b.number r i w).0 ≢ Some Stay)
WaitsRightly Waiting b old new = WaitsOn b old new ⊎ SleepsOn b old new
WaitsRightly Ended b old new = new ≡ old

-- the same agents, and what happened besides are deeds of agent n alone
abbrev pub OthersStay : ℕ → LedgerView → LedgerView → Type 0
OthersStay n old new = (new.agents ≡ old.agents) × GrowsBy n old.history new.history

-- agent and ledger go together; one that has one event more waits for nobody and is awake, whatever it asks for next
abbrev pub IsTiedAfter : Progress → AgentView → Ledger → Type 0
IsTiedAfter Moved b l = IsSettled b l
IsTiedAfter Waiting b l = IsTied b l
IsTiedAfter Ended b l = IsTied b l

-- where the agent and the ledger went together before, they do
abbrev pub StaysTied : Progress → AgentView → LedgerView → AgentView → LedgerView → Type 0
StaysTied p old before b after = IsSeated old before → IsTied old before.history → IsTiedAfter p b after.history

-- whatever came of a turn of the agent old, it has its stake, and its place where it had it
pub record Keeps (old : AgentView) (before : LedgerView) (b : AgentView) (s : StakeView) (after : LedgerView) : Type 0 where
  pub number : b.number ≡ old.number
  pub held : Holds b s
  pub seated : IsSeated old before → IsSeated b after
  pub others : OthersStay old.number before after

-- the tickets of these rows are spent, the last first
abbrev pub spent : List (ℕ × Row) → Ledger → Ledger
spent ts l = map (λ t. Spent t.1.serial) ts ++ l
