-- To believe: a trace: what each turn tells, in the order of the turns.
use Rattle.std.specs.Prelude.{ℕ, ◌≡◌, Bool, List, [], ◌∷◌, ◌++◌, Option, Some, None, drop, length, reverse, slice_get}
use Rattle.es_event.specs.declared.event.Event.{Event}
use Rattle.es_event.specs.declared.event.Event.TheVariants.{JobBegun, CleanupBegun, Received, Did, Refused, Emptied, Taken, JobEnded, Skipped, Closed}
use Rattle.es_event.specs.declared.ledger_event.LedgerEvent.{LedgerEvent}
use Rattle.es_event.specs.declared.plan.AgentPlan.{AgentPlan}
use Rattle.es_event.specs.History.{History}
use Rattle.es_event.specs.Ledger.{Ledger}
use Rattle.es_cluster.specs.declared.member.Progress.{Progress}
use Rattle.es_cluster.specs.declared.member.Progress.TheVariants.{Moved, Waiting, Ended}
use Rattle.es_mark.specs.declared.kept.Kept.{Kept}
use Rattle.es_record.specs.AgentView.{AgentView}
use Rattle.es_why.specs.Kept.{AreKept}
use Rattle.es_why.specs.Picture.{IsPicture}
use Rattle.es_trace.specs.Columns.{label, widest}
use Rattle.es_trace.specs.Events.{rows_after}
use Rattle.es_trace.specs.Kept.{kept_rows}
use Rattle.es_trace.specs.Ledger.{ledger_rows}
use Rattle.es_trace.specs.Released.{released_by}
use Rattle.es_trace_json.specs.Events.{line_after}
use Rattle.es_trace_json.specs.Kept.{kept_lines}
use Rattle.es_trace_json.specs.Ledger.{ledger_lines}
use Rattle.es_cluster.specs.Moves.{RunsOut, with_drained}
use Rattle.es_cluster.specs.State.{ClusterView, names_of}
use Rattle.es_cluster.specs.Watched.{TakenTurn, AreMoves, AreTurns}
use Rattle.es_options.specs.declared.view.Form.{Form}
use Rattle.es_options.specs.declared.view.Form.TheVariants.{Rows, Lines, Pictures}
use Rattle.es_options.specs.declared.view.View.{View}

-- Of an agent

-- what is told of an event of an agent with this plan, after this history
abbrev pub event_told : Form → List (List ℕ) → AgentPlan → History → Event → List ℕ
event_told Rows names plan earlier e = rows_after names plan earlier e
event_told Lines names plan earlier e = line_after names plan earlier e
event_told Pictures names plan earlier e = []

-- what is told of the agent after it emptied these
abbrev pub IsCollectionTold : Form → Bool → List (List ℕ) → AgentView → List ℕ → List ℕ → Type 0
IsCollectionTold Rows all names b ids text = (ks : List Kept) × AreKept b all ks × (text ≡ kept_rows (label (widest 1 names) b.plan.name) ks)
IsCollectionTold Lines all names b ids text = (ks : List Kept) × AreKept b all ks × (text ≡ kept_lines b.plan.name ks)
IsCollectionTold Pictures all names b ids text = IsPicture b ids text

-- the same, where the event is an emptying; nothing is told after other events
abbrev pub IsAfterTold : View → List (List ℕ) → AgentView → Event → List ℕ → Type 0
IsAfterTold v names b (JobBegun j) text = text ≡ []
IsAfterTold v names b (CleanupBegun q) text = text ≡ []
IsAfterTold v names b (Received t x) text = text ≡ []
IsAfterTold v names b (Did (c, vs, r)) text = text ≡ []
IsAfterTold v names b (Refused code) text = text ≡ []
IsAfterTold v names b (Emptied ids) text = IsCollectionTold v.form v.all names b ids text
IsAfterTold v names b (Taken n held) text = text ≡ []
IsAfterTold v names b JobEnded text = text ≡ []
IsAfterTold v names b (Skipped j t) text = text ≡ []
IsAfterTold v names b Closed text = text ≡ []

-- what is told of the newest event of the agent
abbrev pub IsNewestTold : View → List (List ℕ) → AgentView → History → List ℕ → Type 0
IsNewestTold v names b [] text = text ≡ []
IsNewestTold v names b (e ∷ earlier) text = (after : List ℕ) × IsAfterTold v names b e after × (text ≡ event_told v.form names b.plan earlier e ++ after)

-- the same of the event that the agent got, if it moved
abbrev pub IsMoveTold : View → List (List ℕ) → Progress → Option AgentView → List ℕ → Type 0
IsMoveTold v names Moved (Some b) text = IsNewestTold v names b b.history text
IsMoveTold v names Moved None text = text ≡ []
IsMoveTold v names Waiting o text = text ≡ []
IsMoveTold v names Ended o text = text ≡ []

-- Of the ledger

-- of these events, the oldest first, and of the blocks that they release
abbrev pub events_told : Form → List (List ℕ) → List LedgerEvent → List ℕ → List ℕ
events_told Rows names es blocks = ledger_rows names es blocks
events_told Lines names es blocks = ledger_lines names es blocks
events_told Pictures names es blocks = []

-- of the events from the n-th on, where this is the history
abbrev pub told_from : Form → List (List ℕ) → ℕ → Ledger → List ℕ
told_from f names n l = events_told f names (drop n (reverse l)) (released_by l (drop n (reverse l)))

-- of what was added to the history
abbrev pub added_told : Form → List (List ℕ) → Ledger → Ledger → List ℕ
added_told f names old new = told_from f names (length old) new

-- Of turns

-- a turn: the agent's event, and what happened in the ledger
abbrev pub IsTurnTold : View → List (List ℕ) → TakenTurn → List ℕ → Type 0
IsTurnTold v names t text =
    (moved : List ℕ) × IsMoveTold v names t.progress (slice_get t.after.agents t.agent) moved
    × (text ≡ moved ++ added_told v.form names t.before.ledger.history t.after.ledger.history)

-- turns, one after the other
abbrev pub AreTurnsTold : View → List (List ℕ) → List TakenTurn → List ℕ → Type 0
AreTurnsTold v names [] text = text ≡ []
AreTurnsTold v names (t ∷ ts) text = (first rest : List ℕ) × IsTurnTold v names t first × AreTurnsTold v names ts rest × (text ≡ first ++ rest)

-- a run from this state to its end, turn by turn, which are the turns of its moves, and then the messages that nobody took
pub record IsTraceFrom (v : View) (first : ClusterView) (text : List ℕ) : Type 0 where
  pub turns : List TakenTurn
  pub end : ClusterView
  pub taken : AreTurns turns first end
  pub moves : AreMoves None turns None
  pub runs : RunsOut first end
  pub told : List ℕ
  pub are_told : AreTurnsTold v (names_of first.agents) turns told
  pub is : text ≡ told ++ added_told v.form (names_of first.agents) end.ledger.history (with_drained end).ledger.history
