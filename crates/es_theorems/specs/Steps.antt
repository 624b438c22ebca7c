-- Internal: what is kept of a cluster along its turns, as far as its agents' own names need it, and what one turn is by these names.
use Rattle.std.specs.Prelude.{ℕ, ◌≡◌, ◌≢◌, ◌≤◌, ◌<◌, ⊤, Bool, true, false, List, [], ◌∷◌, ◌++◌, Option, Some, None, reverse, slice_get}
use Rattle.std.specs.Option.{option_map}
use Rattle.es_event.specs.declared.access.Change.{Change}
use Rattle.es_event.specs.declared.event.Event.{Event}
use Rattle.es_event.specs.declared.ledger_event.Body.{Body}
use Rattle.es_event.specs.declared.row.Row.{Row}
use Rattle.es_event.specs.Access.{change_by}
use Rattle.es_event.specs.History.{History}
use Rattle.es_event.specs.Identities.{made}
use Rattle.es_event.specs.Ledger.{Ledger, holder_of, opened, size, table, word}
use Rattle.es_event.specs.LegalLedger.{LegalSoFar}
use Rattle.es_event.specs.Order.{due}
use Rattle.es_event.specs.Rows.{line_of}
use Rattle.es_event.specs.Sharing.{Buffers}
use Rattle.es_match.specs.Deeds.{Deed, Opens, Posts, Takes, Spends, Accesses, Waits, Passes, Ends, Sleeps, Notifies, Wakes, TimesOut, part}
use Rattle.es_match.specs.Patience.{has_drained}
use Rattle.es_ticket.specs.Stakes.{is_rising_from}
use Rattle.es_ledger.specs.Turns.{told}
use Rattle.es_ledger.specs.declared.turn.Turn.TheVariants.{Stay}
use Rattle.es_record.specs.AgentView.{AgentView}
use Rattle.es_record.specs.Newest.{newest}
use Rattle.es_rules.specs.Needs.{asks_message, need}
use Rattle.es_cluster.specs.Tied.{GrowsBy}
use Rattle.es_cluster.specs.State.{ClusterView}
use Rattle.es_theorems.specs.Alike.{Alike}
use Rattle.es_theorems.specs.Calm.{Calm}
use Rattle.es_theorems.specs.Doing.{did}
use Rattle.es_theorems.specs.Move.{Move}
use Rattle.es_theorems.specs.Sleepless.{never_sleeps_in}
use Rattle.es_theorems.specs.Together.{Stands}
use Rattle.es_theorems.specs.Alone.{Finds, Letter, Touch, Words, posted_by, touch_by}
use Rattle.es_theorems.specs.Renamed.{got_in, letter_of, local_of, locals_of, name, renamed, renamed_row, sent_in}

-- the row is that of its ticket
abbrev pub HasLine : Ledger → Row → Type 0
HasLine l r = option_map (λ e. e.row) (line_of r.serial (table l)) ≡ Some r

-- it is of a block that was opened, with its words; so is each of these buffers
abbrev pub IsOver : Ledger → Row → Type 0
IsOver l r = (r.block ≤ opened l) × (r.words ≡ size l r.block) × HasLine l r

abbrev pub AreOver : Ledger → Buffers → Type 0
AreOver l [] = ⊤
AreOver l (p ∷ over) = IsOver l p.1 × AreOver l over

-- an agent whose buffers are over blocks that were opened, and were made one after the other
pub record Keeps (l : Ledger) (b : AgentView) : Type 0 where
  pub over : AreOver l b.over
  pub rising : is_rising_from 0 (reverse b.over) ≡ true
  pub newest_is : newest b.over ≤ made b.history

-- so is each agent of a cluster of n that stands, whose history is legal, and of which nothing was drained
pub record Along (n : ℕ) (c : ClusterView) : Type 0 where
  pub stands : Stands c
  pub number : c.ledger.agents ≡ n
  pub legal : LegalSoFar n c.ledger.history
  pub dry : has_drained c.ledger.history ≡ false
  pub each : (i : ℕ) (b : AgentView) → slice_get c.agents i ≡ Some b → Keeps c.ledger.history b

-- agent i, of this view, goes on by this event, with this ticket, by these deeds, which leave the ledger m
pub record AtTurn (n : ℕ) (c : ClusterView) (i : ℕ) (m : Ledger) (b : AgentView) (e : Event) (r : Option Row) (ds : List Deed) : Type 0 where
  pub along : Along n c
  pub here : slice_get c.agents i ≡ Some b
  pub grows : GrowsBy i c.ledger.history m
  pub legal : LegalSoFar n m
  pub part_is : part m i ≡ part c.ledger.history i ++ ds
  pub alike : Alike m (did i ds c.ledger.history)
  pub moved : Move i c.ledger.history b e r ds
  pub never : never_sleeps_in b.plan ≡ true
  pub calm : Calm i m
  pub told : (s : ℕ) → need b ≡ asks_message s → (told c.ledger.history c.ledger.agents b.number s).0 ≢ Stay

-- a ticket that comes is of a block that was opened, and of a new object
abbrev pub HasCome : Ledger → History → Event → Option Row → Type 0
HasCome m h e None = ⊤
HasCome m h e (Some r) = IsOver m r × (made h < made (e ∷ h))

-- a deed that neither posts nor takes a message, and accesses no word
abbrev pub is_silent : Deed → Bool
is_silent (Opens b w s) = true
is_silent (Posts r m) = false
is_silent (Takes s m w) = false
is_silent (Spends s) = true
is_silent (Accesses s i m old) = false
is_silent (Waits s) = true
is_silent (Passes s) = true
is_silent Ends = true
is_silent (Sleeps s i w) = true
is_silent (Notifies s i n k) = true
is_silent (Wakes o) = true
is_silent (TimesOut o) = true

abbrev pub AreSilent : List Deed → Type 0
AreSilent [] = ⊤
AreSilent (d ∷ ds) = (is_silent d ≡ true) × AreSilent ds

-- an access through agent i's ticket of this serial, by the agents' own names
pub record IsTouch (n : ℕ) (l : Ledger) (i : ℕ) (t : Touch) (s j : ℕ) (c : Change) (old : ℕ) : Type 0 where
  pub row : Row
  pub holder : holder_of l s ≡ Some (i, row)
  pub block : name n l row.block ≡ t.block
  pub index : j ≡ t.index
  pub change : c ≡ change_by t.access.edit old
  pub old_is : old ≡ word l row.block j

-- what agent i's deeds are to what agents know and to words: nothing, or a message is posted or taken, or a word is accessed
pub data Does (n : ℕ) (l : Ledger) (i : ℕ) (over : Buffers) (e : Event) (ds : List Deed) : Type 0 where
  is_quiet : AreSilent ds → touch_by over e ≡ None → posted_by over e ≡ [] → Does n l i over e ds
  posts : (r : ℕ) (m : Body) (x : Letter) → ds ≡ Posts r m ∷ [] → touch_by over e ≡ None → posted_by over e ≡ (r, x) ∷ [] → Does n l i over e ds
  takes : (s : ℕ) (m : Option Body) (w : ℕ) (rest : List Deed) → ds ≡ Takes s m w ∷ rest → AreSilent rest → touch_by over e ≡ None → posted_by over e ≡ [] → Does n l i over e ds
  touches : (s j : ℕ) (c : Change) (old : ℕ) (t : Touch) → ds ≡ Accesses s j c old ∷ [] → touch_by over e ≡ Some t → posted_by over e ≡ [] → IsTouch n l i t s j c old → Does n l i over e ds

-- what this is by the agents' own names, where these are the words of the blocks
pub record Means (n : ℕ) (c : ClusterView) (words : Words) (i : ℕ) (m : Ledger) (b : AgentView) (e : Event) (r : Option Row) (ds : List Deed) : Type 0 where
  pub finds : Finds n (locals_of c) words i (local_of n c.ledger.history b) (due b.plan b.history) e (option_map (renamed_row (name n m)) r) (got_in ds)
  pub sends : sent_in (letter_of n m) ds ≡ posted_by (renamed (name n c.ledger.history) b.over) e
  pub comes : HasCome m b.history e r
  pub does : Does n c.ledger.history i (renamed (name n c.ledger.history) b.over) e ds
