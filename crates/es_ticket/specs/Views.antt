-- Internal: what the ledger's seat and the agents' seats know, and what each step tells.
use Rattle.std.specs.Prelude.{◌≡◌, ◌≢◌, ℕ, suc, ◌<◌, List, [], ◌∷◌, true, false}
use mathlib.Core.Option.{Option, some, none}
use lib.ListN.{get_elem?}
use Rattle.atomic_table.specs.Table.{State, Me, Step}
use Rattle.std.specs.declared.vec.Vec.{Vec}
use Rattle.std.specs.declared.alloc.Global.{Global}
use Rattle.es_event.specs.declared.row.Row.{Row}
use Rattle.es_event.specs.declared.row.Entry.{Entry}
use Rattle.es_ticket.specs.declared.view.View.{View}
use Rattle.es_ticket.specs.declared.view.LedgerPart.{LedgerPart}
use Rattle.es_ticket.specs.declared.view.AgentPart.{AgentPart}
use Rattle.es_event.specs.Rows.{held}

abbrev pub no_ledger : LedgerPart
no_ledger = record { keeps = false; rows = []; word = 0; agents = 0 }

abbrev pub no_agent : AgentPart
no_agent = record { claims = false; number = 0; mine = [] }

abbrev pub nobody : View
nobody = record { ledger = no_ledger; agent = no_agent }

abbrev pub ledger_part : List Entry → ℕ → ℕ → LedgerPart
ledger_part rows word agents = record { keeps = true; rows = rows; word = word; agents = agents }

abbrev pub agent_part : ℕ → List Row → AgentPart
agent_part number mine = record { claims = true; number = number; mine = mine }

abbrev pub ledger_view : List Entry → ℕ → ℕ → View
ledger_view rows word agents = record { ledger = ledger_part rows word agents; agent = no_agent }

abbrev pub agent_view : ℕ → List Row → View
agent_view number mine = record { ledger = no_ledger; agent = agent_part number mine }

abbrev pub both_view : List Entry → ℕ → ℕ → ℕ → List Row → View
both_view rows word agents number mine = record { ledger = ledger_part rows word agents; agent = agent_part number mine }

abbrev pub ledger_only : View → View
ledger_only v = record { ledger = v.ledger; agent = no_agent }

abbrev pub agent_only : View → View
agent_only v = record { ledger = no_ledger; agent = v.agent }

abbrev pub one_more : View → View
one_more v = ledger_view v.ledger.rows v.ledger.word (suc v.ledger.agents)

abbrev pub newcomer : View → View
newcomer v = agent_view v.ledger.agents []

-- where the parts are, the table, the word, and how many agents there are
pub record Tie : Type 0 where
  pub desk : ℕ
  pub seats : ℕ → ℕ
  pub rows : List Entry
  pub word : ℕ
  pub agents : ℕ

-- one seat knows the table
pub record FitsLedger (t : Tie) (by : ℕ) (p : LedgerPart) : Type 0 where
  pub here : by ≡ t.desk
  pub rows : p.rows ≡ t.rows
  pub word : p.word ≡ t.word
  pub agents : p.agents ≡ t.agents

-- one seat knows an agent's rows. They are the table's, unless the word names this agent
pub record FitsAgent (t : Tie) (by : ℕ) (p : AgentPart) : Type 0 where
  pub here : t.seats p.number ≡ by
  pub below : p.number < t.agents
  pub mine : t.word ≢ suc p.number → p.mine ≡ held p.number t.rows

abbrev pub Fits : Tie → ℕ → View → Type 0
Fits t by v = (v.ledger.keeps ≡ true → FitsLedger t by v.ledger) × (v.agent.claims ≡ true → FitsAgent t by v.agent)

abbrev pub AllFit : Tie → List View → Type 0
AllFit t views = (by : ℕ) (v : View) → get_elem? views by ≡ some v → Fits t by v

module _ {S : Type 0} where
  abbrev pub Kept : State S View → Type 0
  Kept s = (t : Tie) × (s.words ≡ t.word ∷ []) × AllFit t s.views

abbrev pub Looked : {S : Type 0} → Me S View → Me S View → Type 0
Looked v w = (w ≡ v) × (v.0.ledger.word ≡ 0 → v.0.ledger.keeps ≡ true → v.0.agent.claims ≡ true → v.0.agent.mine ≡ held v.0.agent.number v.0.ledger.rows)

abbrev pub rows_of : Option (Vec Entry Global) → List Entry
rows_of (some v) = v.items
rows_of none = []

-- the table is the one that was said, and the word names the agent
abbrev pub Offered : Step (Vec Entry Global) → Me (Vec Entry Global) View → Me (Vec Entry Global) View → Type 0
Offered s v w = w ≡ (record { ledger = ledger_part (rows_of s.said) s.second v.0.ledger.agents; agent = v.0.agent }, v.1)

abbrev pub Taken : {S : Type 0} → Me S View → Me S View → Type 0
Taken v w = w ≡ (record { ledger = v.0.ledger; agent = agent_part v.0.agent.number (held v.0.agent.number v.0.ledger.rows) }, v.1)

abbrev pub Settled : {S : Type 0} → Me S View → Me S View → Type 0
Settled v w = w ≡ (record { ledger = ledger_part v.0.ledger.rows 0 v.0.ledger.agents; agent = v.0.agent }, v.1)

-- the ledger's seat between two calls, and an agent's
abbrev pub IsLedger : {S : Type 0} → Me S View → Type 0
IsLedger m = m ≡ (ledger_view m.0.ledger.rows 0 m.0.ledger.agents, [])

abbrev pub IsAgent : {S : Type 0} → Me S View → Type 0
IsAgent m = m ≡ (agent_view m.0.agent.number m.0.agent.mine, [])
