-- Internal: what is handed to an agent is what it asks for, and the agent's stake has the tickets of both.
use Rattle.std.specs.Prelude.{ℕ, ◌≡◌, None}
use Rattle.es_value.specs.declared.value.Value.{Value}
use Rattle.es_value.specs.Values.{identity}
use Rattle.es_ticket.specs.Stakes.{StakeView}
use Rattle.es_record.specs.AgentView.{AgentView}
use Rattle.es_rules.specs.Needs.{need, asks_message, TakesTicket, TakesWord, TakesWaitResult, TakesDone}
use Rattle.es_cluster.specs.Members.{Holds, HoldsBeside}
use Rattle.calls.specs.declared.given.Given.{Given}
use Rattle.calls.specs.declared.given.Given.TheVariants.{Alone, Block, Plain, Word, WaitEnded, Done, Skip, Wait, End}

-- the agent asks for a message
abbrev pub AsksMessage : AgentView → Type 0
AsksMessage b = (s : ℕ) × (need b ≡ asks_message s)

-- a value that may come in a message, and an agent that asks for one
pub record Comes (v : Value) (b : AgentView) : Type 0 where
  pub plain : identity v ≡ None
  pub message : AsksMessage b

-- what an agent asks for, and whose tickets its stake has
pub record Ready (Asked Held : Type 0) : Type 0 where
  pub asked : Asked
  pub held : Held

abbrev pub Suits : {L : Type 0} → Given L → AgentView → StakeView → Type 0
Suits Alone b s = Holds b s
Suits (Block ticket) b s = Ready (TakesTicket (need b) ticket) (HoldsBeside ticket b s)
Suits (Plain v) b s = Ready (Comes v b) (Holds b s)
Suits (Word w) b s = Ready (TakesWord (need b)) (Holds b s)
Suits (WaitEnded r) b s = Ready (TakesWaitResult (need b)) (Holds b s)
Suits Done b s = Ready (TakesDone (need b)) (Holds b s)
Suits Skip b s = Ready (AsksMessage b) (Holds b s)
Suits Wait b s = Holds b s
Suits End b s = Holds b s
