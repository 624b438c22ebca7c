-- Internal: what the writer of what turns tell knows, and what it says.
use Rattle.std.specs.Prelude.{ℕ, ◌≡◌, ◌<◌, ⊤, List, [], ◌∷◌, ◌++◌, length, reverse, take}
use Rattle.std.specs.List.{AllByRecursion}
use Rattle.es_event.specs.Ledger.{Ledger, opened}
use Rattle.es_record.specs.AgentView.{AgentView}
use Rattle.es_trace.specs.declared.scribe.Scribe.{Scribe}
use Rattle.es_trace.specs.Keeping.{Keeps}
use Rattle.es_trace.specs.Released.{KnowsBlocks}
use Rattle.es_cluster.specs.State.{ClusterView, names_of}
use Rattle.es_cluster.specs.Watched.{TakenTurn}
use Rattle.es_turns.specs.declared.blocks.Blocks.{Blocks}
use Rattle.es_turns.specs.declared.chronicle.Chronicle.{Chronicle}
use Rattle.es_turns.specs.Told.{IsTurnTold}

-- nothing has happened
pub record IsUnbegun (c : ClusterView) : Type 0 where
  pub agents : AllByRecursion (λ (b : AgentView). b.history ≡ []) c.agents
  pub ledger : c.ledger.history ≡ []

-- each agent has a scribe that is where its history leads
abbrev pub HaveScribes : List (List ℕ) → List AgentView → List Scribe → Type 0
HaveScribes names [] [] = ⊤
HaveScribes names [] (s ∷ ss) = ⊥
HaveScribes names (b ∷ bs) [] = ⊥
HaveScribes names (b ∷ bs) (s ∷ ss) = Keeps names b.plan b.history s × HaveScribes names bs ss

-- what is kept of the ledger's blocks says what its history says
pub record Says (l : Ledger) (b : Blocks) : Type 0 where
  pub tickets : KnowsBlocks l b.tickets
  pub opened : b.opened ≡ opened l

-- the history when it had n events
abbrev pub so_far : ℕ → Ledger → Ledger
so_far n l = reverse (take n (reverse l))

pub record Knows (c : ClusterView) (w : Chronicle) : Type 0 where
  pub names : w.names.items ≡ names_of c.agents
  pub scribes : HaveScribes w.names.items c.agents w.scribes.items
  pub written : w.written ≡ length c.ledger.history
  pub blocks : Says c.ledger.history w.blocks

-- nothing was written since
abbrev pub Expects : ℕ → ClusterView → Chronicle → Chronicle → Type 0
Expects n c was now = Knows c was × (now ≡ was) × (n < length c.agents)

-- the one is the other with such a text behind it
abbrev pub Grows : (old new : List ℕ) → (List ℕ → Type 0) → Type 0
Grows old new Is = (text : List ℕ) × Is text × (new ≡ old ++ text)

-- what the turn tells was written
pub record Tells (t : TakenTurn) (was now : Chronicle) : Type 0 where
  pub view : now.view ≡ was.view
  pub names : now.names.items ≡ was.names.items
  pub text : Grows was.text.items now.text.items (IsTurnTold was.view was.names.items t)
