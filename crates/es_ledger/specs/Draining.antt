-- To believe: what is drained once all agents have ended.
use Rattle.std.specs.Prelude.{ℕ, zero, suc, List, [], ◌∷◌}
use Rattle.es_event.specs.declared.ledger_event.Body.{Body}
use Rattle.es_event.specs.declared.ledger_event.Body.TheVariants.{Plain, Block}
use Rattle.es_event.specs.declared.ledger_event.LedgerEvent.TheVariants.{Spent, Drained}
use Rattle.es_event.specs.Ledger.{Ledger, port_of}

-- one message is taken out, and a ticket in it is spent next
abbrev pub drained_one : Ledger → ℕ → ℕ → Body → Ledger
drained_one l s r (Plain v) = Drained s r ∷ l
drained_one l s r (Block b k) = Spent k ∷ Drained s r ∷ l

-- these messages of the port of s and r, in order
abbrev pub drained_each : Ledger → ℕ → ℕ → List Body → Ledger
drained_each l s r [] = l
drained_each l s r (m ∷ ms) = drained_each (drained_one l s r m) s r ms

-- all messages to r of the senders below n, by rising sender, and of each in order of posting
abbrev pub drained_to : Ledger → ℕ → ℕ → Ledger
drained_to l r zero = l
drained_to l r (suc n) = drained_each (drained_to l r n) n r (port_of (drained_to l r n) n r)

-- all messages to the receivers below m, by rising receiver, of n agents
abbrev pub drained_below : Ledger → ℕ → ℕ → Ledger
drained_below l n zero = l
drained_below l n (suc m) = drained_to (drained_below l n m) m n

-- all messages among n agents
abbrev pub after_drain : Ledger → ℕ → Ledger
after_drain l n = drained_below l n n
