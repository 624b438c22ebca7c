-- To believe: what an agent is told that asks for a message.
use Rattle.std.specs.Prelude.{ℕ, Bool, false, ◌&&◌, ◌||◌, ◌==◌, ◌∷◌, is_some, if◌then◌else◌}
use Rattle.std.specs.Option.{option_map_or}
use Rattle.es_event.specs.declared.ledger_event.LedgerEvent.TheVariants.{Acted}
use Rattle.es_event.specs.declared.ledger_event.Act.TheVariants.{Waiting, Passed}
use Rattle.es_event.specs.Ledger.{Ledger, waits}
use Rattle.es_event.specs.Waiters.{asleep}
use Rattle.es_event.specs.LegalLedger.{has_message, skips}
use Rattle.es_ledger.specs.declared.turn.Turn.{Turn}
use Rattle.es_ledger.specs.declared.turn.Turn.TheVariants.{Ready, Stay, Skip}

-- an agent begins to wait when it first asks at an empty port; a repeated question records nothing, nor does that of an agent that sleeps
abbrev pub asked : Ledger → ℕ → ℕ → Ledger
asked l a s = if is_some (waits l a) || asleep l a then l else Acted a (Waiting s) ∷ l

-- it waits for this sender
abbrev pub waits_for : Ledger → ℕ → ℕ → Bool
waits_for l a s = option_map_or (λ t. t == s) (waits l a) false

-- where its wait stands: of n agents, a skips its job, or stays; one that waits for another sender stays, as it has one wait at
-- a time
abbrev pub judged : Ledger → ℕ → ℕ → ℕ → Turn × Ledger
judged l n a s = if waits_for l a s && skips l n a s then (Skip, Acted a (Passed s) ∷ l) else (Stay, l)

-- of n agents, agent a asks for a message of s: a message that is there is ready, whoever ended; else its wait is recorded
-- before it is judged
abbrev pub told : Ledger → ℕ → ℕ → ℕ → Turn × Ledger
told l n a s = if has_message l s a then (Ready, l) else judged (asked l a s) n a s
