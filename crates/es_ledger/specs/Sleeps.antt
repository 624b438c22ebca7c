-- To believe: what becomes of an agent that is to sleep at a word, and of one that sleeps.
use Rattle.std.specs.Prelude.{ℕ, Bool, true, false, ◌==◌, ◌∷◌, Option, Some, None, is_some, if◌then◌else◌}
use Rattle.es_event.specs.declared.access.Change.TheVariants.{Keep}
use Rattle.es_event.specs.declared.ledger_event.LedgerEvent.TheVariants.{Accessed, Acted}
use Rattle.es_event.specs.declared.ledger_event.Act.TheVariants.{Slept, Woke, TimedOut}
use Rattle.es_event.specs.declared.row.Row.{Row}
use Rattle.es_event.specs.Ledger.{Ledger, waits, word}
use Rattle.es_event.specs.Waiters.{asleep, is_listed}
use Rattle.es_event.specs.LegalLedger.{is_chosen}
use Rattle.es_ledger.specs.declared.turn.Turn.{Turn}
use Rattle.es_ledger.specs.declared.turn.Turn.TheVariants.{Ready, Stay, Skip}

-- agent a reads the word through its ticket of this row, and sleeps where it is this one
abbrev pub laid_down : Ledger → ℕ → Row → ℕ → ℕ → Bool × Ledger
laid_down l a r i w =
    if word l r.block i == w then (true, Acted a (Slept r.serial i w) ∷ l) else (false, Accessed r.serial i Keep (word l r.block i) ∷ l)

-- where the sleep of agent a stands: it was taken; or it sleeps on; or its time-out has passed, where of n agents none can go on and it is
-- the lowest that has not ended
abbrev pub roused : Ledger → ℕ → ℕ → Turn × Ledger
roused l n a =
    if is_listed l a then (if is_chosen l n a then (Skip, Acted a TimedOut ∷ l) else (Stay, l)) else (Ready, Acted a Woke ∷ l)

-- the answer of one that asks to sleep, and is not told that another word is there
abbrev pub told_so : Turn × Ledger → Option Turn × Ledger
told_so p = (Some p.0, p.1)

-- of n agents, agent a asks to sleep at a word through its ticket of this row: it is told nothing where another word is there; else its
-- sleep is recorded before it is judged; a repeated question records nothing new, nor does that of an agent that waits for a message
abbrev pub rested : Ledger → ℕ → ℕ → Row → ℕ → ℕ → Option Turn × Ledger
rested l n a r i w =
    if asleep l a then told_so (roused l n a)
    else if is_some (waits l a) then (Some Stay, l)
    else if word l r.block i == w then told_so (roused (Acted a (Slept r.serial i w) ∷ l) n a)
    else (None, Accessed r.serial i Keep (word l r.block i) ∷ l)
