-- To believe: what an event takes from the inbox and leaves in the outbox.
use Rattle.std.specs.Prelude.{ℕ, pos, ◌≡◌, List, [], ◌∷◌, ◌++◌}
use Rattle.es_value.specs.declared.value.Value.{Value}
use Rattle.es_value.specs.declared.value.Value.TheVariants.{Number}
use Rattle.es_event.specs.declared.command.Command.{Command}
use Rattle.es_event.specs.declared.event.Event.{Event}
use Rattle.es_event.specs.declared.event.Event.TheVariants.{JobBegun, CleanupBegun, Received, Did, Refused, Emptied, Taken, JobEnded, Skipped, Closed}
use Rattle.es_event.specs.Commands.{first}
use Rattle.es_event.specs.History.{History}
use Rattle.embed.specs.declared.drive.Outside.{Outside}

-- the value that a command posts, of those that it read; no other posts one
abbrev pub posted : Command → List Value → List Value
posted (Command.Post a y) vs = first vs ∷ []
posted _ vs = []

-- a receipt takes the next number, which stands last in the inbox; a job is skipped only where no number is left; a post puts its
-- value last into the outbox
abbrev pub Meets : Event → Outside → Outside → Type 0
Meets (Received t v) old new = (n : ℕ) × (v ≡ Number (pos n)) × (old.inbox.items ≡ new.inbox.items ++ n ∷ []) × (new.outbox ≡ old.outbox)
Meets (Skipped j t) old new = (old.inbox.items ≡ []) × (new.inbox.items ≡ []) × (new.outbox ≡ old.outbox)
Meets (Did (c, vs, r)) old new = (new.inbox ≡ old.inbox) × (new.outbox.items ≡ old.outbox.items ++ posted c vs)
Meets (JobBegun j) old new = new ≡ old
Meets (CleanupBegun q) old new = new ≡ old
Meets (Refused code) old new = new ≡ old
Meets (Emptied ids) old new = new ≡ old
Meets (Taken n held) old new = new ≡ old
Meets JobEnded old new = new ≡ old
Meets Closed old new = new ≡ old

-- so does each event of the history, in its order
abbrev pub MeetsAll : History → Outside → Outside → Type 0
MeetsAll [] old new = new ≡ old
MeetsAll (e ∷ earlier) old new = (m : Outside) × MeetsAll earlier old m × Meets e m new
