-- To believe: what a deref gave (WeakRefDeref).
use Rattle.std.specs.Prelude.{ℕ, List, []}
use Rattle.es_event.specs.declared.event.Answer.{Answer}
use Rattle.es_event.specs.declared.event.Event.{Event}
use Rattle.es_event.specs.declared.event.Event.TheVariants.{JobBegun, CleanupBegun, Received, Did, Refused, Emptied, Taken, JobEnded, Skipped, Closed}
use Rattle.es_event.specs.declared.command.Command.{Command}
use Rattle.es_event.specs.declared.command.Command.TheVariants.{Deref}
use Rattle.es_event.specs.WeakRefs.{identity_given}

-- no other command derefs
abbrev pub derefs_by : Command → Answer → List ℕ
derefs_by (Deref to w) r = identity_given r
derefs_by _ r = []

-- the identity that a deref gave, where the event is one
abbrev pub derefs : Event → List ℕ
derefs (JobBegun j) = []
derefs (CleanupBegun q) = []
derefs (Received t v) = []
derefs (Did (c, vs, r)) = derefs_by c r
derefs (Refused code) = []
derefs (Emptied ids) = []
derefs (Taken n held) = []
derefs JobEnded = []
derefs (Skipped j t) = []
derefs Closed = []
