-- To believe: the open later collection: where its copy of the graph was taken, and what derefs gave since. The standard has no such
-- command: it allows a collection at any time (Execution).
use Rattle.std.specs.Prelude.{ℕ, Bool, true, false, List, ◌∷◌, Option, Some, None, ◌&&◌, is_none}
use Rattle.es_event.specs.declared.event.Event.{Event}
use Rattle.es_event.specs.declared.event.Event.TheVariants.{JobBegun, CleanupBegun, Received, Did, Refused, Emptied, Taken, JobEnded, Skipped, Closed}
use Rattle.es_event.specs.declared.command.Command.{Command}
use Rattle.es_event.specs.declared.command.Command.TheVariants.{CollectLater}
use Rattle.es_event.specs.Commands.{collects}
use Rattle.es_event.specs.History.{History, latest, since}
use Rattle.es_event.specs.Derefs.{derefs}

-- no other command takes a copy
abbrev pub is_later : Command → Bool
is_later CollectLater = true
is_later _ = false

-- a copy is taken
abbrev pub begins_later : Event → Bool
begins_later (JobBegun j) = false
begins_later (CleanupBegun q) = false
begins_later (Received t v) = false
begins_later (Did (c, vs, r)) = is_later c
begins_later (Refused code) = false
begins_later (Emptied ids) = false
begins_later (Taken n held) = false
begins_later JobEnded = false
begins_later (Skipped j t) = false
begins_later Closed = false

-- a copy is of the history that ends with its command
abbrev pub taken_by : Command → History → Option (Option History)
taken_by CollectLater h = Some (Some h)
taken_by _ h = None

-- what the event says of the open collection: a copy opens one, an emptying ends it
abbrev pub snapshots : History → Event → Option (Option History)
snapshots earlier (JobBegun j) = None
snapshots earlier (CleanupBegun q) = None
snapshots earlier (Received t v) = None
snapshots earlier (Did (c, vs, r)) = taken_by c (Did (c, vs, r) ∷ earlier)
snapshots earlier (Refused code) = None
snapshots earlier (Emptied ids) = Some None
snapshots earlier (Taken n held) = None
snapshots earlier JobEnded = None
snapshots earlier (Skipped j t) = None
snapshots earlier Closed = None

-- the history of which the open collection has its copy, where one is open
abbrev pub snapshot : History → Option History
snapshot h = latest snapshots None h

-- what derefs gave since the newest copy was taken
abbrev pub derefed_since : History → List ℕ
derefed_since h = since begins_later derefs h

-- the command empties what is dead, as no later collection is open
abbrev pub collects_now : History → Command → Bool
collects_now h c = collects c && is_none (snapshot h)
