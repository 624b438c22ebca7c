-- To believe: the event that opens a later collection, the copy of the open one, what derefs gave since, and what its marks have.
use Rattle.std.specs.Prelude.{ℕ, ◌≡◌, ◌↔◌, Bool, true, List, [], Some, reverse}
use Rattle.std.specs.List.{filter}
use Rattle.es_event.specs.declared.event.Answer.TheVariants.{Nothing}
use Rattle.es_event.specs.declared.event.Event.{Event}
use Rattle.es_event.specs.declared.event.Event.TheVariants.{Did}
use Rattle.es_event.specs.declared.command.Command.TheVariants.{CollectLater}
use Rattle.es_event.specs.History.{History}
use Rattle.es_event.specs.Identities.{is_made, made}
use Rattle.es_event.specs.Jobs.{receivers}
use Rattle.es_event.specs.Late.{IsReachedWith}
use Rattle.es_event.specs.Later.{snapshot, derefed_since}
use Rattle.es_mark.specs.Marks.{is_marked}
use Rattle.es_parmark.specs.Snapshot.{SnapshotView, IsCopyOf, are_made}
use Rattle.es_record.specs.AgentView.{AgentView}
use Rattle.es_record.specs.Graph.{HasRoots, HasEdges, HasEntries, as_at}

-- the event by which a later collection is opened
abbrev pub opening : Event
opening = Did (CollectLater, [], Nothing)

-- the copy is of the agent's graph as it was at p
abbrev pub IsCopyAt : AgentView → History → SnapshotView → Type 0
IsCopyAt b p s = IsCopyOf (made p) (HasRoots (as_at b p)) (HasEdges (as_at b p)) (HasEntries (as_at b p)) s

-- it is the copy of the open later collection
abbrev pub IsLaterCopy : AgentView → SnapshotView → Type 0
IsLaterCopy b s = (p : History) → snapshot b.history ≡ Some p → IsCopyAt b p s

-- these are what derefs gave since, of what was made then, in order
abbrev pub AreDerefed : AgentView → List ℕ → Type 0
AreDerefed b ids = (p : History) → snapshot b.history ≡ Some p → reverse ids ≡ filter (is_made p) (derefed_since b.history)

-- all of these were made when the copy was taken
abbrev pub AreThen : AgentView → List ℕ → Type 0
AreThen b ids = (p : History) → snapshot b.history ≡ Some p → are_made (made p) ids ≡ true

-- of what was made when the copy was taken, the marks have exactly what is reached in it, with what derefs gave since
abbrev pub AreLateReached : AgentView → List Bool → Type 0
AreLateReached b marks =
    (p : History) → snapshot b.history ≡ Some p → (i : ℕ) → is_made p i ≡ true → (is_marked marks i ≡ true) ↔ IsReachedWith (receivers b.plan.jobs) p (derefed_since b.history) i
