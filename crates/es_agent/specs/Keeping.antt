-- Internal: what an agent keeps for an open later collection.
use Rattle.std.specs.Prelude.{ℕ, ◌≡◌, ◌<◌, ⊤, List, ◌∷◌, Option, Some, None, if◌then◌else◌}
use Rattle.std.specs.List.{filter}
use Rattle.std.specs.Option.{option_map}
use Rattle.std.specs.Arc.{arc_value}
use Rattle.es_event.specs.History.{History}
use Rattle.es_event.specs.Identities.{is_made}
use Rattle.es_event.specs.Later.{derefed_since}
use Rattle.es_mark.specs.Made.{is_made as was_made}
use Rattle.es_parmark.specs.Snapshot.{SnapshotView}
use Rattle.es_record.specs.AgentView.{AgentView}
use Rattle.es_agent.specs.declared.recorder.LaterCopy.{LaterCopy}
use Rattle.es_agent.specs.Later.{IsCopyAt}

-- the copy, and what derefs gave since, the newest first
abbrev pub kept_of : Option LaterCopy → Option (SnapshotView × List ℕ)
kept_of o = option_map (λ k. (arc_value k.copy, k.derefed.events)) o

-- there is room for one more that a deref gives
abbrev pub HasRoom : Option LaterCopy → Type 0
HasRoom None = ⊤
HasRoom (Some k) = 0 < k.derefed.room

-- with what a deref gave, if the copy, of so many identities, has it
abbrev pub noted : ℕ → Option ℕ → List ℕ → List ℕ
noted made None ids = ids
noted made (Some i) ids = if was_made made i then i ∷ ids else ids

-- a copy is kept exactly where a collection is open, with what derefs gave since of what it has
abbrev pub IsKept : AgentView → Option History → Option (SnapshotView × List ℕ) → Type 0
IsKept b None None = ⊤
IsKept b None (Some k) = ⊥
IsKept b (Some p) None = ⊥
IsKept b (Some p) (Some k) = IsCopyAt b p k.0 × (k.1 ≡ filter (is_made p) (derefed_since b.history))
