-- To believe: the entries of WeakMaps and the members of WeakSets (WeakMap Objects, WeakSet Objects).
use Rattle.std.specs.Prelude.{ℕ, Bool, true, false, ◌&&◌, ◌==◌, List, [], ◌∷◌, Option, Some, None, if◌then◌else◌}
use Rattle.std.specs.Option.{option_map}
use Rattle.es_value.specs.declared.value.Value.{Value}
use Rattle.es_value.specs.declared.value.Value.TheVariants.{Object}
use Rattle.es_event.specs.declared.event.Event.{Event}
use Rattle.es_event.specs.declared.event.Event.TheVariants.{JobBegun, CleanupBegun, Received, Did, Refused, Emptied, Taken, JobEnded, Skipped, Closed}
use Rattle.es_event.specs.declared.command.Command.{Command}
use Rattle.es_event.specs.declared.command.Command.TheVariants.{WeakMapSet, WeakMapDelete, WeakSetAdd, WeakSetDelete}
use Rattle.es_event.specs.History.{History, latest_at}
use Rattle.es_event.specs.Identities.{identity, is_gone}

-- the same key of the same WeakMap, or the same member of the same WeakSet
abbrev pub same_pair : ℕ × ℕ → ℕ × ℕ → Bool
same_pair p q = (p.0 == q.0) && (p.1 == q.1)

-- Entries

-- the WeakMap and the key of a set or a delete, and the new value (WeakMap.prototype.set, WeakMap.prototype.delete); no
-- other command writes an entry
abbrev pub entered_by : Command → List Value → Option ((ℕ × ℕ) × Option Value)
entered_by (WeakMapSet m k y) (Object i ∷ w ∷ v ∷ []) = option_map (λ j. ((i, j), Some v)) (identity w)
entered_by (WeakMapDelete to m k) (Object i ∷ w ∷ []) = option_map (λ j. ((i, j), None)) (identity w)
entered_by _ vs = None

-- the entry that the event writes
abbrev pub entered : Event → Option ((ℕ × ℕ) × Option Value)
entered (JobBegun j) = None
entered (CleanupBegun q) = None
entered (Received t v) = None
entered (Did (c, vs, r)) = entered_by c vs
entered (Refused code) = None
entered (Emptied ids) = None
entered (Taken n held) = None
entered JobEnded = None
entered (Skipped j t) = None
entered Closed = None

-- that of the newest set or delete of key k in the WeakMap m
abbrev pub first_entry : History → ℕ → ℕ → Option Value
first_entry h m k = latest_at same_pair (λ earlier e. entered e) None h (m, k)

-- the value under key k in the WeakMap m, none where k was emptied (WeakMap.prototype.get)
abbrev pub entry : History → ℕ → ℕ → Option Value
entry h m k = if is_gone h k then None else first_entry h m k

-- Members

-- the WeakSet and the member of an add or a delete, and whether it is one now (WeakSet.prototype.add,
-- WeakSet.prototype.delete); no other command writes a member
abbrev pub joined_by : Command → List Value → Option ((ℕ × ℕ) × Bool)
joined_by (WeakSetAdd s y) (Object i ∷ w ∷ []) = option_map (λ j. ((i, j), true)) (identity w)
joined_by (WeakSetDelete to s y) (Object i ∷ w ∷ []) = option_map (λ j. ((i, j), false)) (identity w)
joined_by _ vs = None

-- the member that the event writes
abbrev pub joined : Event → Option ((ℕ × ℕ) × Bool)
joined (JobBegun j) = None
joined (CleanupBegun q) = None
joined (Received t v) = None
joined (Did (c, vs, r)) = joined_by c vs
joined (Refused code) = None
joined (Emptied ids) = None
joined (Taken n held) = None
joined JobEnded = None
joined (Skipped j t) = None
joined Closed = None

-- by the newest add or delete of v in the WeakSet s
abbrev pub first_member : History → ℕ → ℕ → Bool
first_member h s v = latest_at same_pair (λ earlier e. joined e) false h (s, v)

-- v is in the WeakSet s, where v was not emptied (WeakSet.prototype.has)
abbrev pub is_member : History → ℕ → ℕ → Bool
is_member h s v = if is_gone h v then false else first_member h s v
