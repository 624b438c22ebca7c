use Rattle.std.proofs.Common.{◌≡◌, ◌<◌, ℕ, [], if◌then◌else◌, take}
use Rattle.es_value.specs.Ids.{is_in}
use Rattle.es_ephemeron.specs.Slots.{place_at}
use Rattle.es_ephemeron.proofs.slots.clear.Given as goal

abbrev pub invariant-loop-key : goal.invariant-loop-key
invariant-loop-key g l =
    (p : ℕ) → 0 < p → (place_at l.slots.items p).records ≡ (if is_in (take l.key-index l.keys) p then [] else (place_at l.initial.slots.items p).records)
