use Rattle.std.proofs.Common.{◌≡◌, ◌<◌, ◌≤◌, ◌-◌, ℕ, None, if◌then◌else◌}
use Rattle.es_value.specs.Ids.{is_in}
use Rattle.es_ephemeron.specs.Ephemerons.{held_by}
use Rattle.es_ephemeron.specs.Slots.{place_at}
use Rattle.es_ephemeron.proofs.slots.release.Given as goal

abbrev pub invariant-loop-slot : goal.invariant-loop-slot
invariant-loop-slot g l = record {
  done : (n p : ℕ) → p - 1 < l.slot-index → held_by (place_at l.slot-items p).records n ≡ (if is_in l.holders n then None else held_by (place_at l.initial.slot-items p).records n);
  left : (p : ℕ) → l.slot-index ≤ p - 1 → place_at l.slot-items p ≡ place_at l.initial.slot-items p;
}
