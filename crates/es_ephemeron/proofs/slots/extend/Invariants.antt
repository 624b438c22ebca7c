use Rattle.std.proofs.Common.{◌≡◌, ◌≤◌, ℕ, length}
use Rattle.es_ephemeron.specs.Slots.{place_at}
use Rattle.es_ephemeron.proofs.slots.extend.Given as goal

abbrev pub invariant-loop : goal.invariant-loop
invariant-loop g l = record {
  same : (p : ℕ) → (place_at l.slots.items p).records ≡ (place_at l.initial.slots.items p).records;
  rooms : (p : ℕ) → (place_at l.initial.slots.items p).room ≤ (place_at l.slots.items p).room;
  counted : length l.slots.items ≡ l.counter;
}
