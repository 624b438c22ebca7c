use Rattle.std.proofs.Common.{◌≡◌, ℕ, false, take, ◌&&◌, nat_eq, if◌then◌else◌, slice_get}
use Rattle.std.specs.Option.{option_map}
use Rattle.es_value.specs.Ids.{is_in}
use Rattle.es_registry.specs.Places.{waits}
use Rattle.es_registry.specs.Slots.{passes_at, has_token, unregistered_by, changed_if}
use Rattle.es_registry.proofs.unregistering.take_out.Given as goal

abbrev pub invariant-loop-place : goal.invariant-loop-place
invariant-loop-place l = record {
  changed : (k : ℕ) → slice_get l.cells.all k ≡ option_map (changed_if (unregistered_by l.registry l.token) (is_in (take l.place-index l.places) k)) (slice_get l.fn.cells.all k);
  waited : (q k : ℕ) → waits l.waiting q k ≡ (if passes_at (has_token l.registry l.token) l.fn.cells.all k && (nat_eq l.registry q && is_in (take l.place-index l.places) k) then false else waits l.fn.waiting q k);
}
