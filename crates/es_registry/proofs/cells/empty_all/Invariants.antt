use Rattle.std.proofs.Common.{◌≡◌, ◌+◌, ℕ, take, slice_get, vec_len, vec_capacity}
use Rattle.std.specs.List.{count_by}
use Rattle.std.specs.Option.{option_map}
use Rattle.es_value.specs.Ids.{is_in}
use Rattle.es_registry.specs.Slots.{emptied, changed_if, is_awaiting}
use Rattle.es_registry.proofs.cells.empty_all.Given as goal

abbrev pub invariant-loop-place : goal.invariant-loop-place
invariant-loop-place l = record {
  changed : (k : ℕ) → slice_get l.slots.items k ≡ option_map (changed_if (emptied l.named) (is_in (take l.place-index l.places) k)) (slice_get l.fn.slots.items k);
  counted : count_by is_awaiting l.fn.slots.items + l.lost ≡ count_by is_awaiting l.slots.items;
  len : vec_len l.slots ≡ vec_len l.fn.slots;
  capacity : vec_capacity l.slots ≡ vec_capacity l.fn.slots;
}
