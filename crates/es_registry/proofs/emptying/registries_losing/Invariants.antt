use Rattle.std.proofs.Common.{◌≡◌, ℕ, take}
use Rattle.std.specs.BTreeSet.{contains}
use Rattle.std.specs.List.{list_any}
use Rattle.std.specs.Ordering.{nat_cmp}
use Rattle.es_registry.specs.Slots.{is_losing, passes_at}
use Rattle.es_registry.proofs.emptying.registries_losing.Given as goal

abbrev pub invariant-loop-place : goal.invariant-loop-place
invariant-loop-place l = (r : ℕ) → contains nat_cmp l.registries r ≡ list_any (passes_at (is_losing l.named r) l.slots) (take l.place-index l.places)
