use Rattle.std.proofs.Common.{◌≡◌, ◌&&◌, ℕ, not, take}
use Rattle.std.specs.BTreeSet.{contains}
use Rattle.std.specs.Ordering.{nat_cmp}
use Rattle.es_value.specs.Ids.{is_in}
use Rattle.es_registry.proofs.emptying.leave_out.Given as goal

abbrev pub invariant-loop-index : goal.invariant-loop-index
invariant-loop-index l = (r : ℕ) → contains nat_cmp l.registries r ≡ (contains nat_cmp l.fn.registries r && not (is_in (take l.index l.queue.items) r))
