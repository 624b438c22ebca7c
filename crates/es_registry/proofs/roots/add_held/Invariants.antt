use Rattle.std.proofs.Common.{◌≡◌, ◌++◌, take}
use Rattle.es_registry.proofs.Listing.{held_at}
use Rattle.es_registry.proofs.roots.add_held.Given as goal

abbrev pub invariant-loop-place : goal.invariant-loop-place
invariant-loop-place l = l.found.items ≡ l.fn.found.items ++ held_at l.slots (take l.place-index l.places)
