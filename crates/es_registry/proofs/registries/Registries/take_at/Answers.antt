use Rattle.std.proofs.Common.{◌≡◌, ℕ, false, ◌&&◌, nat_eq, if◌then◌else◌}
use Rattle.es_registry.specs.Places.{waits}
use Rattle.es_registry.specs.Slots.{passes_at, is_of}
use Rattle.es_registry.proofs.Indexing.{taken_stays_indexed}
use Rattle.es_registry.proofs.registries.Registries.take_at.Goals as goal

pub invariant_of-self : goal.invariant_of-self
invariant_of-self c =
    let old = c.self.inside.waiting in
    let after : (q j : ℕ) → waits c.remove_at.new.waiting q j ≡ (if passes_at (is_of q) c.self.inside.cells.all j && nat_eq c.args.place j then false else waits old q j) = rw c.all.ensures.all at c.remove_at.ensures in
    rw c.take.ensures.all
    (taken_stays_indexed c.self.inside.cells.all c.self.inside.tokens old c.remove_at.new.waiting c.args.place c.self.invariant after)
