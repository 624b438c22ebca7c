use Rattle.std.proofs.Common.{arith, refl, ◌≡◌, true, cond}
use Rattle.es_registry.specs.Slots.{is_present, is_awaiting, passes_at}
use Rattle.es_registry.specs.declared.slot.Slot.TheVariants.{Unregistered}
use Rattle.es_registry.proofs.Counting.{counts_unregistered}
use Rattle.es_registry.proofs.Indexing.{set_listed}
use Rattle.es_registry.proofs.cells.Cells.unregister.Goals as goal

pub overflow_sub-self : goal.overflow_sub-self
overflow_sub-self c =
    let here : passes_at is_present c.self.inside.slots.items c.args.place ≡ true = rw (← c.self.view_is) at c.requires in
    let awaited : c.awaited_at-awaited.result ≡ cond (passes_at is_awaiting c.self.inside.slots.items c.args.place) 1 0 = rw c.deref.ensures.value at c.awaited_at-awaited.ensures in
    let after = counts_unregistered c.self.inside.slots.items c.args.place here in
    omega (arith, c.self.invariant.of_awaiting, after.awaiting)

pub invariant_of-self : goal.invariant_of-self
invariant_of-self c =
    let here : passes_at is_present c.self.inside.slots.items c.args.place ≡ true = rw (← c.self.view_is) at c.requires in
    let awaited : c.awaited_at-awaited.result ≡ cond (passes_at is_awaiting c.self.inside.slots.items c.args.place) 1 0 = rw c.deref.ensures.value at c.awaited_at-awaited.ensures in
    let after = counts_unregistered c.self.inside.slots.items c.args.place here in
    rw c.put.ensures.items
    (record {
      of_awaiting = omega (arith, c.self.invariant.of_awaiting, after.awaiting);
      of_unregistered = omega (arith, c.self.invariant.of_unregistered, after.unregistered);
      of_taken = omega (arith, c.self.invariant.of_taken, after.taken);
      listed = set_listed c.self.inside.slots.items c.args.place Unregistered c.self.inside.present.items refl c.self.invariant.listed;
    })
