use Rattle.std.proofs.Common.{◌≡◌, ◌∙◌, sym, length, rules}
use Rattle.es_registry.proofs.Counting.{counts_pushed}
use Rattle.es_registry.proofs.Indexing.{pushed_listed}
use Rattle.es_registry.proofs.cells.Cells.push.Goals as goal

pub invariant_of-self : goal.invariant_of-self
invariant_of-self c =
    let after = counts_pushed c.self.inside.slots.items c.args.slot c.requires.live in
    let here : c.len.result ≡ length c.self.inside.slots.items = search rules in
    rw (c.push-2.ensures.items, c.push.ensures.items, here)
    (record {
      of_awaiting = c.self.invariant.of_awaiting ∙ sym after.awaiting;
      of_unregistered = c.self.invariant.of_unregistered ∙ sym after.unregistered;
      of_taken = c.self.invariant.of_taken ∙ sym after.taken;
      listed = pushed_listed c.self.inside.slots.items c.args.slot c.self.inside.present.items c.self.invariant.listed;
    })
