use Rattle.std.proofs.Common.{◌≡◌, ◌∙◌, ℕ, arith, map, sym}
use Rattle.std.specs.List.{slice_get}
use Rattle.std.specs.Option.{option_map}
use Rattle.es_value.specs.Ids.{is_in}
use Rattle.es_registry.specs.Slots.{is_present, emptied, changed_if}
use Rattle.es_registry.proofs.Counting.{counts_emptied}
use Rattle.es_registry.proofs.Indexing.{all_changed, none_emptied, emptied_listed}
use Rattle.es_registry.proofs.cells.Cells.empty.Goals as goal

pub invariant_of-self : goal.invariant_of-self
invariant_of-self c =
    let ids = c.args.named.now in
    let old = c.self.inside.slots.items in
    let new = c.empty_all-lost.new.slots.items in
    let changed : (k : ℕ) → slice_get new k ≡ option_map (changed_if (emptied ids) (is_in c.self.inside.present.items k)) (slice_get old k) = rw c.deref.ensures.value at c.empty_all-lost.ensures.slots in
    let is : new ≡ map (emptied ids) old = all_changed (emptied ids) is_present (none_emptied ids) old new c.self.inside.present.items c.self.invariant.listed changed in
    let after = counts_emptied ids old in
    rw (c.keep_present.ensures.items, c.deref-2.ensures.value, is)
    (record {
      of_awaiting = rw (← is) (omega (arith, c.self.invariant.of_awaiting, c.empty_all-lost.ensures.awaiting));
      of_unregistered = c.self.invariant.of_unregistered ∙ sym after.unregistered;
      of_taken = c.self.invariant.of_taken ∙ sym after.taken;
      listed = emptied_listed ids old c.self.inside.present.items c.self.invariant.listed;
    })

pub returns-clause-all : goal.returns-clause-all
returns-clause-all c =
    let ids = c.args.named.now in
    let old = c.self.inside.slots.items in
    let new = c.empty_all-lost.new.slots.items in
    let changed : (k : ℕ) → slice_get new k ≡ option_map (changed_if (emptied ids) (is_in c.self.inside.present.items k)) (slice_get old k) = rw c.deref.ensures.value at c.empty_all-lost.ensures.slots in
    rw (← c.self.view_is) (all_changed (emptied ids) is_present (none_emptied ids) old new c.self.inside.present.items c.self.invariant.listed changed)
