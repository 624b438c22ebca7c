use Rattle.std.proofs.Common.{◌≡◌, ◌∙◌, ◌&&◌, ℕ, ap, not}
use Rattle.std.specs.BTreeSet.{contains}
use Rattle.std.specs.List.{list_any}
use Rattle.std.specs.Ordering.{nat_cmp}
use Rattle.es_value.specs.Ids.{is_in}
use Rattle.es_registry.specs.Slots.{passes_at, is_losing}
use Rattle.std.proofs.lemmas.Map.Keys.{IsStrictlyIncreasing-from_sorted}
use Rattle.es_registry.proofs.Indexing.{among_is_contains, any_losing}
use Rattle.es_registry.proofs.registries.Registries.empty.Goals as goal

pub returns-clause-queue : goal.returns-clause-queue
returns-clause-queue c =
    let cells = c.self.inside.cells.all in
    let is : (r : ℕ) → contains nat_cmp c.in_ok-joining.joining r ≡ (list_any (passes_at (is_losing c.args.ids.now r) cells) c.present-2.result.now && not (is_in c.self.inside.queue.items r)) = λ r. rw (c.of-named.ensures, c.all-2.ensures.all) at (c.in_ok-joining.ensures r) in
    rw (← c.self.view_is) (
      c.in_ok-joining.joining.keys,
      c.in_ok-append.ensures.ok,
      record {
        rising = IsStrictlyIncreasing-from_sorted c.in_ok-joining.joining.keys c.append.ensures.ordered;
        exactly = λ r. among_is_contains c.in_ok-joining.joining.keys r ∙ is r ∙ ap (λ b. b && not (is_in c.self.inside.queue.items r)) (any_losing c.args.ids.now r cells c.present-2.result.now c.present-2.ensures);
      },
    )
