use Rattle.std.proofs.Common.{arith, ap, refl, ◌∙◌, ◌++◌}
use Rattle.es_mark.proofs.Whole.{begins, goes_on, ends, ends_numbered}
use Rattle.es_parmark.specs.Snapshot.{CopyHasEdges, CopyHasEntries}
use Rattle.es_parmark.proofs.MoreRoots.{finds_both, both_fit}
use Rattle.es_parmark.proofs.more.mark_from.Goals as goal

pub add_all-requires : goal.add_all-requires
add_all-requires c =
    both_fit c.args.snapshot.now.made _ c.args.snapshot.now.roots c.args.more.now _ (omega (arith, c.in_ok-reached.ensures.room, c.made.ensures)) c.all_roots.ensures.sound.roots_made c.requires
    (c.as_slice.ensures.value ∙ c.in_ok-extend_from_slice-2.ensures.items ∙ ap (λ l. l ++ c.args.more.now) (c.in_ok-extend_from_slice.ensures.items ∙ rw (c.new-roots.ensures.items, c.all_roots.ensures.roots) refl))

pub queue-init : goal.queue-init
queue-init c =
    let edges = CopyHasEdges c.args.snapshot.now in
    let entries = CopyHasEntries c.args.snapshot.now in
    begins _ edges entries c.args.snapshot.now.made c.as_slice.result.now _ _ _ (omega (arith, c.in_ok-reached.ensures.room, c.made.ensures, c.in_ok-add_all.ensures.room)) c.new-waiting.ensures
    (finds_both c.args.snapshot.now.made c.args.snapshot.now.roots c.args.more.now _ c.all_roots.ensures.sound.roots_made c.requires
    (c.as_slice.ensures.value ∙ c.in_ok-extend_from_slice-2.ensures.items ∙ ap (λ l. l ++ c.args.more.now) (c.in_ok-extend_from_slice.ensures.items ∙ rw (c.new-roots.ensures.items, c.all_roots.ensures.roots) refl)))
    (rw c.in_ok-reached.ensures.none at c.in_ok-add_all.ensures.added)

pub queue-preserved : goal.queue-preserved
queue-preserved c =
    let edges = CopyHasEdges c.args.snapshot.now in
    let entries = CopyHasEntries c.args.snapshot.now in
    goes_on _ edges entries _ _ _ _ _ _ _ _ _ c.queue.invariant (omega (arith, c.queue-test.true)) c.index-id.ensures c.in_ok-follow.ensures.followed c.in_ok-follow.ensures.room

pub returns-clause-least : goal.returns-clause-least
returns-clause-least c =
    let edges = CopyHasEdges c.args.snapshot.now in
    let entries = CopyHasEntries c.args.snapshot.now in
    ends _ edges entries _ _ _ _ _ c.queue.invariant c.queue.reached.listed (omega (arith, c.queue-test.false))

pub returns-clause-made : goal.returns-clause-made
returns-clause-made c =
    let edges = CopyHasEdges c.args.snapshot.now in
    let entries = CopyHasEntries c.args.snapshot.now in
    ends_numbered _ edges entries _ _ _ _ _ c.queue.invariant c.queue.reached.listed (omega (arith, c.queue-test.false))
