use Rattle.std.proofs.Common.{◌≡◌, ◌∙◌, refl, arith}
use Rattle.es_mark.specs.Waiting.{waiting_for}
use Rattle.es_mark.proofs.Listed.{added_nothing}
use Rattle.es_parmark.proofs.Fronts.{part_start, released_nothing, released_more, waiting_fits}
use Rattle.es_parmark.proofs.entering.release.Goals as goal

pub returns-then-is_empty-clause-added : goal.returns-then-is_empty-clause-added
returns-then-is_empty-clause-added c = released_nothing c.args.waiting.now _ _ (c.is_empty.ensures c.if-is_empty.true)

pub loop-at-init : goal.loop-at-init
loop-at-init c = record { added = rw (part_start c.args.from c.args.reached.now.order.items) (added_nothing _); room = refl }

pub add_all-requires : goal.add_all-requires
add_all-requires c =
    rw c.at.ensures
    (waiting_fits c.args.waiting.now _ _ c.loop-at.at _ c.args.reached.now.order.items _ _ c.loop-at.invariant.added.added (omega (arith, c.requires.to)) c.index-id.ensures
    c.loop-at.invariant.room c.requires.fit)

pub loop-at-preserved : goal.loop-at-preserved
loop-at-preserved c = record {
  added =
      released_more (waiting_for c.args.waiting.now) c.args.from c.loop-at.at _ _ _ _ _ (omega arith) (omega (arith, c.requires.to)) c.index-id.ensures c.loop-at.invariant.added c.at.ensures
      c.in_ok-add_all.ensures.added;
  room = c.in_ok-add_all.ensures.room ∙ c.loop-at.invariant.room;
}

pub returns-clause-added : goal.returns-clause-added
returns-clause-added c = let e : c.loop-at.at ≡ c.args.to = omega (arith, c.requires.from) in rw e at c.loop-at.invariant.added
