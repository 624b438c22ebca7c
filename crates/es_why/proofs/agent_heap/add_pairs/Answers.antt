use Rattle.std.proofs.Common.{sym, take}
use Rattle.std.proofs.lemmas.List.{append-nil, take_more}
use Rattle.es_why.proofs.Found.{pairs_more}
use Rattle.es_why.proofs.agent_heap.add_pairs.Goals as goal

pub loop-entry-init : goal.loop-entry-init
loop-entry-init c = sym (append-nil c.args.found.now.items)

pub loop-entry-preserved : goal.loop-entry-preserved
loop-entry-preserved c =
    rw (take_more _ _ c.entry-item.result c.loop-entry-test.true, ← c.entry-item.is)
    (pairs_more (take c.loop-entry.entry-index c.args.entries.now) c.entry-item.result c.args.found.now.items _ _ _ c.loop-entry.invariant c.identity.ensures c.in_ok-add_pair.ensures)
