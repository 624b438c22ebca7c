use Rattle.std.proofs.Common.{arith, sym, subst}
use Rattle.es_mark.specs.Search.{HasRoom}
use Rattle.es_mark.proofs.Beginning.{begins, begins_sorted}
use Rattle.es_mark.proofs.Ending.{ends}
use Rattle.es_mark.proofs.Finding.{found_fit, has_room}
use Rattle.es_mark.proofs.search.find_ways.Goals as goal

pub add_all-requires : goal.add_all-requires
add_all-requires g c =
    let leads = g.H.Heap.leads c.args.heap.now in
    rw c.as_slice.ensures.value (found_fit c.in_ok-find_roots.ensures _ (has_room leads _ _ c.made.ensures c.in_ok-ways.ensures.room))

pub queue-init : goal.queue-init
queue-init g c =
    let leads = g.H.Heap.leads c.args.heap.now in
    let added = rw (c.as_slice.ensures.value, c.in_ok-ways.ensures.none) at c.in_ok-add_all.ensures.added in
    record {
      room = subst (HasRoom leads) (sym c.in_ok-add_all.ensures.room) (has_room leads _ _ c.made.ensures c.in_ok-ways.ensures.room);
      searching = begins leads _ _ c.in_ok-find_roots.ensures added _ c.new-waiting.ensures;
      sorting = begins_sorted leads _ _ c.in_ok-find_roots.ensures added;
    }

pub queue-preserved : goal.queue-preserved
queue-preserved g c =
    let leads = g.H.Heap.leads c.args.heap.now in
    record {
      room = subst (HasRoom leads) (sym c.in_ok-follow.ensures.room) c.queue.invariant.room;
      searching = c.in_ok-follow.ensures.searching;
      sorting = c.in_ok-follow.ensures.sorting;
    }

pub returns-clause-ways : goal.returns-clause-ways
returns-clause-ways g c =
    let leads = g.H.Heap.leads c.args.heap.now in
    ends leads _ _ _ c.queue.invariant.searching (omega (arith, c.queue-test.false))

pub returns-clause-shortest : goal.returns-clause-shortest
returns-clause-shortest g c = c.queue.invariant.sorting.shortest
