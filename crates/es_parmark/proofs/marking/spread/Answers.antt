use Rattle.std.proofs.Common.{◌≡◌, drop, length, arith, refl}
use Rattle.std.proofs.lemmas.Result.{on_ok_weaker}
use Rattle.es_parmark.proofs.Fronts.{all_drop, part_end, ids_fit, pairs_fit, waiting_room, front_kept, followed}
use Rattle.es_parmark.proofs.marking.spread.Goals as goal

pub add_parts-requires : goal.add_parts-requires
add_parts-requires g c = rw c.as_slice.ensures.value (ids_fit c.in_ok-parts.ensures _ c.requires.ready.room)

pub enter_parts-requires : goal.enter_parts-requires
enter_parts-requires g c = rw c.as_slice-2.ensures.value (pairs_fit c.in_ok-parts.ensures _ (omega (arith, c.requires.ready.room, c.in_ok-add_parts.ensures.room)))

pub release-requires-clause-fit : goal.release-requires-clause-fit
release-requires-clause-fit g c =
    let edges = g.G.Graph.has_edges c.args.graph.now in
    let entries = g.G.Graph.has_entries c.args.graph.now in
    let order = c.args.reached.now.order.items in
    let from = c.args.from in
    let part = rw (c.deref.ensures.value, part_end order from (length order) refl) at c.in_ok-parts.ensures in
    waiting_room _ edges entries (drop from order) _ order _ _ _ _ _ _ c.args.reached.now.listed (λ P. all_drop P from order) c.requires.ready.numbered part
    (rw c.as_slice.ensures.value at c.in_ok-add_parts.ensures.added) (rw c.as_slice-2.ensures.value at c.in_ok-enter_parts.ensures.step) _
    (omega (arith, c.requires.ready.room, c.in_ok-add_parts.ensures.room, c.in_ok-enter_parts.ensures.room))

pub returns-clause-followed : goal.returns-clause-followed
returns-clause-followed g c =
    let edges = g.G.Graph.has_edges c.args.graph.now in
    let entries = g.G.Graph.has_entries c.args.graph.now in
    let order = c.args.reached.now.order.items in
    let from = c.args.from in
    let all : c.len-next.result ≡ length order = omega (arith, c.len-next.ensures, c.args.reached.now.order.ok.0) in
    let part = rw (c.deref.ensures.value, part_end order from (length order) refl) at c.in_ok-parts.ensures in
    let led = rw c.as_slice.ensures.value at c.in_ok-add_parts.ensures.added in
    let entered = rw c.as_slice-2.ensures.value at c.in_ok-enter_parts.ensures.step in
    let kept =
    front_kept _ edges entries (drop from order) _ order _ _ _ _ _ _ c.args.reached.now.listed (λ P. all_drop P from order) c.requires.ready.numbered part led entered from c.len-next.result all in
    on_ok_weaker c.release.result
    (λ released.
    followed _ edges entries (drop from order) _ order _ _ _ _ _ _ c.args.reached.now.listed (λ P. all_drop P from order) c.requires.ready.numbered part led entered _ (rw kept at released))
    c.release.ensures.added
