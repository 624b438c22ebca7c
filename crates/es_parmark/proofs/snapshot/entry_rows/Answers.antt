use Rattle.std.proofs.Common.{arith, ap, ◌++◌, ◌∙◌}
use Rattle.es_parmark.specs.Pairs.{pairs_said}
use Rattle.es_parmark.proofs.Rows.{rows_entered}
use Rattle.es_parmark.proofs.snapshot.entry_rows.Goals as goal

pub loop-number-preserved : goal.loop-number-preserved
loop-number-preserved g c =
    let asked = g.G.Graph.has_entries c.args.graph.now in
    rows_entered _ _ asked _ _ c.len.result _ _ _ _ _ c.loop-number.invariant c.requires c.of.ensures c.in_ok-find_entries.ensures
    (c.in_ok-add_pairs.ensures ∙ ap (λ l. c.loop-number.pairs.items ++ pairs_said l) c.as_slice.ensures.value)
    (omega (arith, c.len.ensures, c.add_pairs.new.pairs.ok.0)) c.in_ok-push-2.ensures.items
