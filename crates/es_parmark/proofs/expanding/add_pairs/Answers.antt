use Rattle.std.proofs.Common.{◌∙◌, ◌++◌, [], ap, take, append_assoc}
use Rattle.std.proofs.lemmas.List.{take_more}
use Rattle.es_value.specs.Values.{identity}
use Rattle.es_parmark.specs.Pairs.{pairs_said, pair_before}
use Rattle.es_parmark.proofs.PairLists.{said_more}
use Rattle.es_parmark.proofs.expanding.add_pairs.Goals as goal

pub loop-entry-preserved : goal.loop-entry-preserved
loop-entry-preserved c =
    let e = c.entry-item.result in
    rw (take_more _ _ e c.loop-entry-test.true, ← c.entry-item.is, said_more _ e)
    (c.in_ok-add_pair.ensures ∙ ap (λ l. l ++ pair_before e.0 (identity e.1) []) c.loop-entry.invariant ∙ append_assoc _ (pairs_said (take c.loop-entry.entry-index c.args.entries.now)) (pair_before e.0 (identity e.1) []))
