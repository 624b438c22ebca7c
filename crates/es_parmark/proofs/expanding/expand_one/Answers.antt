use Rattle.std.proofs.lemmas.Result.{on_ok_weaker}
use Rattle.es_parmark.proofs.Gathering.{sifted_found, paired_found}
use Rattle.es_parmark.proofs.expanding.expand_one.Goals as goal

pub returns-clause-ids : goal.returns-clause-ids
returns-clause-ids g c =
    on_ok_weaker c.add_pairs.result
    (λ _. sifted_found _ _ (g.G.Graph.has_edges c.args.graph.now c.args.id) _ _ _ _ c.in_ok-find_edges.ensures c.as_slice.ensures.value c.in_ok-gather.ensures)
    c.add_pairs.ensures

pub returns-clause-pairs : goal.returns-clause-pairs
returns-clause-pairs g c =
    on_ok_weaker c.add_pairs.result
    (λ is. paired_found _ _ (g.G.Graph.has_entries c.args.graph.now c.args.id) _ _ _ _ c.in_ok-find_entries.ensures c.as_slice-2.ensures.value is)
    c.add_pairs.ensures
