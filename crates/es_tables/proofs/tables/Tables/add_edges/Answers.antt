use Rattle.es_tables.proofs.Found.{adds_edges}
use Rattle.es_tables.proofs.Outcomes.{on_both, on_map}
use Rattle.es_tables.proofs.tables.Tables.add_edges.Goals as goal

pub returns : goal.returns
returns c = rw (← c.self.view_is) (on_map c.edges.result _ _ (λ both. adds_edges c.self.inside.heap.all c.args.object _ _ both.0 both.1) (on_both c.edges.result _ _ c.edges.ensures.ok c.edges.ensures.distinct))
