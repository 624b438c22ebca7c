use Rattle.es_tables.proofs.Found.{adds_entries}
use Rattle.es_tables.proofs.Outcomes.{on_both, on_map}
use Rattle.es_tables.proofs.tables.Tables.add_entries.Goals as goal

pub returns : goal.returns
returns c = rw (← c.self.view_is) (on_map c.entries_of_key.result _ _ (λ both. adds_entries c.self.inside.weak.entries.all c.args.key _ _ both.0 both.1) (on_both c.entries_of_key.result _ _ c.entries_of_key.ensures.ok c.entries_of_key.ensures.distinct))
