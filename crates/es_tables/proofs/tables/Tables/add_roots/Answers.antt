use Rattle.es_tables.specs.Tables.{TablesView}
use Rattle.es_tables.proofs.Found.{adds_held}
use Rattle.es_tables.proofs.Outcomes.{on_map}
use Rattle.es_tables.proofs.tables.Tables.add_roots.Goals as goal

pub returns : goal.returns
returns c =
    let tables : TablesView = record { variables = c.self.inside.variables; heap = c.self.inside.heap.all; rooms = c.self.inside.heap.rooms; weakrefs = c.self.inside.weakrefs; weak = c.self.inside.weak; registries = c.self.inside.registries; tags = c.self.inside.tags } in
    rw (← c.self.view_is)
    (on_map c.roots.result _ _ (λ added. adds_held tables _ _ _ _ c.in_ok-add_identities.ensures (rw (← c.kept.ensures) c.in_ok-add_all.ensures) (record { ids = added.0; added = added.1; exactly = added.2 })) c.roots.ensures)
