use Rattle.es_tables.specs.Tables.{TablesView}
use Rattle.es_tables.proofs.Applying.{takes_put}
use Rattle.es_tables.proofs.tables.Tables.set.Goals as goal

pub returns-clause-ok : goal.returns-clause-ok
returns-clause-ok c =
    let tables : TablesView = record { variables = c.self.inside.variables; heap = c.self.inside.heap.all; rooms = c.self.inside.heap.rooms; weakrefs = c.self.inside.weakrefs; weak = c.self.inside.weak; registries = c.self.inside.registries; tags = c.self.inside.tags } in
    rw (← c.self.view_is, ← c.in_ok-key.ensures, ← c.in_ok-value.ensures)
    (takes_put tables c.reserve_set.new.self.all c.write.new.heap.all c.reserve_set.new.self.rooms c.write.new.heap.rooms c.args.object c.in_ok-key.key c.in_ok-value.value c.reserve_set.ensures.same c.write.ensures.properties c.write.ensures.keys c.write.ensures.objects)
