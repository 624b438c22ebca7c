use Rattle.std.proofs.Common.{refl}
use Rattle.es_tables.specs.Tables.{TablesView}
use Rattle.es_tables.proofs.Applying.{takes_alone}
use Rattle.es_tables.proofs.Outcomes.{on_map}
use Rattle.es_tables.proofs.tables.Tables.take_command.Goals as goal

pub returns-then-is_assignment-clause-ok : goal.returns-then-is_assignment-clause-ok
returns-then-is_assignment-clause-ok c =
    let tables : TablesView = record { variables = c.self.inside.variables; heap = c.self.inside.heap.all; rooms = c.self.inside.heap.rooms; weakrefs = c.self.inside.weakrefs; weak = c.self.inside.weak; registries = c.self.inside.registries; tags = c.self.inside.tags } in
    let assigned = rw c.given_by.ensures at c.take_in.ensures.ok in
    rw (← c.self.view_is)
    (on_map c.take_in.result _ _ (λ now. takes_alone _ _ tables c.take_in.new.self (c.if-is_assignment.ensures refl _ _) now) assigned)
