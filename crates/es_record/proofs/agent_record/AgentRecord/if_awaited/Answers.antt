use Rattle.std.proofs.Common.{◌∙◌, sym, ap, cond, Some, None}
use Rattle.std.specs.Prelude.{is_some}
use Rattle.es_record.proofs.Cells.{is_awaited, copied_some}
use Rattle.es_record.proofs.agent_record.AgentRecord.if_awaited.Goals as goal

pub returns-then-is_some : goal.returns-then-is_some
returns-then-is_some c =
    let told = sym c.if-is_some.true ∙ c.is_some.ensures ∙ sym (copied_some c.awaiting.result) ∙ ap is_some c.awaiting.ensures
    ∙ is_awaited c.self.inside.events.events c.self.inside.tables.registries c.args.registry c.self.invariant.0.says.cells in
    rw (← c.self.view_is) (ap (λ b. cond b (Some c.args.registry) None) told)

pub returns-else-is_some : goal.returns-else-is_some
returns-else-is_some c =
    let told = sym c.if-is_some.false ∙ c.is_some.ensures ∙ sym (copied_some c.awaiting.result) ∙ ap is_some c.awaiting.ensures
    ∙ is_awaited c.self.inside.events.events c.self.inside.tables.registries c.args.registry c.self.invariant.0.says.cells in
    rw (← c.self.view_is) (ap (λ b. cond b (Some c.args.registry) None) told)
