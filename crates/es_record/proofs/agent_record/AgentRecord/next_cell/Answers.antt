use Rattle.std.specs.Option.{option_copied}
use Rattle.es_event.specs.Cursor.{IsAt}
use Rattle.std.proofs.Common.{subst}
use Rattle.es_record.proofs.Cells.{next_found}
use Rattle.es_record.proofs.agent_record.AgentRecord.next_cell.Goals as goal

pub returns-in-Cleaning : goal.returns-in-Cleaning
returns-in-Cleaning c =
    let h = c.self.inside.events.events in
    let at = subst (IsAt c.self.inside.plan h) c.in-Cleaning.is c.self.invariant.0.stands.position in
    rw (← c.self.view_is) (next_found h c.self.inside.tables.registries c.in-Cleaning.cleanup.registry c.self.invariant.0.says.cells at.cleaning (option_copied c.awaiting.result) c.awaiting.ensures)

pub returns-in-CleanupStopped : goal.returns-in-CleanupStopped
returns-in-CleanupStopped c =
    let h = c.self.inside.events.events in
    let at = subst (IsAt c.self.inside.plan h) c.in-CleanupStopped.is c.self.invariant.0.stands.position in
    rw (← c.self.view_is) (next_found h c.self.inside.tables.registries c.in-CleanupStopped.registry c.self.invariant.0.says.cells at.1 (option_copied c.awaiting-in-CleanupStopped.result) c.awaiting-in-CleanupStopped.ensures)
