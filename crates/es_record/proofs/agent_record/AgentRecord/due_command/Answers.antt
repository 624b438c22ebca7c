use Rattle.std.proofs.Common.{subst, ap, sym, ◌∙◌}
use Rattle.std.specs.Prelude.{drop}
use Rattle.es_event.specs.Order.{job_commands}
use Rattle.es_event.specs.Cursor.{IsAt, commands_of}
use Rattle.es_record.proofs.DueCommand.{answers_due}
use Rattle.es_record.proofs.agent_record.AgentRecord.due_command.Goals as goal

pub returns-in-Inside : goal.returns-in-Inside
returns-in-Inside c =
    let plan = c.self.inside.plan in
    let h = c.self.inside.events.events in
    let stands = c.self.invariant.0.stands in
    let at = subst (IsAt plan h) c.in-Inside.is stands.position in
    let left = at.2 ∙ ap (λ j. drop c.in-Inside.at (job_commands plan j)) (sym stands.job) in
    rw (← c.self.view_is) (answers_due plan h (job_commands plan c.self.inside.cursor.job) c.in-Inside.at at.0 left c.job_command.result c.job_command.ensures)

pub returns-in-Cleaning : goal.returns-in-Cleaning
returns-in-Cleaning c =
    let plan = c.self.inside.plan in
    let h = c.self.inside.events.events in
    let at = subst (IsAt plan h) c.in-Cleaning.is c.self.invariant.0.stands.position in
    rw (← c.self.view_is) (answers_due plan h (commands_of plan c.in-Cleaning.cleanup.callback) c.in-Cleaning.cleanup.at at.phase at.left c.callback_command.result c.callback_command.ensures)
