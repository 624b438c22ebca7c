use Rattle.std.proofs.Common.{ap, ◌<◌, ◌∙◌, subst, None}
use Rattle.std.specs.Prelude.{drop, length, slice_get, unwrap_or}
use Rattle.es_event.specs.Cursor.{catches_of, commands_of}
use Rattle.es_event.specs.Due.{due_of}
use Rattle.es_event.specs.Later.{snapshot}
use Rattle.es_record.proofs.DueCommand.{due_callback}
use Rattle.es_record.proofs.agent_record.AgentRecord.due_cleaning.Goals as goal

pub returns-then-cleanup-commands : goal.returns-then-cleanup-commands
returns-then-cleanup-commands c =
    let plan = c.self.inside.plan in
    let h = c.self.inside.events.events in
    let k = c.args.cleanup.at in
    let at = rw (← c.self.view_is) at c.requires in
    let commands = c.callback_commands-commands in
    rw (← c.self.view_is)
    (c.due_command.ensures (snapshot h)
    ∙ ap (λ xs. due_of (snapshot h) (unwrap_or (slice_get xs k) None) (drop k commands.result.now)) c.callback_catches.ensures
    ∙ ap (λ cs. due_of (snapshot h) (unwrap_or (slice_get (catches_of plan c.args.cleanup.callback) k) None) (drop k cs)) commands.ensures
    ∙ due_callback plan h k (commands_of plan c.args.cleanup.callback) (catches_of plan c.args.cleanup.callback) (subst (λ cs. k < length cs) commands.ensures c.if-cleanup-commands.true) at.phase at.left at.catches)
