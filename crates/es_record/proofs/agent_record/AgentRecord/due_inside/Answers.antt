use Rattle.std.proofs.Common.{ap, ◌∙◌, None}
use Rattle.std.specs.Prelude.{drop, slice_get, unwrap_or}
use Rattle.es_event.specs.Due.{due_of}
use Rattle.es_event.specs.Jobs.{job}
use Rattle.es_event.specs.Later.{snapshot}
use Rattle.es_event.specs.Order.{job_commands, job_catches}
use Rattle.es_record.proofs.DueCommand.{due_place}
use Rattle.es_record.proofs.agent_record.AgentRecord.due_inside.Goals as goal

pub returns : goal.returns
returns c =
    let plan = c.self.inside.plan in
    let h = c.self.inside.events.events in
    let stands = c.self.invariant.0.stands in
    let at = rw (← c.self.view_is) at c.requires in
    rw (← c.self.view_is)
    (c.due_command.ensures (snapshot h)
    ∙ ap (λ xs. due_of (snapshot h) (unwrap_or (slice_get xs c.args.at) None) (drop c.args.at c.commands.result.now)) (c.catches.ensures ∙ ap (job_catches plan) stands.job)
    ∙ ap (λ cs. due_of (snapshot h) (unwrap_or (slice_get (job_catches plan (job h)) c.args.at) None) (drop c.args.at cs)) (c.commands.ensures ∙ ap (job_commands plan) stands.job)
    ∙ due_place plan h c.args.at (job_catches plan (job h)) (drop c.args.at (job_commands plan (job h))) at.0 at.1 at.2 at.4)
