use Rattle.es_event.proofs.Steps.{after_did}
use Rattle.es_event.proofs.cursor.Cursor.pass_command.Goals as goal

pub returns : goal.returns
returns c h stands d values answer = after_did c.args.plan.now h d values answer c.args.self.now _ c.pass_command.ensures stands
