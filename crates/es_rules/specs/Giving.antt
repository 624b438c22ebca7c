-- Internal: that a command may be done with an answer.
use Rattle.std.specs.Prelude.{◌≡◌, false, None, Ok}
use Rattle.es_event.specs.declared.event.Answer.{Answer}
use Rattle.es_event.specs.declared.command.Command.{Command}
use Rattle.es_event.specs.Commands.{reads, collects, opens_words}
use Rattle.es_event.specs.Jobs.{receivers}
use Rattle.es_event.specs.Rules.{completion}
use Rattle.es_event.specs.Heard.{heard_by}
use Rattle.es_event.specs.Legal.{values_of}
use Rattle.es_event.specs.Order.{RunsNow, due}
use Rattle.es_record.specs.AgentView.{AgentView}

-- a command is due, is no collection, opens no block, and the rules give it this answer
pub record MayGive (b : AgentView) (r : Answer) : Type 0 where
  pub command : Command
  pub is_due : RunsNow (due b.plan b.history) command
  pub gives : completion b.over b.history command (values_of (receivers b.plan.jobs) b.history (reads command)) (heard_by command r) ≡ Ok r
  pub no_collection : collects command ≡ false
  pub no_block : opens_words command ≡ None
