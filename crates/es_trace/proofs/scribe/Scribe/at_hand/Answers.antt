use Rattle.std.proofs.Common.{◌∙◌}
use Rattle.es_trace.proofs.Led.{next_command}
use Rattle.es_trace.proofs.scribe.Scribe.at_hand.Goals as goal

pub returns : goal.returns
returns c = λ names h keeps. c.at_hand.ensures ∙ next_command c.args.plan.now h c.args.self.now.place keeps.place
