use Rattle.std.proofs.Common.{◌∙◌, reverse}
use Rattle.es_report.proofs.Looked.{fate_is, present_fate_is}
use Rattle.es_report.proofs.looking.fate_back.Goals as goal

pub returns-in-Some : goal.returns-in-Some
returns-in-Some c = fate_is c.args.number (reverse c.args.events.now) c.look_at-looked.result c.in-Some.fate c.look_at-looked.ensures.looks c.in-Some.is

pub returns-in-None : goal.returns-in-None
returns-in-None c = c.present.ensures ∙ present_fate_is c.args.number (reverse c.args.events.now) c.look_at-looked.result c.look_at-looked.ensures.looks c.in-None.is
