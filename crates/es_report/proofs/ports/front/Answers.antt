use Rattle.std.proofs.Common.{◌∙◌, reverse}
use Rattle.es_report.proofs.Posted.{front_is}
use Rattle.es_report.proofs.ports.front.Goals as goal

pub returns : goal.returns
returns c = c.serial_after.ensures ∙ front_is c.args.sender c.args.receiver (reverse c.args.events.now) c.counts_of-counts.result c.counts_of-counts.ensures
