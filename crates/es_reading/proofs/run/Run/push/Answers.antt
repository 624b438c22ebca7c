use Rattle.std.proofs.Common.{refl}
use Rattle.es_reading.proofs.Lines.{plain_more}
use Rattle.es_reading.proofs.run.Run.push.Goals as goal

pub returns-in-None : goal.returns-in-None
returns-in-None c = rw c.in-None.is (plain_more c.push.result c.args.self.now _ c.args.command c.push.ensures.ok refl)
