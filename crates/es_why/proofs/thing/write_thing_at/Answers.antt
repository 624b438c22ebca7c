use Rattle.es_why.proofs.Said.{tagged_said}
use Rattle.es_why.proofs.thing.write_thing_at.Goals as goal

pub returns : goal.returns
returns g c = let written = rw c.tag.ensures at c.write_tagged.ensures in rw (tagged_said c.args.agent.now.history c.args.id) at written
