use Rattle.es_why.proofs.Said.{registered_said}
use Rattle.es_why.proofs.registration.write_registration_at.Goals as goal

pub returns : goal.returns
returns g c = let written = rw c.registration.ensures at c.write_registration.ensures in rw (registered_said c.args.agent.now.history c.args.registration) at written
