use Rattle.es_why.proofs.Places.{variable_said}
use Rattle.es_why.proofs.roots.variable_at.Goals as goal

pub returns : goal.returns
returns c = variable_said c.args.agent.now c.args.names.now c.args.place _ _ _ c.requires c.index-names-place.is c.value.ensures.said c.identity.ensures
