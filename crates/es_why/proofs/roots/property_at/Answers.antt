use Rattle.es_why.proofs.Places.{property_said}
use Rattle.es_why.proofs.roots.property_at.Goals as goal

pub returns : goal.returns
returns c = property_said c.args.agent.now.history c.args.object c.args.place c.args.keys.now _ _ c.requires.within c.requires.keys c.index-keys-place.is c.held_under.ensures
