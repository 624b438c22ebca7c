use Rattle.es_event.proofs.KeysOf.{keys_are}
use Rattle.es_laws.proofs.laws.keys_are_those_of_properties.Goals as goal

pub returns : goal.returns
returns c = keys_are
