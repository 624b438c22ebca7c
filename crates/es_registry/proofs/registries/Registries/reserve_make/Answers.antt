use Rattle.std.proofs.Common.{arith}
use Rattle.es_registry.proofs.Found.{found_is_lookup}
use Rattle.es_registry.proofs.registries.Registries.reserve_make.Goals as goal

pub returns-clause-callbacks : goal.returns-clause-callbacks
returns-clause-callbacks c = λ q. grind (arith, found_is_lookup, c.reserve.ensures.entries.2 q)
