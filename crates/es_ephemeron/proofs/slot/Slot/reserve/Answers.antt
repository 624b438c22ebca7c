use Rattle.std.proofs.Common.{arith}
use Rattle.es_ephemeron.proofs.Looked.{held_by_is_lookup}
use Rattle.es_ephemeron.proofs.slot.Slot.reserve.Goals as goal

pub returns-in_ok-reserve-in-Many-clause-same : goal.returns-in_ok-reserve-in-Many-clause-same
returns-in_ok-reserve-in-Many-clause-same g c = λ n. grind (arith, held_by_is_lookup, c.reserve.ensures.entries.2 n)
