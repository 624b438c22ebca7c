use Rattle.std.proofs.Common.{arith}
use Rattle.es_weakref.proofs.Found.{found_is_lookup}
use Rattle.es_weakref.proofs.weakrefs.WeakRefs.reserve.Goals as goal

pub returns-in_err-reserve-2-clause-targets : goal.returns-in_err-reserve-2-clause-targets
returns-in_err-reserve-2-clause-targets c = λ v. grind (arith, found_is_lookup, c.reserve.ensures.entries.2 v)

pub returns-clause-targets : goal.returns-clause-targets
returns-clause-targets c = λ v. grind (arith, found_is_lookup, c.reserve.ensures.entries.2 v)
