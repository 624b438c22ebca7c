use Rattle.std.proofs.Common.{arith}
use Rattle.std.proofs.lemmas.Bool.Decides.{nat_tests}
use Rattle.es_reading.proofs.Items.{len_of}
use Rattle.es_reading.proofs.parts.has_exactly.Goals as goal

pub returns : goal.returns
returns g c = rw len_of (grind (arith, nat_tests))
