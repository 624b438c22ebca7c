use Rattle.std.proofs.Common.{arith}
use Rattle.std.proofs.lemmas.Grind.{common_steps}
use Rattle.std.proofs.lemmas.Bool.Decides.{nat_tests}
use Rattle.es_ephemeron.proofs.Places.{records_of}
use Rattle.es_ephemeron.proofs.keyed.Keyed.set.Goals as goal

pub returns : goal.returns
returns g c = λ n j. grind (arith, common_steps, nat_tests, records_of, c.set.ensures n)
