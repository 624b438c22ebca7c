use Rattle.es_laws.proofs.LedTo.{in_each}
use Rattle.es_laws.proofs.laws.later_tests_lose_nothing.Goals as goal

pub returns : goal.returns
returns g c into p more i closed has r = in_each g.M.Members.has into p more i closed has r
