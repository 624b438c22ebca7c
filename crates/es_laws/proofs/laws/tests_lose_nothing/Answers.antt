use Rattle.es_event.proofs.Closure.{led_in, reached_led}
use Rattle.es_laws.proofs.laws.tests_lose_nothing.Goals as goal

pub returns : goal.returns
returns g c into h i closed r = led_in g.M.Members.has into h closed i (reached_led into h i r)
