use Rattle.es_event.proofs.Closure.{led_reached, reached_led}
use Rattle.es_laws.proofs.laws.reached_is_led_to.Goals as goal

pub returns : goal.returns
returns c into h i = (reached_led into h i, led_reached into h i)
