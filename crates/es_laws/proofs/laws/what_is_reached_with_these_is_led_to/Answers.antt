use Rattle.es_laws.proofs.LedTo.{led_reached, reached_led}
use Rattle.es_laws.proofs.laws.what_is_reached_with_these_is_led_to.Goals as goal

pub returns : goal.returns
returns c into p more i = (reached_led into p more i, led_reached into p more i)
