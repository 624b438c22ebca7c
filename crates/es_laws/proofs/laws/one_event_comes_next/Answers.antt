use Rattle.es_event.proofs.Next.{one_next}
use Rattle.es_laws.proofs.laws.one_event_comes_next.Goals as goal

pub returns : goal.returns
returns c = one_next
