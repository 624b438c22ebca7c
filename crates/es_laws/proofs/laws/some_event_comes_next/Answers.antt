use Rattle.es_event.proofs.Next.{some_next}
use Rattle.es_laws.proofs.laws.some_event_comes_next.Goals as goal

pub returns : goal.returns
returns c over plan h on = let next = some_next over plan h on in (next.more, next.agrees, next.event, (next.lawful, next.permitted))
