use Rattle.es_event.proofs.Next.{may_be_received, may_be_new}
use Rattle.es_laws.proofs.laws.a_message_may_come.Goals as goal

pub returns : goal.returns
returns c over plan h job sender at = (may_be_received over plan h job sender at, may_be_new over plan h job sender at)
