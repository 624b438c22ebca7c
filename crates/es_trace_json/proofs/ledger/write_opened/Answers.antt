use Rattle.std.proofs.Common.{append_assoc}
use Rattle.es_trace_json.proofs.ledger.write_opened.Goals as goal

pub returns : goal.returns
returns g c = simp append_assoc (rw c.name_at-agent.ensures at c.write.ensures.bytes)
