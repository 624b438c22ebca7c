use Rattle.std.proofs.Common.{append_assoc}
use Rattle.es_trace_json.proofs.value.write_registered.Goals as goal

pub returns : goal.returns
returns g c = simp append_assoc c.write.ensures.bytes
