use Rattle.es_trace_json.proofs.event.write_cleanup.Goals as goal

pub returns : goal.returns
returns g c = rw c.number-number.ensures.same at c.write.ensures.bytes
