use Rattle.es_trace_json.proofs.kept.write_entry.Goals as goal

pub returns : goal.returns
returns g c = rw (c.number-map.ensures.same, c.number-key.ensures.same) at c.write.ensures.bytes
