use Rattle.es_trace.proofs.kept.write_property.Goals as goal

pub returns : goal.returns
returns g c = rw (c.as_str-key.ensures.same, c.number-number.ensures.same) at c.write.ensures.bytes
