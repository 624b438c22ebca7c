use Rattle.es_trace.proofs.kept.write_variable.Goals as goal

pub returns : goal.returns
returns g c = rw c.as_str-name.ensures.same at c.write.ensures.bytes
