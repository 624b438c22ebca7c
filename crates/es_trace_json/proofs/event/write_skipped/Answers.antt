use Rattle.std.proofs.lemmas.Result.{on_ok_weaker}
use Rattle.es_trace_json.proofs.Parts.{two_parts}
use Rattle.es_trace_json.proofs.event.write_skipped.Goals as goal

pub returns : goal.returns
returns g c = on_ok_weaker c.write_agent.result (λ last. two_parts _ _ _ _ _ c.in_ok-write.ensures.bytes last) c.write_agent.ensures
