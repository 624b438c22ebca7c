use Rattle.std.proofs.lemmas.Result.{on_ok_weaker}
use Rattle.es_trace_json.proofs.Parts.{four_parts}
use Rattle.es_trace_json.proofs.ledger.write_sleep.Goals as goal

pub returns : goal.returns
returns g c = on_ok_weaker c.write.result (λ last. four_parts _ _ _ _ _ _ _ _ _ c.in_ok-write_all.ensures.bytes c.in_ok-write_agent.ensures c.in_ok-write_place.ensures last) c.write.ensures.bytes
