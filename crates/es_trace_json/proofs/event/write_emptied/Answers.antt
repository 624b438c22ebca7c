use Rattle.std.proofs.lemmas.Result.{on_ok_weaker}
use Rattle.es_trace_json.proofs.Parts.{four_parts}
use Rattle.es_trace_json.proofs.event.write_emptied.Goals as goal

pub returns : goal.returns
returns g c = on_ok_weaker c.write_array.result
    (λ last. four_parts _ _ _ _ _ _ _ _ _ c.in_ok-write_all.ensures.bytes c.in_ok-write_if_any.ensures c.in_ok-write_all-2.ensures.bytes last) c.write_array.ensures
