use Rattle.std.proofs.lemmas.Result.{on_ok_weaker}
use Rattle.es_trace_json.proofs.Parts.{six_parts}
use Rattle.es_trace_json.proofs.event.write_caught.Goals as goal

pub returns : goal.returns
returns g c = on_ok_weaker c.write_caught_error.result
    (λ last. six_parts _ _ _ _ _ _ _ _ _ _ _ _ _ c.in_ok-write_all.ensures.bytes c.in_ok-write_variable.ensures c.in_ok-write_all-2.ensures.bytes c.in_ok-write_array_of.ensures c.in_ok-write_all-3.ensures.bytes last) c.write_caught_error.ensures
