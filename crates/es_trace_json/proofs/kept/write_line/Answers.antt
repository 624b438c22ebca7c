use Rattle.std.proofs.lemmas.Result.{on_ok_weaker}
use Rattle.es_trace_json.proofs.Parts.{line_parts}
use Rattle.es_trace_json.proofs.kept.write_line.Goals as goal

pub returns : goal.returns
returns g c = on_ok_weaker c.write_all.result
    (λ last. line_parts _ _ _ _ c.args.name.now _ c.in_ok-begin_line.ensures c.in_ok-write_members.ensures last) c.write_all.ensures.bytes
