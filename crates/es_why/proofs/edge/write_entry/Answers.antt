use Rattle.std.proofs.lemmas.Result.{on_ok_weaker}
use Rattle.es_why.proofs.Drawn.{entry_written}
use Rattle.es_why.proofs.edge.write_entry.Goals as goal

pub returns : goal.returns
returns g c =
    on_ok_weaker c.write_value.result
    (λ value. entry_written c.args.map c.args.key c.args.value _ _ _ _ _ c.in_ok-write_point.ensures c.in_ok-write_map_line.ensures c.in_ok-write_key_line.ensures value) c.write_value.ensures
