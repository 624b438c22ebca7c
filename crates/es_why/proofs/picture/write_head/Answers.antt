use Rattle.std.proofs.lemmas.Result.{on_ok_weaker}
use Rattle.es_why.proofs.Drawn.{head_written}
use Rattle.es_why.proofs.picture.write_head.Goals as goal

pub returns : goal.returns
returns g c =
    on_ok_weaker c.write_all-3.result
    (λ last. head_written c.args.name.now _ _ _ _ c.in_ok-write_all.ensures.bytes (rw c.as_bytes.ensures.same at c.in_ok-write_all-2.ensures.bytes) last) c.write_all-3.ensures.bytes
