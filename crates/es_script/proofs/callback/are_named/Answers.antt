use Rattle.std.proofs.Common.{◌≡◌, true, arith}
use Rattle.std.specs.Str.{bytes_eq}
use Rattle.es_script.proofs.TakingCallbacks.{same_step, equal_bytes}
use Rattle.es_script.proofs.callback.are_named.Goals as goal

pub loop-index-preserved : goal.loop-index-preserved
loop-index-preserved c h =
    let x = c.index-callbacks-index.result in
    let y = c.index-names-index.result in
    let same : bytes_eq x.name y ≡ true = grind arith in
    c.loop-index.invariant (same_step (λ x. x.name) c.args.callbacks.now c.args.names.now c.loop-index.index x y (omega arith) (omega arith) c.index-callbacks-index.is c.index-names-index.is (equal_bytes x.name y same) h)
