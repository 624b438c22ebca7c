use Rattle.std.proofs.Common.{◌∙◌, ap, length}
use Rattle.std.specs.Prelude.{max}
use Rattle.es_trace.proofs.Widening.{wider_on, widest_of}
use Rattle.es_trace.proofs.names.width_of.Goals as goal

pub loop-name-preserved : goal.loop-name-preserved
loop-name-preserved c =
    wider_on c.args.names.now c.loop-name.name-index c.loop-name.width c.wider-width.result c.name-item.result c.loop-name-test.true c.name-item.is
    (c.wider-width.ensures ∙ ap (λ b. max c.loop-name.width (length b)) c.as_bytes.ensures.same) c.loop-name.invariant

pub returns : goal.returns
returns c = widest_of c.args.names.now c.loop-name.name-index c.loop-name.width c.loop-name-test.false c.loop-name.invariant
