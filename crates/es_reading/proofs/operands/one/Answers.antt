use Rattle.std.proofs.Common.{[], ◌∷◌, refl}
use Rattle.es_reading.proofs.Items.{fit_else}
use Rattle.es_reading.proofs.operands.one.Goals as goal

pub returns-then-operands-ne1 : goal.returns-then-operands-ne1
returns-then-operands-ne1 g c = rw (c.fault.ensures, fit_else g.V.Seen.shown (g.A.Operand.kind ∷ []) c.args.operands.now c.if-operands-ne1.true) refl
