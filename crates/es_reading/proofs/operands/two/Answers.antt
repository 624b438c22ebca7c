use Rattle.std.proofs.Common.{[], ◌∷◌, refl}
use Rattle.es_reading.proofs.Items.{fit_else}
use Rattle.es_reading.proofs.operands.two.Goals as goal

pub returns-then-operands-ne2 : goal.returns-then-operands-ne2
returns-then-operands-ne2 g c = rw (c.fault.ensures, fit_else g.V.Seen.shown (g.A.Operand.kind ∷ g.B.Operand.kind ∷ []) c.args.operands.now c.if-operands-ne2.true) refl
