use Rattle.std.proofs.Common.{[], ◌∷◌, refl}
use Rattle.es_reading.proofs.Items.{fit_else}
use Rattle.es_reading.proofs.operands.four.Goals as goal

pub returns-then-operands-ne4 : goal.returns-then-operands-ne4
returns-then-operands-ne4 g c = rw (c.fault.ensures, fit_else g.V.Seen.shown (g.A.Operand.kind ∷ g.B.Operand.kind ∷ g.C.Operand.kind ∷ g.D.Operand.kind ∷ []) c.args.operands.now c.if-operands-ne4.true) refl
