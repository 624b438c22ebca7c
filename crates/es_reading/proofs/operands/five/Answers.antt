use Rattle.std.proofs.Common.{[], ◌∷◌, refl}
use Rattle.es_reading.proofs.Items.{fit_else}
use Rattle.es_reading.proofs.operands.five.Goals as goal

pub returns-then-operands-ne5 : goal.returns-then-operands-ne5
returns-then-operands-ne5 g c = rw (c.fault.ensures, fit_else g.V.Seen.shown (g.A.Operand.kind ∷ g.B.Operand.kind ∷ g.C.Operand.kind ∷ g.D.Operand.kind ∷ g.E.Operand.kind ∷ []) c.args.operands.now c.if-operands-ne5.true) refl
