use Rattle.std.proofs.Common.{[], ◌∷◌, refl}
use Rattle.es_reading.proofs.Items.{fit_else}
use Rattle.es_reading.proofs.operands.three.Goals as goal

pub returns-then-operands-ne3 : goal.returns-then-operands-ne3
returns-then-operands-ne3 g c = rw (c.fault.ensures, fit_else g.V.Seen.shown (g.A.Operand.kind ∷ g.B.Operand.kind ∷ g.C.Operand.kind ∷ []) c.args.operands.now c.if-operands-ne3.true) refl
