use Rattle.std.proofs.Common.{refl, sym, ◌∙◌}
use Rattle.es_reading.proofs.Items.{fit_none}
use Rattle.es_reading.proofs.operands.none.Goals as goal

pub returns-then-not-is_empty : goal.returns-then-not-is_empty
returns-then-not-is_empty g c =
    rw (c.fault.ensures, fit_none g.V.Seen.shown c.args.operands.now (sym c.is_empty.ensures ∙ c.if-not-is_empty.true)) refl
