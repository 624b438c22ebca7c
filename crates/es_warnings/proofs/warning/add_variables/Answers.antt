use Rattle.std.proofs.Common.{◌++◌, ap, sym, ◌∙◌, append_assoc, arith}
use Rattle.es_warnings.specs.Known.{of_variable_at}
use Rattle.es_warnings.specs.Warnings.{variables}
use Rattle.es_warnings.proofs.Telling.{all_told, flat_map_take}
use Rattle.es_warnings.proofs.warning.add_variables.Goals as goal

pub loop-index-preserved : goal.loop-index-preserved
loop-index-preserved c =
    λ past knows. c.in_ok-add_at.ensures past knows ∙ ap (λ l. l ++ of_variable_at c.args.agent past c.loop-index.index) (c.loop-index.invariant past knows)
    ∙ append_assoc c.args.found.now.items _ _ ∙ ap (λ l. c.args.found.now.items ++ l) (sym (flat_map_take _ c.loop-index.index (variables past)))

pub returns : goal.returns
returns c = λ past knows. c.loop-index.invariant past knows ∙ ap (λ l. c.args.found.now.items ++ l) (all_told c.args.agent past c.args.variables.now c.loop-index.index knows (omega (arith, c.loop-index-test.false, c.count-index-end.ensures, c.loop-index.auto.index-end)))
