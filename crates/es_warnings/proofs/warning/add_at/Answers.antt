use Rattle.std.proofs.Common.{◌++◌, ap, sym, ◌∙◌, append-nil}
use Rattle.es_warnings.proofs.Telling.{nothing_at}
use Rattle.es_warnings.proofs.warning.add_at.Goals as goal

pub returns-in-None : goal.returns-in-None
returns-in-None c = λ past knows. sym (append-nil c.args.found.now.items) ∙ ap (λ l. c.args.found.now.items ++ l) (sym (nothing_at c.args.agent past c.args.variables.now c.args.index knows c.in-None.ensures.none))
