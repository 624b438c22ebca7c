use Rattle.std.proofs.Common.{sym, ◌∙◌, ap, Some}
use Rattle.es_props.proofs.Sought.{value_here}
use Rattle.es_props.proofs.few.Few.get.Goals as goal

pub returns-in-Some : goal.returns-in-Some
returns-in-Some c =
    let place = rw (← c.self.view_is) at c.in-Some.ensures.there in
    rw (← c.self.view_is) (ap (λ p. Some p.1) c.index.ensures ∙ sym (value_here c.self.inside.entries.items c.args.key.now c.in-Some.at c.index.result.now place))
