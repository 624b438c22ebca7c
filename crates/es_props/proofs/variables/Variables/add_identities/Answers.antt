use Rattle.std.proofs.Common.{sym, ◌∙◌, append-nil}
use Rattle.es_props.proofs.Found.{adds_bound}
use Rattle.es_props.proofs.variables.Variables.add_identities.Goals as goal

pub returns : goal.returns
returns c =
    let gives = c.into_iter-value-iterator.ensures.into_iter_gives in
    let added = rw c.in-None.ensures.steps.0 at c.loop-value.invariant in
    adds_bound c.args.self.now _ _ (rw (← c.self.view_is) gives.4) (sym (append-nil c.loop-value.found.items) ∙ added)
