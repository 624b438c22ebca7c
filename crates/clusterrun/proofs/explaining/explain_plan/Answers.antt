use Rattle.std.proofs.Common.{subst}
use Rattle.es_explain.specs.Explaining.{Explains}
use Rattle.clusterrun.proofs.explaining.explain_plan.Goals as goal

pub returns-in-Ok-clause-explains : goal.returns-in-Ok-clause-explains
returns-in-Ok-clause-explains g c =
    let e = c.in_ok-explanation.explanation in
    (e, (c.in_ok-bytes.bytes.items, c.in_ok-bytes.ensures.all, subst (λ b. Explains b e) c.as_slice.ensures.value c.in_ok-explanation.ensures, c.fault_in.ensures), c.in-Ok.ensures)
