use Rattle.std.proofs.Common.{sym, refl, subst}
use Rattle.es_trace.specs.Columns.{label, widest}
use Rattle.es_trace.specs.Kept.{kept_rows}
use Rattle.es_why.specs.Kept.{AreKept}
use Rattle.es_turns.proofs.collection.tell_kept.Goals as goal

pub returns-in-Ok : goal.returns-in-Ok
returns-in-Ok c = λ names h ids keeps.
    let ks = c.as_slice.result.now in
    let are = subst (λ ks. AreKept c.args.agent.now c.args.all ks) (sym c.as_slice.ensures.value) c.in_ok-kept.ensures in
    (kept_rows (label (widest 1 names) c.args.agent.now.plan.name) ks, (ks, are, refl), c.in-Ok.ensures names c.args.agent.now.plan h keeps)
