use Rattle.std.proofs.Common.{Result, Ok, Err}
use Rattle.std.specs.Prelude.{IfOk}
use Rattle.es_why.proofs.Equivalence.{are_reasons}
use Rattle.es_why.proofs.reasons.ways_of.Goals as goal

if_both : {T E : Type 0} (r : Result T E) (P Q R : T → Type 0) → ((x : T) → P x → Q x → R x) → IfOk r P → IfOk r Q → IfOk r R
if_both (Ok x) P Q R f p q = f x p q
if_both (Err e) P Q R f p q = tt

pub returns : goal.returns
returns c =
    if_both c.find_ways.result _ _ _
    (λ w ways shortest. are_reasons c.args.agent.now c.args.names.now c.args.agent.now.over w.list.items c.history.ensures.run c.requires ways shortest) c.find_ways.ensures.ways
    c.find_ways.ensures.shortest
