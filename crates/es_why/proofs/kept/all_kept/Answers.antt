use Rattle.std.proofs.Common.{[], Result, Ok, Err}
use Rattle.std.specs.Prelude.{IfOk}
use Rattle.es_why.specs.Leads.{LeadsTo}
use Rattle.es_why.proofs.Sources.{ordered_led}
use Rattle.es_why.proofs.Told.{all_are_kept}
use Rattle.es_why.proofs.kept.all_kept.Goals as goal

if_each : {T E : Type 0} (r : Result T E) (P Q : T → Type 0) → ((x : T) → P x → Q x) → IfOk r P → IfOk r Q
if_each (Ok x) P Q f p = f x p
if_each (Err e) P Q f p = tt

pub kept_by-requires : goal.kept_by-requires
kept_by-requires c =
    rw (c.as_slice-ways.ensures.value, c.as_slice.ensures.value)
    (ordered_led (LeadsTo c.args.agent.now c.args.reasons.now.names.items) [] c.args.reasons.now.ways.list.items c.requires.ordered)

pub returns : goal.returns
returns c =
    if_each c.kept_by.result _ _
    (λ ks is.
    all_are_kept c.args.agent.now c.args.reasons.now.names.items c.args.reasons.now.ways.list.items ks.items c.requires (rw (c.as_slice-ways.ensures.value, c.as_slice.ensures.value) at is))
    c.kept_by.ensures
