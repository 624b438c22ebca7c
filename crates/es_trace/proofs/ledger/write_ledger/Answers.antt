use Rattle.std.proofs.Common.{◌≡◌, ◌∙◌, ap, codes}
use Rattle.std.proofs.lemmas.Result.{on_ok_weaker}
use Rattle.es_trace.specs.Columns.{label}
use Rattle.es_trace.specs.Ledger.{ledger_label}
use Rattle.es_trace.proofs.Written.{ledger_written}
use Rattle.es_trace.proofs.ledger.write_ledger.Goals as goal

pub returns : goal.returns
returns g c =
    let named : c.as_slice-label.result.now ≡ ledger_label c.args.names.now = c.as_slice-label.ensures.value ∙ c.in_ok-label.ensures ∙ ap (λ n. label n (codes "-")) c.width_of.ensures in
    on_ok_weaker c.write_blocks.result (λ last. ledger_written c.args.names.now _ c.args.events.now c.args.blocks.now _ _ _ named c.in_ok-write_events.ensures last) c.write_blocks.ensures
