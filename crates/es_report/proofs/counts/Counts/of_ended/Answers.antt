use Rattle.std.proofs.Common.{reverse, ap, ◌∙◌}
use Rattle.es_report.specs.LedgerTotals.{told}
use Rattle.es_report.proofs.Ending.{ended_counts}
use Rattle.es_report.proofs.counts.Counts.of_ended.Goals as goal

pub returns : goal.returns
returns c = ended_counts c.args.outcome.now c.args.tallies.items c.totals_of-totals.result c.requires.tallies c.requires.none_left (c.totals_of-totals.ensures ∙ ap (λ es. told (reverse es)) c.as_slice.ensures)
