use Rattle.std.proofs.Common.{ap, map, sym, ◌∙◌, reverse}
use Rattle.std.specs.Io.KnownBytes.{Appends}
use Rattle.es_event.specs.Report.{agents_text}
use Rattle.es_report.specs.Tallies.{end_tally}
use Rattle.es_report.proofs.Written.{whole_written}
use Rattle.es_report.proofs.report.write_report_counted.Goals as goal

pub write_agents-requires : goal.write_agents-requires
write_agents-requires g c = c.tallies.ensures ∙ ap (λ s. s.tallies) c.requires ∙ ap (map (λ events. end_tally (reverse events))) (sym c.as_slice-2.ensures)

-- the cluster's totals are what its ledger says
pub returns : goal.returns
returns g c =
    let o = c.args.outcome.now in
    let agents : Appends (g.W.Write.contents c.args.writer.now) (g.W.Write.contents c.write_agents.new.writer) (agents_text o.names o.histories) = rw (c.as_slice.ensures, c.as_slice-2.ensures) at c.in_ok-write_agents.ensures in
    whole_written o c.args.counts.now c.write_counts.result _ _ _ c.requires agents c.write_counts.ensures
