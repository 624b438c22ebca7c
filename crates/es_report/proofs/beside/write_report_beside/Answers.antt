use Rattle.std.specs.Io.KnownBytes.{Appends}
use Rattle.es_event.specs.Report.{agents_text}
use Rattle.es_report.proofs.Written.{whole_written}
use Rattle.es_report.proofs.beside.write_report_beside.Goals as goal

pub returns-in-Ok : goal.returns-in-Ok
returns-in-Ok g c =
    let o = c.args.outcome.now in
    let agents : Appends (g.W.Write.contents c.args.writer.now) (g.W.Write.contents c.write_texts.new.writer) (agents_text o.names o.histories) = rw (c.as_slice-names.ensures, c.as_slice-histories.ensures) at c.in_ok-write_texts.ensures in
    whole_written o c.args.counts.now c.write_counts.result _ _ _ c.requires agents c.write_counts.ensures
