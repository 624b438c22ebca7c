use Rattle.std.proofs.Common.{reverse}
use Rattle.std.specs.Result.{OnOk}
use Rattle.std.specs.Io.KnownBytes.{Appends}
use Rattle.std.proofs.KnownBytes.{Appends-trans}
use Rattle.std.proofs.lemmas.Result.{on_ok_weaker}
use Rattle.es_event.specs.Report.{end_line}
use Rattle.es_report.proofs.agent.write_agent.Goals as goal

-- what is written at the end is what the history says
pub returns : goal.returns
returns g c =
    let ended : OnOk c.write_end.result (Appends (g.W.Write.contents c.write_events.new.writer) (g.W.Write.contents c.write_end.new.writer) (end_line (reverse c.args.history.now))) = rw c.requires at c.write_end.ensures in
    on_ok_weaker c.write_end.result (Appends-trans _ _ _ _ (end_line (reverse c.args.history.now)) c.in_ok-write_events.ensures) ended
