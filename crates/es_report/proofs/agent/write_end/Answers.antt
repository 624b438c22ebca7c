use Rattle.std.proofs.Common.{◌++◌, codes, decimal, append_assoc}
use Rattle.std.specs.Result.{OnOk}
use Rattle.std.specs.Io.KnownBytes.{Appends}
use Rattle.es_report.proofs.agent.write_end.Goals as goal

pub returns : goal.returns
returns g c =
    let t = c.args.tally.now in
    let told : OnOk c.writeln.result (Appends (g.W.Write.contents c.args.writer.now) (g.W.Write.contents c.writeln.new.self) (codes "end live " ++ (decimal t.live ++ (codes " awaiting " ++ (decimal t.awaiting ++ (codes " unregistered " ++ (decimal t.unregistered ++ (codes " taken " ++ (decimal t.taken ++ codes "\n"))))))))) = c.writeln.ensures.bytes in
    simp append_assoc told
