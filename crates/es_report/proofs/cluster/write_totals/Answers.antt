use Rattle.std.proofs.Common.{◌++◌, codes, decimal, append_assoc}
use Rattle.std.specs.Result.{OnOk}
use Rattle.std.specs.Io.KnownBytes.{Appends}
use Rattle.es_report.proofs.cluster.write_totals.Goals as goal

pub returns : goal.returns
returns g c =
    let t = c.args.totals.now in
    let told : OnOk c.writeln.result (Appends (g.W.Write.contents c.args.writer.now) (g.W.Write.contents c.writeln.new.self) (codes "cluster\nblocks " ++ (decimal t.opened ++ (codes " released " ++ (decimal c.args.released ++ (codes "\nmessages posted " ++ (decimal t.posted ++ (codes " taken " ++ (decimal t.taken ++ (codes " drained " ++ (decimal t.drained ++ codes "\n")))))))))))
    = c.writeln.ensures.bytes in
    simp append_assoc told
