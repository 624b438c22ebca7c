use Rattle.std.proofs.Common.{codes, ◌++◌}
use Rattle.std.proofs.KnownBytes.{Appends-trans}
use Rattle.std.proofs.lemmas.Result.{on_ok_weaker}
use Rattle.es_races.specs.Texts.{line_text}
use Rattle.es_races.proofs.text.write_race.Goals as goal

pub returns : goal.returns
returns g c =
    let first = Appends-trans _ _ _ (codes "race\n") (line_text c.args.earlier) c.in_ok-write_all.ensures.bytes c.in_ok-write_line.ensures in
    on_ok_weaker c.write_line-2.result (Appends-trans _ _ _ (codes "race\n" ++ line_text c.args.earlier) (line_text c.args.later) first) c.write_line-2.ensures
