use Rattle.std.proofs.lemmas.Result.{on_ok_weaker}
use Rattle.es_races.proofs.Noting.{opened_says}
use Rattle.es_races.proofs.pass.Pass.note_opened.Goals as goal

pub returns : goal.returns
returns c = on_ok_weaker c.add.result (λ added w l stands. opened_says l c.args.block w c.args.serial c.args.agent c.args.self.now c.add.new.tickets stands added) c.add.ensures
