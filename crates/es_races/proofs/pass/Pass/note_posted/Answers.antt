use Rattle.std.proofs.lemmas.Result.{on_ok_weaker}
use Rattle.es_races.proofs.Noting.{posted_says}
use Rattle.es_races.proofs.pass.Pass.note_posted.Goals as goal

pub returns : goal.returns
returns c = on_ok_weaker c.post.result (λ ports l stands.
    posted_says l c.args.sender c.args.receiver c.args.body.now _ c.args.self.now c.add_posted.new.tickets c.post.new.ports stands c.clock_of-clock.ensures c.in_ok-serial.ensures.serial c.in_ok-serial.ensures.added ports) c.post.ensures
