use Rattle.es_races.proofs.Noting.{drained_says, spent_says}
use Rattle.es_races.proofs.pass.Pass.note.Goals as goal

pub returns-in_ok-note_opened-in-Opened : goal.returns-in_ok-note_opened-in-Opened
returns-in_ok-note_opened-in-Opened c = rw c.in-Opened.is (c.in_ok-note_opened-in-Opened.ensures c.in-Opened.words)

pub returns-in-Spent : goal.returns-in-Spent
returns-in-Spent c = rw c.in-Spent.is (λ l stands. spent_says l c.in-Spent.serial c.args.self.now c.hand.new.tickets stands c.hand.ensures)

pub returns-in-Drained : goal.returns-in-Drained
returns-in-Drained c = rw c.in-Drained.is (λ l stands. drained_says l c.in-Drained.sender c.in-Drained.receiver c.args.self.now c.take.new.ports stands c.take.ensures.after)
