use Rattle.std.proofs.Common.{◌==◌, max, cond, sym, ◌∙◌, ap}
use Rattle.es_races.specs.Pass.{count_in, known_in}
use Rattle.es_races.proofs.Noting.{taken_says, untaken_says}
use Rattle.es_races.proofs.pass.Pass.note_taken.Goals as goal

pub returns : goal.returns
returns c = λ l stands.
    taken_says l c.args.sender c.args.receiver c.in-Some.message c.args.self.now c.hand_some.new.tickets c.take.new.ports c.set_clock.new.clocks stands (sym c.in-Some.ensures.first) c.hand_some.ensures c.in-Some.ensures.after
    (λ a j few small. c.set_clock.ensures a j few
    ∙ ap (λ n. cond (c.args.receiver == a) n (known_in c.args.self.now.known a j)) (c.join.ensures j small ∙ ap (λ n. max n (count_in c.in-Some.message.clock j)) (c.clock_of-clock.ensures j)))

pub returns-in_default : goal.returns-in_default
returns-in_default c = λ l stands. untaken_says l c.args.sender c.args.receiver c.args.self.now c.take.new.ports stands (sym c.in_default.ensures.first) c.in_default.ensures.after
