use Rattle.std.proofs.Common.{sym, subst}
use Rattle.es_rules.specs.Needs.{need, TakesWaitResult}
use Rattle.es_cluster.specs.Members.{Holds}
use Rattle.es_cluster.proofs.MovingMembers.{holds_still, done_stays}
use Rattle.calls.proofs.taking.answer_wait.Goals as goal

pub returns-in-Ok-clause-ok : goal.returns-in-Ok-clause-ok
returns-in-Ok-clause-ok g c = holds_still c.args.core.now c.answer_wait.new.self c.args.stake.now (done_stays c.args.core.now c.answer_wait.new.self _ c.in-Ok.ensures.ok) c.requires.held

pub returns-in-Err-clause-err : goal.returns-in-Err-clause-err
returns-in-Err-clause-err g c = record {
  asked = subst (λ b. TakesWaitResult (need b)) (sym c.in-Err.ensures.err) c.requires.takes;
  held = subst (λ b. Holds b c.args.stake.now) (sym c.in-Err.ensures.err) c.requires.held;
}
