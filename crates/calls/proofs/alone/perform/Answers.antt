use Rattle.std.proofs.Common.{sym, subst}
use Rattle.es_cluster.specs.Members.{Holds}
use Rattle.es_cluster.proofs.MovingMembers.{holds_still, local_leaves}
use Rattle.calls.proofs.alone.perform.Goals as goal

pub returns-in_err-perform : goal.returns-in_err-perform
returns-in_err-perform g c = subst (λ b. Holds b c.args.stake.now) (sym c.in_err-perform.ensures.err) c.requires.held

pub returns : goal.returns
returns g c = holds_still c.args.core.now c.perform.new.self c.args.stake.now (local_leaves c.args.core.now c.perform.new.self c.requires.due c.in_ok-perform.ensures.ok) c.requires.held
