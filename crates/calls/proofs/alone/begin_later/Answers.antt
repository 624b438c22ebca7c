use Rattle.std.proofs.Common.{sym, subst}
use Rattle.es_cluster.specs.Members.{Holds}
use Rattle.es_cluster.proofs.MovingMembers.{holds_still, opened_leaves}
use Rattle.calls.proofs.alone.begin_later.Goals as goal

pub returns-in_err-_copy : goal.returns-in_err-_copy
returns-in_err-_copy g c = subst (λ b. Holds b c.args.stake.now) (sym c.in_err-_copy.ensures.err) c.requires.held

pub returns : goal.returns
returns g c = holds_still c.args.core.now c.begin_later.new.self c.args.stake.now (opened_leaves c.args.core.now c.begin_later.new.self c.requires.due c.in_ok-_copy.ensures.records) c.requires.held
