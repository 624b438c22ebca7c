use Rattle.std.proofs.Common.{sym, subst}
use Rattle.es_cluster.specs.Members.{Holds}
use Rattle.es_cluster.proofs.MovingMembers.{collected_owns, collected_holds}
use Rattle.calls.proofs.alone.finish.Goals as goal

pub spend_all-requires : goal.spend_all-requires
spend_all-requires g c = collected_owns c.args.core.now c.finish_later.new.self c.args.stake.now c.in_ok-rack.rack.tickets c.in_ok-rack.ensures.ok c.requires.held

pub returns-in_err-rack-clause-held : goal.returns-in_err-rack-clause-held
returns-in_err-rack-clause-held g c = subst (λ b. Holds b c.args.stake.now) (sym c.in_err-rack.ensures.err) c.requires.held

pub returns-clause-held : goal.returns-clause-held
returns-clause-held g c =
    collected_holds c.args.core.now c.finish_later.new.self c.args.stake.now c.spend_all.new.stake c.in_ok-rack.rack.tickets c.in_ok-rack.ensures.ok c.requires.held c.spend_all.ensures.agent c.spend_all.ensures.counts
