use Rattle.es_cluster.proofs.MovingMembers.{closing_owns}
use Rattle.calls.proofs.Holding.{closed_holds}
use Rattle.calls.proofs.alone.close.Goals as goal

pub spend_all-requires : goal.spend_all-requires
spend_all-requires g c = closing_owns c.args.core.now c.args.stake.now c.close-rack.result.tickets c.close-rack.ensures.rack c.requires.held

pub returns-clause-held : goal.returns-clause-held
returns-clause-held g c =
    closed_holds c.args.core.now c.close-rack.new.self c.args.stake.now c.spend_all.new.stake c.close-rack.result.tickets c.close-rack.ensures.records c.close-rack.ensures.rack c.requires.held c.spend_all.ensures.agent c.spend_all.ensures.counts
