use Rattle.es_cluster.proofs.MovingMembers.{closing_owns}
use Rattle.calls.proofs.player.Player.abandon.Goals as goal

pub spend_all-requires : goal.spend_all-requires
spend_all-requires g c = closing_owns c.self.inside.core c.self.inside.stake c.abandon-rack.result.tickets c.abandon-rack.ensures c.self.invariant
