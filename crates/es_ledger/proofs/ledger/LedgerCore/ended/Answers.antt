use Rattle.es_ledger.proofs.Ending.{ended_room, ended_ties}
use Rattle.es_ledger.proofs.ledger.LedgerCore.ended.Goals as goal

pub append-requires : goal.append-requires
append-requires g c =
    ended_room _ c.self.inside.history.events _ c.args.agent c.self.invariant (rw (← c.self.view_is) at c.requires.known) (rw (← c.self.view_is) at c.requires.before)

pub invariant_of-self : goal.invariant_of-self
invariant_of-self g c =
    rw (c.append.ensures.events, c.leave.ensures)
    (ended_ties _ c.self.inside.history.events _ _ c.args.agent c.self.invariant (rw (← c.self.view_is) at c.requires.known) (rw (← c.self.view_is) at c.requires.before) c.append.ensures.room)
