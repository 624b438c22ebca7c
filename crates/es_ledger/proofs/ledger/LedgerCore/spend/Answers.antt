use Rattle.es_ledger.proofs.After.{holder_here}
use Rattle.es_ledger.proofs.Tying.{in_history, stake_counted, stake_room, spent_ties, spent_last}
use Rattle.es_ledger.proofs.ledger.LedgerCore.spend.Goals as goal

pub lose-released-requires : goal.lose-released-requires
lose-released-requires g c = rw (c.block-block.ensures) (stake_counted _ _ _ c.args.stake.now.agent _ c.args.ticket c.self.invariant c.requires c.look.ensures.told)

pub append-requires : goal.append-requires
append-requires g c = stake_room _ _ _ c.args.stake.now.agent _ c.args.ticket c.self.invariant c.requires c.look.ensures.told

pub invariant_of-self : goal.invariant_of-self
invariant_of-self g c =
    let has = in_history _ c.args.stake.now.agent _ c.self.inside.history.events c.args.ticket c.requires c.look.ensures.told c.self.invariant.tabled in
    rw (c.append.ensures.events, c.serial-serial.ensures, c.lose-released.ensures.now, c.block-block.ensures, c.spend.ensures.table.0, c.spend.ensures.table.1, c.look.ensures.same.0)
    (spent_ties _ _ _ _ c.args.stake.now.agent c.args.ticket c.self.invariant has c.append.ensures.room)

pub returns-clause-released : goal.returns-clause-released
returns-clause-released g c =
    let last = rw (c.block-block.ensures) at c.lose-released.ensures.released in
    rw (c.append.ensures.events, c.serial-serial.ensures)
    (spent_last _ c.self.inside.history.events _ c.args.stake.now.agent _ c.args.ticket c.lose-released.result c.self.invariant c.requires c.look.ensures.told last)

pub returns-clause-holder : goal.returns-clause-holder
returns-clause-holder g c =
    rw (← c.self.view_is)
    (holder_here _ c.self.inside.history.events c.args.stake.now.agent c.args.ticket c.self.invariant.legal.0
    (in_history _ c.args.stake.now.agent _ c.self.inside.history.events c.args.ticket c.requires c.look.ensures.told c.self.invariant.tabled))
