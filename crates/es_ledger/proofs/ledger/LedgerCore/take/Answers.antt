use Rattle.std.proofs.Common.{refl}
use Rattle.es_ledger.proofs.Sending.{none_there, letter_lies, taken_ties, received}
use Rattle.es_ledger.proofs.ledger.LedgerCore.take.Goals as goal

pub hand-requires : goal.hand-requires
hand-requires g c =
    let known = rw (← c.self.view_is) at c.requires.known in
    letter_lies _ c.self.inside.history.events _ c.args.sender c.number-receiver.result c.in-Some.body _ c.self.invariant known.0 (rw (c.number-receiver.ensures) known.1) c.in-Some.ensures.here

pub invariant_of-self : goal.invariant_of-self
invariant_of-self g c =
    let known = rw (← c.self.view_is) at c.requires.known in
    rw (c.append.ensures.events, c.hand.ensures.table.0, c.hand.ensures.table.1, ← c.number-receiver.ensures)
    (taken_ties _ c.self.inside.history.events _ _ _ _ c.args.sender c.number-receiver.result c.in-Some.body c.self.invariant known.0 (rw (c.number-receiver.ensures) known.1)
    c.in-Some.ensures.size c.in-Some.ensures.here c.in-Some.ensures.others c.in-Some.ensures.messages c.append.ensures.room)

pub returns-in-Some-clause-stake : goal.returns-in-Some-clause-stake
returns-in-Some-clause-stake g c =
    let known = rw (← c.self.view_is) at c.requires.known in
    rw (← c.self.view_is)
    (received _ c.self.inside.history.events _ c.args.sender c.number-receiver.result c.in-Some.body _ c.args.stake.now c.hand.new.stake c.self.invariant known.0 (rw (c.number-receiver.ensures) known.1)
    c.in-Some.ensures.here c.hand.ensures.stake)

pub returns-in-None-clause-none : goal.returns-in-None-clause-none
returns-in-None-clause-none g c =
    let known = rw (← c.self.view_is) at c.requires.known in
    let none = none_there _ c.self.inside.history.events _ c.args.sender c.number-receiver.result c.self.invariant known.0 (rw (c.number-receiver.ensures) known.1) c.in-None.ensures.none in
    (rw (← c.self.view_is) (rw (c.number-receiver.ensures) at none), c.self.view_is, refl)
