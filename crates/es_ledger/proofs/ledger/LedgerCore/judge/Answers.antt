use Rattle.std.proofs.Common.{◌∙◌, sym}
use Rattle.es_ledger.proofs.Waits.{passed_room, passed_ties}
use Rattle.es_ledger.proofs.ledger.LedgerCore.judge.Goals as goal

pub append-requires : goal.append-requires
append-requires g c =
    let known = rw (← c.self.view_is) at c.requires.known in
    let for_it = rw (← c.self.view_is) at c.waits_for.ensures in
    passed_room _ c.self.inside.history.events _ c.args.agent c.args.sender c.self.invariant known.0 (sym for_it ∙ c.if-waits_for.true)

pub invariant_of-self : goal.invariant_of-self
invariant_of-self g c =
    let known = rw (← c.self.view_is) at c.requires.known in
    let for_it = rw (← c.self.view_is) at c.waits_for.ensures in
    let skip = rw (← c.self.view_is) at c.skips.ensures in
    rw (c.append.ensures.events)
    (passed_ties _ c.self.inside.history.events _ _ c.args.agent c.args.sender c.self.invariant known.0 (sym for_it ∙ c.if-waits_for.true) (sym skip ∙ c.if-skips.true) c.append.ensures.room)
