use Rattle.es_ledger.proofs.After.{holder_here}
use Rattle.std.proofs.Common.{arith}
use Rattle.es_ledger.proofs.Auditing.{held_few}
use Rattle.es_ledger.proofs.Tying.{in_history}
use Rattle.es_ledger.proofs.ledger.LedgerCore.look.Goals as goal

pub returns-clause-holder : goal.returns-clause-holder
returns-clause-holder g c =
    rw (← c.self.view_is)
    (λ r has. holder_here _ c.self.inside.history.events c.args.stake.now.agent r c.self.invariant.legal.0
    (in_history _ c.args.stake.now.agent _ c.self.inside.history.events r has c.look.ensures.told c.self.invariant.tabled))

pub returns-clause-few : goal.returns-clause-few
returns-clause-few g c =
    rw (← c.self.view_is)
    (let few = held_few _ c.self.inside.history.events c.self.inside.rows.rows c.self.invariant.legal.0 c.self.invariant.tabled in omega (arith, few, c.made.ensures.count, c.made.ensures.small))
