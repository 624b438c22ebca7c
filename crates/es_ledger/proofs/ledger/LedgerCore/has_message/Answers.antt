use Rattle.std.proofs.Common.{◌∙◌, ap}
use Rattle.std.specs.Prelude.{not}
use Rattle.es_ledger.proofs.Waits.{port_filled, port_inside}
use Rattle.es_ledger.proofs.ledger.LedgerCore.has_message.Goals as goal

pub is_empty-requires : goal.is_empty-requires
is_empty-requires g c =
    let known = rw (← c.self.view_is) at c.requires in
    record { inside = port_inside _ c.self.inside.history.events _ c.args.sender c.args.receiver c.self.invariant known.0 known.1 }

pub returns : goal.returns
returns g c =
    let known = rw (← c.self.view_is) at c.requires in
    rw (← c.self.view_is) (ap not c.is_empty.ensures ∙ port_filled _ c.self.inside.history.events _ c.args.sender c.args.receiver c.self.invariant known.0 known.1)
