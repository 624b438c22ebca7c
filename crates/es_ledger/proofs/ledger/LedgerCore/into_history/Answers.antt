use Rattle.es_ledger.proofs.Emptying.{none_anywhere}
use Rattle.es_ledger.proofs.ledger.LedgerCore.into_history.Goals as goal

pub end-requires : goal.end-requires
end-requires g c = none_anywhere _ c.self.inside.history.events _ c.self.invariant (rw (← c.self.view_is) at c.requires)
