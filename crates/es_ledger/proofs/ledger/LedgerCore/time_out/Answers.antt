use Rattle.std.proofs.Common.{refl}
use Rattle.es_event.specs.declared.ledger_event.LedgerEvent.TheVariants.{Acted}
use Rattle.es_event.specs.declared.ledger_event.Act.TheVariants.{TimedOut}
use Rattle.es_ledger.proofs.Slept.{rising_room, timed_out_ties}
use Rattle.es_ledger.proofs.ledger.LedgerCore.time_out.Goals as goal

pub append-requires : goal.append-requires
append-requires g c =
    rising_room _ c.self.inside.history.events _ (Acted c.args.agent TimedOut) c.args.agent c.self.invariant (rw (← c.self.view_is) at c.requires.known) (rw (← c.self.view_is) at c.requires.asleep) (λ a. refl) (λ a. refl)

pub invariant_of-self : goal.invariant_of-self
invariant_of-self g c =
    rw (c.append.ensures.events, c.leave.ensures)
    (timed_out_ties _ c.self.inside.history.events _ _ c.args.agent c.self.invariant (rw (← c.self.view_is) at c.requires.known) (rw (← c.self.view_is) at c.requires.asleep) (rw (← c.self.view_is) at c.requires.listed) (rw (← c.self.view_is) at c.requires.chosen) c.append.ensures.room)
