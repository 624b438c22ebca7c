use Rattle.std.proofs.Common.{refl, ◌==◌}
use Rattle.es_event.specs.declared.event.Event.TheVariants.{Taken}
use Rattle.es_report.specs.declared.fates.Fate.TheVariants.{Taken as WasTaken}
use Rattle.es_report.proofs.Looked.{removed}
use Rattle.es_report.proofs.looking.next.Goals as goal

pub returns-in-Did-clause-tells : goal.returns-in-Did-clause-tells
returns-in-Did-clause-tells c = rw c.in-Did.is (rw (c.command.ensures, c.values.ensures) at (c.next_done.ensures.tells c.in-Did.done.2))

pub returns-in-Taken-clause-tells : goal.returns-in-Taken-clause-tells
returns-in-Taken-clause-tells c = rw c.in-Taken.is (λ h says.
    rw c.removed_if.ensures (removed (Taken c.in-Taken.registration c.in-Taken.held) c.args.number h c.args.looked (c.in-Taken.registration == c.args.number) WasTaken refl refl says))
