use Rattle.std.proofs.Common.{sym}
use Rattle.es_report.proofs.Looked.{made_after}
use Rattle.es_report.proofs.looking.next_done.Goals as goal

pub returns-in-Some-clause-tells : goal.returns-in-Some-clause-tells
returns-in-Some-clause-tells c = λ answer h says.
    rw c.with_made.ensures (made_after c.args.command.now c.args.values.now answer c.args.number h c.args.looked c.in-Some.made (sym c.in-Some.ensures) says)
