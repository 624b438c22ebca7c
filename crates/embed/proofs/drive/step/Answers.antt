use Rattle.std.proofs.Common.{sym}
use Rattle.embed.proofs.Local.{local_meets}
use Rattle.embed.proofs.drive.step.Goals as goal

pub returns-in_ok-perform-in-Local-clause-ok : goal.returns-in_ok-perform-in-Local-clause-ok
returns-in_ok-perform-in-Local-clause-ok g c =
    let done = c.in_ok-perform-in-Local.ensures.ok in
    (done.0, done.2, local_meets c.args.agent.now done.0 c.args.outside.now (sym c.in-Local.ensures) done.1)
