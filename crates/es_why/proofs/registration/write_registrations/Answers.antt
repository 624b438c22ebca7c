use Rattle.std.proofs.Common.{◌+◌, arith}
use Rattle.es_why.specs.Picture.{registration_at}
use Rattle.es_why.proofs.Ranged.{written_more}
use Rattle.es_why.proofs.registration.write_registrations.Goals as goal

pub loop-before-preserved : goal.loop-before-preserved
loop-before-preserved g c =
    written_more (registration_at c.args.agent.now.history) c.loop-before.before (c.loop-before.before + 1) _ _ _ (omega arith) c.loop-before.invariant c.in_ok-write_registration_at.ensures
