use Rattle.std.proofs.Common.{refl}
use Rattle.es_cluster.proofs.MovingMembers.{kept}
use Rattle.es_cluster.proofs.turns.finish.Goals as goal

pub returns-in_err-marks-clause-keeps : goal.returns-in_err-marks-clause-keeps
returns-in_err-marks-clause-keeps g c = kept c.args.core.now c.args.core.now c.args.stake.now c.args.stake.now c.args.ledger.now c.args.ledger.now c.requires.ready refl refl refl
