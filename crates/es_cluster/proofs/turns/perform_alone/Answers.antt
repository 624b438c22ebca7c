use Rattle.std.proofs.Common.{refl}
use Rattle.es_cluster.proofs.Growing.{grows_none}
use Rattle.es_cluster.proofs.MovingMembers.{kept, keeps, local_leaves, holds_still}
use Rattle.es_cluster.proofs.Tying.{local_ties}
use Rattle.es_cluster.proofs.Midway.{whole}
use Rattle.es_cluster.proofs.Taking.{taken, either}
use Rattle.es_cluster.proofs.turns.perform_alone.Goals as goal

pub returns-clause-tied : goal.returns-clause-tied
returns-clause-tied g c =
    taken c.perform_alone.result c.perform_alone.ensures.asks c.perform_alone.ensures.done
    (λ due steps seated tied. local_ties c.args.core.now c.perform_alone.new.self c.args.stake.now c.args.ledger.now (whole c.requires.ready seated tied) due.0 c.history.ensures.run c.history.ensures.named steps)

pub returns-clause-keeps : goal.returns-clause-keeps
returns-clause-keeps g c =
    either c.perform_alone.result c.perform_alone.ensures.asks c.perform_alone.ensures.done c.perform_alone.ensures.left c.perform_alone.ensures.err
    (λ due steps.
    let stays = local_leaves c.args.core.now c.perform_alone.new.self due.0 steps in
    keeps c.args.core.now c.perform_alone.new.self c.args.ledger.now c.args.ledger.now c.args.stake.now stays.step (holds_still c.args.core.now c.perform_alone.new.self c.args.stake.now stays c.requires.ready.held)
    refl refl (grows_none c.args.core.now.number c.args.ledger.now.history))
    (λ same. kept c.args.core.now c.perform_alone.new.self c.args.stake.now c.args.stake.now c.args.ledger.now c.args.ledger.now c.requires.ready same refl refl)
