use Rattle.std.proofs.Common.{refl}
use Rattle.es_cluster.proofs.Growing.{grows_none}
use Rattle.es_cluster.proofs.MovingMembers.{kept, keeps, local_leaves, holds_still}
use Rattle.es_cluster.proofs.Tying.{local_ties}
use Rattle.es_cluster.proofs.Midway.{whole}
use Rattle.es_cluster.proofs.turns.perform.Goals as goal

pub returns-in_err-perform-clause-keeps : goal.returns-in_err-perform-clause-keeps
returns-in_err-perform-clause-keeps g c = kept c.args.core.now c.perform.new.self c.args.stake.now c.args.stake.now c.args.ledger.now c.args.ledger.now c.requires.ready c.in_err-perform.ensures.err refl refl

pub returns-clause-tied : goal.returns-clause-tied
returns-clause-tied g c =
    λ seated tied. local_ties c.args.core.now c.perform.new.self c.args.stake.now c.args.ledger.now (whole c.requires.ready seated tied) c.requires.due c.history.ensures.run c.history.ensures.named c.in_ok-perform.ensures.ok

pub returns-clause-keeps : goal.returns-clause-keeps
returns-clause-keeps g c =
    let stays = local_leaves c.args.core.now c.perform.new.self c.requires.due c.in_ok-perform.ensures.ok in
    keeps c.args.core.now c.perform.new.self c.args.ledger.now c.args.ledger.now c.args.stake.now stays.step (holds_still c.args.core.now c.perform.new.self c.args.stake.now stays c.requires.ready.held)
    refl refl (grows_none c.args.core.now.number c.args.ledger.now.history)
