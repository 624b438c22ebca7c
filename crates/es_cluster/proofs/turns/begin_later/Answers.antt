use Rattle.std.proofs.Common.{refl}
use Rattle.es_cluster.proofs.Growing.{grows_none}
use Rattle.es_cluster.proofs.MovingMembers.{kept, keeps, opened_leaves, holds_still}
use Rattle.es_cluster.proofs.Tying.{opened_ties}
use Rattle.es_cluster.proofs.Midway.{whole}
use Rattle.es_cluster.proofs.turns.begin_later.Goals as goal

pub returns-in_err-_copy-clause-keeps : goal.returns-in_err-_copy-clause-keeps
returns-in_err-_copy-clause-keeps g c = kept c.args.core.now c.begin_later.new.self c.args.stake.now c.args.stake.now c.args.ledger.now c.args.ledger.now c.requires.ready c.in_err-_copy.ensures.err refl refl

pub returns-clause-tied : goal.returns-clause-tied
returns-clause-tied g c =
    λ seated tied. opened_ties c.args.core.now c.begin_later.new.self c.args.stake.now c.args.ledger.now (whole c.requires.ready seated tied) c.requires.due c.in_ok-_copy.ensures.records

pub returns-clause-keeps : goal.returns-clause-keeps
returns-clause-keeps g c =
    let stays = opened_leaves c.args.core.now c.begin_later.new.self c.requires.due c.in_ok-_copy.ensures.records in
    keeps c.args.core.now c.begin_later.new.self c.args.ledger.now c.args.ledger.now c.args.stake.now stays.step (holds_still c.args.core.now c.begin_later.new.self c.args.stake.now stays c.requires.ready.held)
    refl refl (grows_none c.args.core.now.number c.args.ledger.now.history)

pub returns-clause-ok : goal.returns-clause-ok
returns-clause-ok g c = (opened_leaves c.args.core.now c.begin_later.new.self c.requires.due c.in_ok-_copy.ensures.records).moves
