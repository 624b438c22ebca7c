use Rattle.std.proofs.Common.{refl, ap}
use Rattle.es_event.specs.declared.ledger_event.Body.TheVariants.{Plain}
use Rattle.es_event.specs.Ledger.{ended}
use Rattle.es_cluster.proofs.Aims.{posts_plain}
use Rattle.es_cluster.proofs.MovingMembers.{kept, kept_after, done_keeps}
use Rattle.es_cluster.proofs.Tying.{post_grows, post_ties}
use Rattle.es_cluster.proofs.Midway.{whole}
use Rattle.es_cluster.proofs.turns.asking.post.Goals as goal

pub post-requires-clause-plain : goal.post-requires-clause-plain
post-requires-clause-plain g c = posts_plain c.args.core.now c.args.receiver c.args.value c.requires.due

pub returns-in_err-post-clause-keeps : goal.returns-in_err-post-clause-keeps
returns-in_err-post-clause-keeps g c = kept c.args.core.now c.args.core.now c.args.stake.now c.args.stake.now c.args.ledger.now c.post.new.self c.requires.ready refl refl c.in_err-post.ensures.err

pub returns-in_err-answer_done-clause-keeps : goal.returns-in_err-answer_done-clause-keeps
returns-in_err-answer_done-clause-keeps g c =
    let deeds = post_grows c.args.core.now c.args.ledger.now.history c.post.new.self.history c.number.result c.args.receiver (Plain c.args.value) c.number.ensures c.in_ok-post.ensures.history.1 in
    kept_after c.args.core.now c.answer_done.new.self c.args.stake.now c.args.stake.now c.args.ledger.now c.post.new.self c.requires.ready c.in_err-answer_done.ensures.err refl
    c.in_ok-post.ensures.history.0 (ap (λ l. ended l c.args.core.now.number) c.in_ok-post.ensures.history.1) deeds

pub returns-clause-tied : goal.returns-clause-tied
returns-clause-tied g c =
    λ seated tied. post_ties c.args.core.now c.answer_done.new.self c.args.stake.now c.args.ledger.now c.post.new.self.history c.number.result c.args.receiver c.args.value (whole c.requires.ready seated tied) c.requires.due
    (posts_plain c.args.core.now c.args.receiver c.args.value c.requires.due) c.number.ensures c.in_ok-post.ensures.history.1 c.in_ok-answer_done.ensures.ok

pub returns-clause-keeps : goal.returns-clause-keeps
returns-clause-keeps g c =
    let deeds = post_grows c.args.core.now c.args.ledger.now.history c.post.new.self.history c.number.result c.args.receiver (Plain c.args.value) c.number.ensures c.in_ok-post.ensures.history.1 in
    done_keeps c.args.core.now c.answer_done.new.self _ c.args.ledger.now c.post.new.self c.args.stake.now c.args.stake.now c.in_ok-answer_done.ensures.ok refl c.requires.ready.held
    c.in_ok-post.ensures.history.0 (ap (λ l. ended l c.args.core.now.number) c.in_ok-post.ensures.history.1) deeds
