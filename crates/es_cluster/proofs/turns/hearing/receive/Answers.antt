use Rattle.std.proofs.Common.{◌≡◌, ap, subst, Some}
use Rattle.es_event.specs.Ledger.{ended, front}
use Rattle.es_ledger.specs.Letters.{body_of, Received}
use Rattle.es_cluster.proofs.Hearing.{goes_on_ready, message_keeps, unreceived_keeps}
use Rattle.es_cluster.proofs.MovingMembers.{keeps_on, received_stays}
use Rattle.es_cluster.proofs.Tying.{receive_ties, takes, taking_grows}
use Rattle.es_cluster.proofs.Midway.{whole}
use Rattle.es_cluster.proofs.turns.hearing.receive.Goals as goal

pub receive-requires-clause-plain : goal.receive-requires-clause-plain
receive-requires-clause-plain g c = (subst (λ b. Received c.args.ledger.now.history b c.args.stake.now c.take.new.stake) c.in-Plain.is c.in-Some.ensures.stake).0

pub returns-in_err-receive-in-Plain-clause-keeps : goal.returns-in_err-receive-in-Plain-clause-keeps
returns-in_err-receive-in-Plain-clause-keeps g c =
    unreceived_keeps c.args.core.now c.receive.new.self c.args.stake.now c.take.new.stake c.args.ledger.now c.take.new.self c.args.stake.now.agent c.args.sender c.requires.ready c.in_err-receive-in-Plain.ensures.err (subst (λ b. Received c.args.ledger.now.history b c.args.stake.now c.take.new.stake) c.in-Plain.is c.in-Some.ensures.stake).1
    c.requires.ready.held.0 c.in-Some.ensures.history.1 c.in-Some.ensures.history.2

pub returns-in_ok-receive-in-Plain-clause-tied : goal.returns-in_ok-receive-in-Plain-clause-tied
returns-in_ok-receive-in-Plain-clause-tied g c =
    λ seated tied. receive_ties c.args.core.now c.receive.new.self c.args.stake.now c.args.ledger.now c.take.new.self.history c.args.sender c.in-Plain.value (whole c.requires.ready seated tied) c.requires.due c.in-Some.ensures.history.2 (subst (λ b. front c.args.ledger.now.history c.args.sender c.args.stake.now.agent ≡ Some (body_of b)) c.in-Plain.is c.in-Some.ensures.body) (subst (λ b. Received c.args.ledger.now.history b c.args.stake.now c.take.new.stake) c.in-Plain.is c.in-Some.ensures.stake).0
    c.in_ok-receive-in-Plain.ensures.ok

pub returns-in_ok-receive-in-Plain-clause-keeps : goal.returns-in_ok-receive-in-Plain-clause-keeps
returns-in_ok-receive-in-Plain-clause-keeps g c =
    message_keeps c.args.core.now c.receive.new.self c.args.stake.now c.take.new.stake c.args.ledger.now c.take.new.self c.args.stake.now.agent c.args.sender c.requires.ready
    (received_stays c.args.core.now c.receive.new.self c.in-Plain.value c.in_ok-receive-in-Plain.ensures.ok) (subst (λ b. Received c.args.ledger.now.history b c.args.stake.now c.take.new.stake) c.in-Plain.is c.in-Some.ensures.stake).1 c.requires.ready.held.0 c.in-Some.ensures.history.1 c.in-Some.ensures.history.2

pub returns-in_ok-admit-in-Block-clause-tied : goal.returns-in_ok-admit-in-Block-clause-tied
returns-in_ok-admit-in-Block-clause-tied g c =
    λ seated tied. c.in_ok-admit-in-Block.ensures.tied (takes c.args.core.now c.args.stake.now c.args.ledger.now c.take.new.self.history c.args.sender c.in-Block.ticket (whole c.requires.ready seated tied) c.requires.due c.in-Some.ensures.history.2 (subst (λ b. front c.args.ledger.now.history c.args.sender c.args.stake.now.agent ≡ Some (body_of b)) c.in-Block.is c.in-Some.ensures.body) (subst (λ b. Received c.args.ledger.now.history b c.args.stake.now c.take.new.stake) c.in-Block.is c.in-Some.ensures.stake).0)

pub returns-in_err-admit-in-Block-clause-keeps : goal.returns-in_err-admit-in-Block-clause-keeps
returns-in_err-admit-in-Block-clause-keeps g c =
    keeps_on c.args.core.now c.args.ledger.now c.take.new.self c.admit.new.ledger c.admit.new.core c.admit.new.stake c.admit.ensures.keeps c.in-Some.ensures.history.1 (ap (λ l. ended l c.args.core.now.number) c.in-Some.ensures.history.2)
    (taking_grows c.args.core.now c.args.ledger.now.history c.take.new.self.history c.args.stake.now.agent c.args.sender c.requires.ready.held.0 c.in-Some.ensures.history.2)

pub returns-in_ok-admit-in-Block-clause-keeps : goal.returns-in_ok-admit-in-Block-clause-keeps
returns-in_ok-admit-in-Block-clause-keeps g c =
    keeps_on c.args.core.now c.args.ledger.now c.take.new.self c.admit.new.ledger c.admit.new.core c.admit.new.stake c.admit.ensures.keeps c.in-Some.ensures.history.1 (ap (λ l. ended l c.args.core.now.number) c.in-Some.ensures.history.2)
    (taking_grows c.args.core.now c.args.ledger.now.history c.take.new.self.history c.args.stake.now.agent c.args.sender c.requires.ready.held.0 c.in-Some.ensures.history.2)

pub returns-in_ok-receive-in-Plain-clause-told : goal.returns-in_ok-receive-in-Plain-clause-told
returns-in_ok-receive-in-Plain-clause-told g c = goes_on_ready c.args.core.now c.args.ledger.now c.take.new.self c.args.sender c.requires.due c.requires.there

pub returns-in_ok-admit-in-Block-clause-told : goal.returns-in_ok-admit-in-Block-clause-told
returns-in_ok-admit-in-Block-clause-told g c = goes_on_ready c.args.core.now c.args.ledger.now c.admit.new.ledger c.args.sender c.requires.due c.requires.there
