use Rattle.std.proofs.Common.{◌≡◌, arith, refl}
use Rattle.es_cluster.proofs.Finishing.{asked_all, asked_mover, asked_next}
use Rattle.es_cluster.proofs.Watching.{kept_asked, kept_begun, kept_then}
use Rattle.es_cluster.proofs.cluster.ClusterCore.ask_each.Goals as goal

pub loop-agent-preserved : goal.loop-agent-preserved
loop-agent-preserved g c = record {
  asked = asked_next c.in_ok-advance.field-0 c.loop-agent.agent c.args.self.now c.loop-agent.self c.advance.new.self c.loop-agent.invariant.asked c.in-Waiting.is c.in_ok-advance.ensures.turned c.in_ok-advance.ensures.hears;
  watched = kept_then _ _ _ _ _ _ _ _ _ _ _ c.loop-agent.invariant.watched
      (kept_asked _ _ c.in_ok-advance.field-0 c.loop-agent.agent c.loop-agent.self c.advance.new.self c.loop-agent.watcher c.advance.new.watcher c.in_ok-advance.ensures.turned c.in_ok-advance.ensures.told c.in_ok-advance.ensures.known c.in-Waiting.is c.in_ok-advance.ensures.hears c.loop-agent.invariant.asked.settled);
}

pub returns-in-Moved-clause-watched : goal.returns-in-Moved-clause-watched
returns-in-Moved-clause-watched g c =
    kept_then _ _ _ _ _ _ _ _ _ _ _ c.loop-agent.invariant.watched
    (kept_begun _ _ c.in_ok-advance.field-0 c.loop-agent.agent c.loop-agent.self c.advance.new.self c.loop-agent.watcher c.advance.new.watcher c.in_ok-advance.ensures.turned c.in_ok-advance.ensures.told c.in_ok-advance.ensures.known c.in-Moved.is c.in_ok-advance.ensures.hears c.loop-agent.invariant.asked.settled)

pub returns-in-Moved-clause-asked : goal.returns-in-Moved-clause-asked
returns-in-Moved-clause-asked g c =
    asked_mover c.in_ok-advance.field-0 c.loop-agent.agent (record { agent = c.loop-agent.agent; cleans = c.is_cleaning-cleans.result }) c.args.self.now c.loop-agent.self c.advance.new.self c.loop-agent.invariant.asked refl c.is_cleaning-cleans.ensures c.in-Moved.is c.in_ok-advance.ensures.turned c.in_ok-advance.ensures.hears c.in_ok-advance.ensures.works

pub returns-clause-asked : goal.returns-clause-asked
returns-clause-asked g c =
    let past = c.loop-agent-test.false in
    let upto = c.loop-agent.auto.agent-end in
    let size = c.agents-agent-end.ensures.ledger in
    let all : c.loop-agent.agent ≡ c.args.self.now.ledger.agents = omega (arith, past, upto, size) in
    asked_all c.loop-agent.agent c.args.self.now c.loop-agent.self all c.loop-agent.invariant.asked
