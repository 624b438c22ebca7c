use Rattle.std.proofs.Common.{◌∙◌, sym}
use Rattle.es_ledger.proofs.Emptying.{stepped, finished}
use Rattle.es_ledger.proofs.ledger.LedgerCore.drain_port.Goals as goal

pub loop-self-smaller : goal.loop-self-smaller
loop-self-smaller g c =
    (stepped c.loop-self.self.history c.drain_one.new.self.history c.args.sender c.args.receiver c.loop-self.self.agents (sym c.has_message.ensures ∙ c.loop-self-test.true) c.drain_one.ensures.history).fewer

pub loop-self-preserved : goal.loop-self-preserved
loop-self-preserved g c =
    let v = c.loop-self.invariant in
    let s = stepped c.loop-self.self.history c.drain_one.new.self.history c.args.sender c.args.receiver c.loop-self.self.agents (sym c.has_message.ensures ∙ c.loop-self-test.true) c.drain_one.ensures.history in
    record { agents = c.drain_one.ensures.agents ∙ v.agents; over = rw (c.drain_one.ensures.agents) (s.over ∙ v.over); each = s.each ∙ v.each }

pub returns-clause-history : goal.returns-clause-history
returns-clause-history g c =
    sym (finished c.loop-self.self.history c.args.sender c.args.receiver (sym c.has_message.ensures ∙ c.loop-self-test.false)) ∙ c.loop-self.invariant.each
