use Rattle.es_why.proofs.Bounds.{bound}
use Rattle.es_why.proofs.agent_heap.AgentHeapHeap.made.Goals as goal

pub returns : goal.returns
returns c = bound c.args.self.now.agent.now.over c.args.self.now.agent.now c.args.self.now.names.now c.history.ensures.run.0 _ c.identities.ensures.made
