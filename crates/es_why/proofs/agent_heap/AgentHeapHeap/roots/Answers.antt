use Rattle.std.proofs.lemmas.Result.{on_ok_weaker}
use Rattle.es_why.proofs.Found.{finds_roots}
use Rattle.es_why.proofs.agent_heap.AgentHeapHeap.roots.Goals as goal

pub returns : goal.returns
returns c =
    on_ok_weaker c.add_held.result
    (λ held.
    finds_roots c.args.self.now.agent.now.over c.args.self.now.agent.now c.args.self.now.names.now c.history.ensures.run.0 _ _ _ _ _ c.in_ok-add_variables.ensures c.in_ok-add_kept.ensures
    c.in_ok-add_registries.ensures held)
    c.add_held.ensures
