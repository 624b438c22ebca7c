use Rattle.std.proofs.lemmas.Result.{on_ok_weaker}
use Rattle.es_why.proofs.Found.{finds_entries}
use Rattle.es_why.proofs.agent_heap.AgentHeapHeap.entries.Goals as goal

pub returns : goal.returns
returns c =
    on_ok_weaker c.add_pairs.result
    (λ added.
    finds_entries c.args.self.now.agent.now.over c.args.self.now.agent.now c.args.self.now.names.now c.history.ensures.run.0 c.args.key _ _ _
    (rw c.new-all.ensures.items at c.in_ok-entries_under.ensures) (rw c.as_slice.ensures.value at added))
    c.add_pairs.ensures
