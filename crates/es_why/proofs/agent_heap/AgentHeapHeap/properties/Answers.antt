use Rattle.std.proofs.Common.{sym}
use Rattle.std.proofs.lemmas.Result.{on_ok_weaker}
use Rattle.es_record.proofs.Reached.{here_of}
use Rattle.es_why.proofs.Found.{finds_properties, finds_nothing}
use Rattle.es_why.proofs.agent_heap.AgentHeapHeap.properties.Goals as goal

pub add_properties-requires : goal.add_properties-requires
add_properties-requires c = here_of c.args.self.now.agent.now.history c.args.object (sym c.if-not-is_there.ensures)

pub returns-then-not-is_there : goal.returns-then-not-is_there
returns-then-not-is_there c = finds_nothing c.args.self.now.agent.now.over c.args.self.now.agent.now c.args.self.now.names.now c.history.ensures.run.0 c.args.object _ (sym c.if-not-is_there.ensures)

pub returns : goal.returns
returns c =
    on_ok_weaker c.add_properties.result
    (λ added.
    finds_properties c.args.self.now.agent.now.over c.args.self.now.agent.now c.args.self.now.names.now c.history.ensures.run.0 c.args.object _ _ (sym c.if-not-is_there.ensures) added)
    c.add_properties.ensures
