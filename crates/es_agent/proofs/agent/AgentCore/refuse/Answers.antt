use Rattle.es_agent.proofs.agent.AgentCore.refuse.Goals as goal

pub caught-requires-clause-refused : goal.caught-requires-clause-refused
caught-requires-clause-refused g c = rw (c.read.ensures, c.self.view_is) c.requires.refused
