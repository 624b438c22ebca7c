use Rattle.es_outcome.proofs.Honest.{all_honest}
use Rattle.es_outcome.proofs.laws.nothing_that_an_agent_emptied_was_live.Goals as goal

pub returns : goal.returns
returns c plan o outcome = all_honest plan.agents o.histories outcome.agents outcome.runs.plans_are outcome.runs.histories_are outcome.runs.whole
