use Rattle.es_why.proofs.Weakly.{all_flagged}
use Rattle.es_why.proofs.held_weakly.held_weakly.Goals as goal

pub returns : goal.returns
returns c = all_flagged c.args.agent.now.over _ c.args.agent.now.history c.history.ensures.run.0 _ c.pass_registrations.ensures
