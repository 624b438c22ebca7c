use Rattle.es_why.proofs.Said.{added_sets}
use Rattle.es_why.proofs.around.sets_of.Goals as goal

pub returns : goal.returns
returns c = added_sets c.args.agent.now.history c.args.member _ _ c.new-sets.ensures.items c.in_ok-sets_with.ensures
