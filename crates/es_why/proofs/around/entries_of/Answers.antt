use Rattle.es_why.proofs.Said.{added_entries}
use Rattle.es_why.proofs.around.entries_of.Goals as goal

pub returns : goal.returns
returns c = added_entries c.args.agent.now.history c.args.key _ _ c.new-entries.ensures.items c.in_ok-entries_under.ensures
