use Rattle.es_match.proofs.Splitting.{pushed}
use Rattle.es_match.proofs.parts.add_stretch.Goals as goal

pub returns-clause-here : goal.returns-clause-here
returns-clause-here c = pushed c.push.result c.args.parts.now.items c.args.agent c.push.new.self c.index_mut.result.now _ c.requires c.index_mut.ensures.value c.push.ensures.ok
