use Rattle.std.proofs.Common.{sym, subst}
use Rattle.es_rules.specs.Needs.{TakesDone}
use Rattle.es_cluster.proofs.Aims.{posts_plain}
use Rattle.calls.proofs.asking.post.Goals as goal

pub post-requires-clause-plain : goal.post-requires-clause-plain
post-requires-clause-plain g c = posts_plain c.args.core.now c.args.receiver c.args.value c.requires.due

pub returns-clause-ok : goal.returns-clause-ok
returns-clause-ok g c = record { asked = subst (λ n. TakesDone n) (sym c.requires.due) tt; held = c.requires.held }
