use Rattle.es_laws.proofs.Refusing.{alike_refused}
use Rattle.es_laws.proofs.laws.a_refusal_changes_nothing.Goals as goal

pub returns : goal.returns
returns c = alike_refused
