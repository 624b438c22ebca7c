use Rattle.es_laws.proofs.Refusing.{caught_alone}
use Rattle.es_laws.proofs.laws.a_caught_refusal_assigns_its_text_alone.Goals as goal

pub returns : goal.returns
returns c = caught_alone
