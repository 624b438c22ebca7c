use Rattle.std.proofs.Common.{◌≡◌, true, sym}
use Rattle.es_parmark.proofs.Gathering.{gathered_nothing}
use Rattle.es_parmark.proofs.expanding.gather_one.Goals as goal

pub returns-else-not-has : goal.returns-else-not-has
returns-else-not-has c = gathered_nothing _ (λ _. true) (λ t i. t i ≡ true) (λ t. t c.args.id ≡ true) _ (λ t within. within c.args.id (sym c.if-not-has.ensures))
