use Rattle.std.proofs.Common.{sym, ◌∙◌, ap, true}
use Rattle.es_match.specs.Split.{stretches_said}
use Rattle.es_match.specs.Goes.{goes}
use Rattle.es_match.specs.Meets.{nothing_came}
use Rattle.es_match.proofs.Calming.{goes_by_the_last}
use Rattle.es_match.proofs.calm.goes_from.Goals as goal

pub returns-then-is_calm : goal.returns-then-is_calm
returns-then-is_calm c =
    let said = stretches_said c.args.part.now in
    rw (goes_by_the_last true c.args.history.now said (c.requires c.if-is_calm.true) ∙ ap (λ es. goes true nothing_came es said) (sym c.last.ensures)) c.goes.ensures
