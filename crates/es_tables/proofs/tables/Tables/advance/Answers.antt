use Rattle.std.proofs.Common.{ap, refl}
use Rattle.std.specs.Prelude.{unwrap_or}
use Rattle.std.specs.Str.{bytes_eq}
use Rattle.es_event.specs.History.{at_key}
use Rattle.es_tables.specs.Tables.{bound}
use Rattle.es_tables.proofs.Applying.{takes_alone}
use Rattle.es_tables.proofs.tables.Tables.advance.Goals as goal

pub returns-then-is_still-clause-ok : goal.returns-then-is_still-clause-ok
returns-then-is_still-clause-ok c =
    let tables = c.args.self.now in
    let still = c.if-is_still.ensures refl in
    takes_alone _ _ tables tables.variables (still.0 c.args.again) (λ x. ap (λ a. unwrap_or (at_key bytes_eq x a) (bound tables.variables x)) (still.1 c.args.received.now))
