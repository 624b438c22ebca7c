use Rattle.std.proofs.Common.{arith, rules, nat_eq, Some}
use Rattle.std.proofs.lemmas.Bool.Decides.{nat_tests}
use Rattle.std.specs.HashMap.{Updates}
use Rattle.es_registry.proofs.Found.{found_is_lookup}
use Rattle.es_registry.proofs.registries.Registries.make.Goals as goal

pub returns-clause-callbacks : goal.returns-clause-callbacks
returns-clause-callbacks c =
    let updates : Updates nat_eq c.self.inside.callbacks c.insert.new.self c.args.registry (Some c.args.callback) = search rules in
    rw (← c.self.view_is) (λ q.
    let before = found_is_lookup c.self.inside.callbacks.entries q in
    let after = found_is_lookup c.insert.new.self.entries q in
    let changed = updates.0 q in
    grind (arith, nat_tests, before, after, changed))
