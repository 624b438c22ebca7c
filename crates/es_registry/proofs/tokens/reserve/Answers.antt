use Rattle.std.proofs.Common.{[], ap, ◌∙◌, sym, rules}
use Rattle.std.specs.Option.{option_map_or}
use Rattle.std.specs.HashMap.{get}
use Rattle.std.specs.Map.{lookup}
use Rattle.es_registry.specs.Places.{listed}
use Rattle.es_registry.specs.Registries.{pair_eq}
use Rattle.es_registry.proofs.Rooms.{either_way}
use Rattle.es_registry.proofs.Listed.{listed_still}
use Rattle.es_registry.proofs.tokens.reserve.Goals as goal

pub returns-in-Some-clause-same : goal.returns-in-Some-clause-same
returns-in-Some-clause-same c =
    listed_still (get pair_eq c.args.tokens.now) (get pair_eq (c.get_mut.follows.lender c.reserve.new.self)) c.args.registry c.args.token c.reserve.new.self ((c.get_mut.follows.holds c.reserve.new.self).3 (search rules)).0
    (c.reserve.ensures.same ∙ ap (λ o. option_map_or (λ w. w.items) o []) c.in-Some.ensures.value)

pub returns-clause-same : goal.returns-clause-same
returns-clause-same c = λ r t.
    either_way c.put.result c.put.ensures.ok c.put.ensures.err
    (λ after.
    listed_still (get pair_eq c.get_mut.follows.lender-at-none) (get pair_eq c.put.new.map) c.args.registry c.args.token c.none.result after.0
    (ap (λ p. p.items) c.none.ensures ∙ ap (λ o. option_map_or (λ w. w.items) o []) c.in_default.ensures.value ∙ ap (λ m. listed m c.args.registry c.args.token) (sym c.get_mut.follows.holds-at-none)) r t
    ∙ ap (λ m. listed m r t) c.get_mut.follows.holds-at-none)
    (λ same. ap (λ es. option_map_or (λ w. w.items) (lookup (pair_eq (r, t)) es) []) same ∙ ap (λ m. listed m r t) c.get_mut.follows.holds-at-none)
