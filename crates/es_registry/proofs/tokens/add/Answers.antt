use Rattle.std.proofs.Common.{[], ◌∷◌, ◌++◌, ap, ◌∙◌, rules}
use Rattle.std.specs.Option.{option_map_or}
use Rattle.std.specs.HashMap.{get}
use Rattle.es_registry.specs.Places.{listed}
use Rattle.es_registry.specs.Registries.{pair_eq}
use Rattle.es_registry.proofs.Listed.{listed_after}
use Rattle.es_registry.proofs.tokens.add.Goals as goal

pub returns : goal.returns
returns c =
    listed_after (get pair_eq c.args.tokens.now) (get pair_eq (c.get_mut.follows.lender c.push.new.self)) c.args.registry c.args.token c.push.new.self ((c.get_mut.follows.holds c.push.new.self).3 (search rules)).0
    (λ x y. listed c.args.tokens.now x y ++ c.args.place ∷ [])
    (c.push.ensures ∙ ap (λ o. option_map_or (λ w. w.items) o [] ++ c.args.place ∷ []) c.in-Some.ensures.value)
