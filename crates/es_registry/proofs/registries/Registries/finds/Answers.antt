use Rattle.std.proofs.Common.{◌∙◌, ap}
use Rattle.std.specs.List.{list_any}
use Rattle.es_value.specs.Ids.{is_in}
use Rattle.es_registry.specs.Slots.{has_token, passes_at}
use Rattle.es_registry.proofs.Indexing.{any_at_listed}
use Rattle.es_registry.proofs.registries.Registries.finds.Goals as goal

pub returns : goal.returns
returns c =
    rw (← c.self.view_is)
    (c.any_has_token.ensures ∙ ap (λ xs. list_any (passes_at (has_token c.args.registry c.args.token) xs) c.places-places.result.now) c.all.ensures.all
    ∙ any_at_listed (has_token c.args.registry c.args.token) c.self.inside.cells.all c.places-places.result.now
    (λ k h. ap (λ ks. is_in ks k) c.places-places.ensures ∙ c.self.invariant.by_token c.args.registry c.args.token k h))
