use Rattle.std.proofs.Common.{◌∙◌, ap, refl, sym, length}
use Rattle.es_value.specs.Ids.{is_in}
use Rattle.es_registry.specs.Places.{listed}
use Rattle.es_registry.proofs.Indexing.{registered_stays_indexed}
use Rattle.es_registry.proofs.Rooms.{can_list}
use Rattle.es_registry.proofs.registries.Registries.register.Goals as goal

pub list-requires : goal.list-requires
list-requires c = can_list c.self.inside.tokens c.args.registry c.args.token (rw (← c.self.view_is) at c.requires.of_token)

pub invariant_of-self : goal.invariant_of-self
invariant_of-self c =
    rw (c.push.ensures, c.slot_of-slot.ensures)
    (registered_stays_indexed c.self.inside.cells.all _ c.self.inside.tokens c.list.new.tokens c.self.inside.waiting refl c.self.invariant c.list.ensures.kept
    (λ t is. ap (λ xs. is_in (listed c.list.new.tokens c.args.registry t) (length xs)) (sym c.all-place.ensures.all) ∙ c.list.ensures.new t is))
