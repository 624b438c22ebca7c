use Rattle.std.proofs.Common.{◌∙◌}
use Rattle.es_value.proofs.Searched.{is_in_from_search}
use Rattle.es_value.proofs.id_set.IdSet.has.Goals as goal

pub returns-then-self : goal.returns-then-self
returns-then-self c =
    rw (← c.self.view_is) (c.is_ok.ensures.value
    ∙ is_in_from_search _ _ _ c.binary_search.ensures.position (c.self.invariant c.if-self.true))
