use Rattle.std.proofs.Common.{rules}
use Rattle.std.proofs.lemmas.List.Sorted.{answers_always}
use Rattle.es_ticket.proofs.Racked.{searched}
use Rattle.es_ticket.proofs.rack.place_of.Goals as goal

-- the closure gives the identity
pub returns : goal.returns
returns g c =
    let facts = c.binary_search_by_key.ensures in
    let by_key = facts.position (λ t. t.0) (answers_always _ _ _ (λ f a r g called. search rules)) in
    let both = searched c.args.kept.now c.requires c.number.result c.args.id c.binary_search_by_key.result c.number.ensures.same facts.bound by_key in
    record { found = both.found; positive = c.number.ensures.positive; missing = both.missing }
