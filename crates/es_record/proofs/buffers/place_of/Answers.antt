use Rattle.std.proofs.Common.{rules}
use Rattle.std.proofs.lemmas.List.Sorted.{answers_always}
use Rattle.es_tables.proofs.Outcomes.{if_map}
use Rattle.es_ticket.proofs.Racked.{searched}
use Rattle.es_record.proofs.Buffered.{err_map}
use Rattle.es_record.proofs.buffers.place_of.Goals as goal

-- the closure gives the identity
pub returns : goal.returns
returns c =
    let facts = c.binary_search_by_key.ensures in
    let by_key = facts.position (λ t. t.0) (answers_always _ _ _ (λ f a r g called. search rules)) in
    let both = searched c.args.all.now c.requires c.number.result c.args.buffer c.binary_search_by_key.result c.number.ensures.same facts.bound by_key in
    record { found = if_map c.binary_search_by_key.result _ _ (λ i p. (p.0, p.2)) both.found; missing = err_map c.binary_search_by_key.result _ _ (λ i p. p.1) both.missing }
