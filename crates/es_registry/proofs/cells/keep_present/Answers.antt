use Rattle.std.proofs.Common.{rules}
use Rattle.std.proofs.lemmas.Fn.{filter_same}
use Rattle.es_registry.specs.Slots.{is_present, passes_at}
use Rattle.es_registry.proofs.cells.keep_present.Goals as goal

pub returns-clause-items : goal.returns-clause-items
returns-clause-items c = filter_same _ (passes_at is_present c.args.slots.now) _ (λ x b f' k. search rules) _ _ c.retain.ensures.filtered
