use Rattle.std.proofs.Common.{rules, ◌==◌}
use Rattle.std.specs.Prelude.{not}
use Rattle.std.proofs.lemmas.Fn.{filter_same}
use Rattle.es_event.specs.declared.waiter.Waiter.{Waiter}
use Rattle.es_ledger.proofs.waiters.leave.Goals as goal

pub returns : goal.returns
returns c = filter_same _ (λ (w : Waiter). not (w.agent == c.args.agent)) _ (λ x b f' k. search rules) _ _ c.retain.ensures.filtered
