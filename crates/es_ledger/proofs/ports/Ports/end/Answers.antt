use Rattle.std.proofs.Common.{◌≡◌, ◌∙◌, ◌+◌, ◌++◌, ◌∷◌, [], ap, arith, sym, length, length-append}
use Rattle.std.specs.Prelude.{slice_index_or}
use Rattle.es_ledger.specs.Ports.{no_queue}
use Rattle.es_ledger.proofs.Columns.{before_last}
use Rattle.es_ledger.proofs.ports.Ports.end.Goals as goal

pub loop-preserved : goal.loop-preserved
loop-preserved g c =
    let split : c.loop.queues.items ≡ c.pop.new.self.items ++ c.in-Some.queue ∷ [] = c.in-Some.ensures.items in
    let long : length c.loop.queues.items ≡ length c.pop.new.self.items + 1 = ap (λ l. length l) split ∙ length-append c.pop.new.self.items (c.in-Some.queue ∷ []) in
    let was = c.loop.invariant.rest in
    record {
      rest = omega (arith, long, was);
      empty = λ i. before_last c.pop.new.self.items c.in-Some.queue i (λ j. ap (λ l. (slice_index_or l j no_queue).letters) (sym split) ∙ c.loop.invariant.empty j);
    }
