use Rattle.std.proofs.Common.{[], ◌∷◌, ◌++◌, ap, sym, ◌∙◌}
use Rattle.std.specs.HashMap.{get}
use Rattle.std.proofs.lemmas.Result.{on_ok_weaker}
use Rattle.es_races.specs.Pass.{pair_eq, queue_in}
use Rattle.es_races.proofs.Mail.{port_after}
use Rattle.es_races.proofs.ports.start.Goals as goal

pub returns : goal.returns
returns c = on_ok_weaker c.put.result (λ updates.
    port_after (get pair_eq c.args.ports.now) (get pair_eq c.put.new.map) c.args.sender c.args.receiver c.push.new.queue updates.0
    (λ s r. queue_in c.args.ports.now s r ++ c.args.message ∷ [])
    (c.in_ok-push.ensures ∙ ap (λ l. l ++ c.args.message ∷ []) (c.new-queue.ensures.items ∙ sym c.requires))) c.put.ensures
