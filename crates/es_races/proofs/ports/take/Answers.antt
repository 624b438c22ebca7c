use Rattle.std.proofs.Common.{drop, ap, ◌∙◌, rules}
use Rattle.std.specs.HashMap.{get}
use Rattle.es_races.specs.Pass.{pair_eq, queue_in}
use Rattle.es_races.proofs.Mail.{port_after, queued_in}
use Rattle.es_races.proofs.ports.take.Goals as goal

pub returns-in-Some-clause-after : goal.returns-in-Some-clause-after
returns-in-Some-clause-after c =
    port_after (get pair_eq c.args.ports.now) (get pair_eq (c.get_mut.follows.lender c.pop.new.queue)) c.args.sender c.args.receiver c.pop.new.queue ((c.get_mut.follows.holds c.pop.new.queue).3 (search rules)).0
    (λ s r. drop 1 (queue_in c.args.ports.now s r))
    (c.pop.ensures.after ∙ ap (λ o. drop 1 (queued_in o)) c.in-Some.ensures.value)
