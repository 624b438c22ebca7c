use Rattle.std.proofs.Common.{[], ◌∷◌, ◌++◌, ap, ◌∙◌, rules}
use Rattle.std.specs.HashMap.{get}
use Rattle.std.proofs.lemmas.Result.{on_ok_weaker}
use Rattle.es_races.specs.Pass.{pair_eq, queue_in}
use Rattle.es_races.proofs.Mail.{port_after, queued_in}
use Rattle.es_races.proofs.ports.post.Goals as goal

pub returns : goal.returns
returns c = on_ok_weaker c.push.result (λ pushed.
    port_after (get pair_eq c.args.ports.now) (get pair_eq (c.get_mut.follows.lender c.push.new.queue)) c.args.sender c.args.receiver c.push.new.queue ((c.get_mut.follows.holds c.push.new.queue).3 (search rules)).0
    (λ s r. queue_in c.args.ports.now s r ++ c.args.message ∷ [])
    (pushed ∙ ap (λ o. queued_in o ++ c.args.message ∷ []) c.in-Some.ensures.value)) c.push.ensures
