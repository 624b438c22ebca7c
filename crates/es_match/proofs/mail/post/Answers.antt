use Rattle.std.proofs.Common.{[], ◌∷◌, ◌++◌, ap, ◌∙◌, rules}
use Rattle.std.specs.HashMap.{get}
use Rattle.es_match.specs.LedgerPass.{port_in, pair_eq}
use Rattle.es_match.proofs.Posted.{port_after, queued_in, on_ok}
use Rattle.es_match.proofs.mail.post.Goals as goal

pub returns : goal.returns
returns c = on_ok c.push.result (λ pushed.
    port_after (get pair_eq c.args.mail.now) (get pair_eq (c.get_mut.follows.lender c.push.new.queue)) c.args.sender
    c.args.receiver c.push.new.queue ((c.get_mut.follows.holds c.push.new.queue).3 (search rules)).0
    (λ s r. port_in c.args.mail.now s r ++ c.args.body.now ∷ [])
    (pushed ∙ ap (λ o. queued_in o ++ c.args.body.now ∷ []) c.in-Some.ensures.value)) c.push.ensures
