use Rattle.std.proofs.Common.{drop, ap, ◌∙◌, rules}
use Rattle.std.specs.HashMap.{get}
use Rattle.es_match.specs.LedgerPass.{port_in, pair_eq}
use Rattle.es_match.proofs.Posted.{port_after, queued_in}
use Rattle.es_match.proofs.mail.take.Goals as goal

pub returns-in-Some : goal.returns-in-Some
returns-in-Some c =
    port_after (get pair_eq c.args.mail.now) (get pair_eq (c.get_mut.follows.lender c.pop.new.queue)) c.args.sender
    c.args.receiver c.pop.new.queue ((c.get_mut.follows.holds c.pop.new.queue).3 (search rules)).0
    (λ s r. drop 1 (port_in c.args.mail.now s r))
    (c.pop.ensures ∙ ap (λ o. drop 1 (queued_in o)) c.in-Some.ensures.value)
