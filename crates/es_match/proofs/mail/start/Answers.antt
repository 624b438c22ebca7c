use Rattle.std.proofs.Common.{[], ◌∷◌, ◌++◌, ap, ◌∙◌}
use Rattle.std.specs.HashMap.{get}
use Rattle.es_match.specs.LedgerPass.{port_in, pair_eq, bodies}
use Rattle.es_match.proofs.Posted.{port_after, first_message, on_ok}
use Rattle.es_match.proofs.mail.start.Goals as goal

pub returns : goal.returns
returns c = on_ok c.put.result (λ put.
    port_after (get pair_eq c.args.mail.now) (get pair_eq c.put.new.map) c.args.sender c.args.receiver c.push.new.queue put.0
    (λ s r. port_in c.args.mail.now s r ++ c.args.body.now ∷ [])
    (first_message _ _ c.args.body.now c.requires (c.in_ok-push.ensures
    ∙ ap (λ l. bodies l ++ c.args.body.now ∷ []) c.new-queue.ensures.items))) c.put.ensures
