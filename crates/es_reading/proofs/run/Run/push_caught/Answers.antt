use Rattle.std.proofs.Common.{◌++◌, ◌∷◌, [], Some, length, ap, ◌∙◌}
use Rattle.es_reading.proofs.Lines.{caught_more, filled}
use Rattle.es_reading.proofs.run.Run.push_caught.Goals as goal

pub returns : goal.returns
returns c =
    let old = c.args.self.now in
    caught_more c.push-2.result old _ c.args.to c.args.command c.push-2.ensures.ok
    (c.in_ok-push.ensures.ok
    ∙ ap (λ o. c.fill.new.catches ++ o ∷ []) c.in_ok-some.ensures
    ∙ ap (λ k. k ++ Some c.args.to ∷ []) c.in_ok-fill.ensures
    ∙ ap (λ n. filled old.catches n ++ Some c.args.to ∷ []) (ap length c.as_slice-place.ensures))
