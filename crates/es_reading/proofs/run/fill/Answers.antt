use Rattle.std.proofs.Common.{◌≡◌, ◌-◌, ◌++◌, ◌∷◌, [], None, length, replicate, append-nil, append_assoc, rules, ap, sym, ◌∙◌}
use Rattle.std.proofs.lemmas.List.{replicate_more}
use Rattle.es_reading.proofs.run.fill.Goals as goal

pub loop-init : goal.loop-init
loop-init c = sym (append-nil c.args.catches.now)

pub loop-preserved : goal.loop-preserved
loop-preserved c =
    c.in_ok-push.ensures.ok
    ∙ ap (λ o. c.loop.catches ++ o ∷ []) c.in_ok-none.ensures
    ∙ ap (λ l. l ++ None ∷ []) c.loop.invariant
    ∙ append_assoc c.args.catches.now (replicate c.loop.counter None) (None ∷ [])
    ∙ ap (λ l. c.args.catches.now ++ l) (replicate_more c.loop.counter None)

pub returns : goal.returns
returns c =
    let over = c.loop-test.false in
    let within = c.loop.auto.counter-end in
    let left = c.saturating_sub-missing.ensures in
    let size = c.as_slice.ensures in
    c.loop.invariant ∙ ap (λ n. c.args.catches.now ++ replicate n None) (let all : c.loop.counter ≡ c.args.place - length c.args.catches.now = search rules in all)
