use Rattle.std.proofs.Common.{ap, ℕ, take, length, reverse, ◌++◌, ◌∷◌, sym, ◌∙◌}
use Rattle.es_match.specs.Orderly.{may_come}
use Rattle.es_match.specs.DeedsShown.{owned}
use Rattle.es_match.proofs.Splitting.{for_number, split_on}
use Rattle.es_match.proofs.parts.step.Goals as goal

pub returns-clause-step : goal.returns-clause-step
returns-clause-step c = λ n l says s.
    let words = take c.following-count.result c.args.later.now in
    let doing = owned c.deed-doing.result in
    for_number n l (reverse words ++ c.args.event.now ∷ l) c.note.new.self c.args.parts.now.items c.add.new.parts.items s
    (λ own. split_on (length c.args.parts.now.items) l c.args.event.now words c.note.new.self c.args.parts.now.items c.add.new.parts.items doing
    c.following-count.ensures.nobodys c.following-count.ensures.words (c.deed-doing.ensures l says)
    (ap (λ (k : ℕ). may_come k l doing) (sym c.args.parts.now.ok.0 ∙ sym c.len.ensures) ∙ sym (c.may_come-comes.ensures.test l says) ∙ c.if-not-comes.false)
    (c.in_ok-note.ensures l says) c.in_ok-add.ensures.size c.in_ok-add.ensures.more own)
