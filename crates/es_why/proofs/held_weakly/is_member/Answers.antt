use Rattle.std.proofs.Common.{ℕ, ◌==◌, not, ap, ◌∙◌}
use Rattle.es_why.proofs.Weakly.{tells_member}
use Rattle.es_why.proofs.held_weakly.is_member.Goals as goal

pub returns : goal.returns
returns c =
    tells_member c.args.agent.now.over _ c.args.agent.now.history c.history.ensures.run.0 c.args.member _ _ _ c.clear.ensures.items c.in_ok-sets_with.ensures
    (ap not (c.is_empty.ensures ∙ ap (λ (n : ℕ). n == 0) c.sets_with.new.found.ok.0))
