use Rattle.std.proofs.Common.{ℕ, ◌==◌, not, ap, ◌∙◌}
use Rattle.es_why.proofs.Weakly.{tells_entry}
use Rattle.es_why.proofs.held_weakly.has_entry.Goals as goal

pub returns : goal.returns
returns c =
    tells_entry c.args.agent.now.over _ c.args.agent.now.history c.history.ensures.run.0 c.args.key _ _ _ c.clear.ensures.items c.in_ok-entries_under.ensures
    (ap not (c.is_empty.ensures ∙ ap (λ (n : ℕ). n == 0) c.entries_under.new.found.ok.0))
