use Rattle.std.proofs.Common.{◌≡◌, ℕ, Bool, true, false, not, cond, ◌∙◌, refl, ◌||◌}
use Rattle.es_engine.proofs.engine.answer.Goals as goal

-- where nothing is only checked, there are as many as without turns
audits_in : (check turns : Bool) (watch : ℕ) → check ≡ false → ◌≡◌ {A = ℕ} (cond turns 0 watch) (cond (not (check || turns)) watch 0)
audits_in true turns watch e = cc
audits_in false true watch e = refl
audits_in false false watch e = refl

pub returns-clause-audits : goal.returns-clause-audits
returns-clause-audits g c = c.in_ok-ended.ensures.audits ∙ audits_in c.args.options.check c.args.options.turns c.args.options.watch c.if-options.false
