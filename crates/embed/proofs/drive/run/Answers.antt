use Rattle.std.proofs.Common.{◌∙◌, sym, ap}
use Rattle.embed.proofs.Ending.{so_long, whole_run}
use Rattle.embed.proofs.drive.run.Goals as goal

pub returns-in-Ok-clause-whole : goal.returns-in-Ok-clause-whole
returns-in-Ok-clause-whole c =
    whole_run c.args.plan c.advance.new.agent _ (c.advance.ensures.plan ∙ ap (λ b. b.plan) c.in_ok-agent.ensures) (sym c.into_history.ensures.events)
    c.into_history.ensures.run c.in-Ok.ensures.ended

pub returns-in-Err-clause-long : goal.returns-in-Err-clause-long
returns-in-Err-clause-long c =
    λ is. so_long c.args.plan c.advance.new.agent c.args.limit (c.advance.ensures.plan ∙ ap (λ b. b.plan) c.in_ok-agent.ensures) c.history.ensures.run (c.in-Err.ensures.long is)
