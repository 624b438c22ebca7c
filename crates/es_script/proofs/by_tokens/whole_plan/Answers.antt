use Rattle.std.proofs.Common.{◌≡◌, [], arith}
use Rattle.es_script.proofs.TakingPlan.{whole_plan}
use Rattle.es_script.proofs.by_tokens.whole_plan.Goals as goal

pub returns : goal.returns
returns c =
    let none : c.plan_in.new.reader ≡ [] = grind arith in
    whole_plan c.args.text.now c.in_ok-agents.agents c.in-Ok.reader c.plan_in.new.reader c.in-Ok.ensures.ok c.in_ok-agents.ensures none
