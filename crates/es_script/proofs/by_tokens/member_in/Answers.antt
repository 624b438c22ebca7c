use Rattle.std.proofs.Common.{refl}
use Rattle.es_script.proofs.TakingPlan.{plan_agents, plan_version}
use Rattle.es_script.proofs.by_tokens.member_in.Goals as goal

pub returns-in_ok-agents-in-agents-clause-taken : goal.returns-in_ok-agents-in-agents-clause-taken
returns-in_ok-agents-in-agents-clause-taken c =
    let agents = c.in_ok-agents-in-agents in
    plan_agents c.args.overview.now.version c.args.key.now c.args.reader.now c.agents_in.new.reader c.args.draft.now _ c.in-agents.is agents.agents agents.ensures refl refl

pub returns-in_ok-version-in-version-clause-taken : goal.returns-in_ok-version-in-version-clause-taken
returns-in_ok-version-in-version-clause-taken c =
    let version = c.in_ok-version-in-version in
    plan_version c.args.overview.now.version c.args.key.now c.args.reader.now c.version_in.new.reader c.args.draft.now _ c.in-version.is version.version version.ensures refl refl
