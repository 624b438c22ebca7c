use Rattle.std.proofs.Common.{refl}
use Rattle.es_reading.specs.Reading.{said}
use Rattle.es_script.proofs.TakingAgents.{agent_callbacks, agent_jobs, agent_name}
use Rattle.es_script.proofs.agent.member_in.Goals as goal

pub returns-in_ok-callbacks-in-callbacks-clause-taken : goal.returns-in_ok-callbacks-in-callbacks-clause-taken
returns-in_ok-callbacks-in-callbacks-clause-taken c =
    let callbacks = c.in_ok-callbacks-in-callbacks in
    agent_callbacks (said c.args.scope.now) c.args.agent c.args.key.now c.args.reader.now c.callbacks_in.new.reader c.args.draft.now _ c.in-callbacks.is callbacks.callbacks callbacks.ensures refl refl refl

pub returns-in_ok-jobs-in-jobs-clause-taken : goal.returns-in_ok-jobs-in-jobs-clause-taken
returns-in_ok-jobs-in-jobs-clause-taken c =
    let jobs = c.in_ok-jobs-in-jobs in
    agent_jobs (said c.args.scope.now) c.args.agent c.args.key.now c.args.reader.now c.jobs_in.new.reader c.args.draft.now _ c.in-jobs.is jobs.jobs jobs.ensures refl refl refl

pub returns-in_ok-name-in-name-clause-taken : goal.returns-in_ok-name-in-name-clause-taken
returns-in_ok-name-in-name-clause-taken c =
    let name = c.in_ok-name-in-name in
    agent_name (said c.args.scope.now) c.args.agent c.args.key.now c.args.reader.now c.name_in.new.reader c.args.draft.now _ c.in-name.is name.name name.ensures refl refl refl
