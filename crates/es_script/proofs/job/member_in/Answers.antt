use Rattle.std.proofs.Common.{refl}
use Rattle.es_reading.specs.Reading.{said}
use Rattle.es_script.proofs.TakingJobs.{job_on, job_run}
use Rattle.es_script.proofs.job.member_in.Goals as goal

pub returns-in_ok-on-in-on-clause-taken : goal.returns-in_ok-on-in-on-clause-taken
returns-in_ok-on-in-on-clause-taken c =
    let on = c.in_ok-on-in-on in
    job_on (said c.args.scope.now) c.args.place c.args.key.now c.args.reader.now c.awaited_in.new.reader c.args.draft.now _ c.in-on.is on.on on.ensures refl refl

pub returns-in_ok-run-in-run-clause-taken : goal.returns-in_ok-run-in-run-clause-taken
returns-in_ok-run-in-run-clause-taken c =
    let run = c.in_ok-run-in-run in
    job_run (said c.args.scope.now) c.args.place c.args.key.now c.args.reader.now c.run_in.new.reader c.args.draft.now _ c.in-run.is run.run' run.ensures refl refl
