use Rattle.es_reading.specs.Reading.{said}
use Rattle.es_script.proofs.TakingJobs.{took_jobs}
use Rattle.es_script.proofs.job.jobs_in.Goals as goal

pub returns : goal.returns
returns c =
    took_jobs (said c.args.scope.now) c.args.agent c.in_ok-jobs.jobs c.args.reader.now c.open_array.new.reader c.jobs_after.new.reader c.in_ok-open_array.ensures c.in_ok-jobs.ensures.taken c.in_ok-jobs.ensures.few
