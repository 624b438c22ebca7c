use Rattle.std.proofs.Common.{◌≡◌, ◌≤◌, ◌+◌, List, ◌++◌, length}
use Rattle.json.specs.Token.{Token}
use Rattle.es_value.specs.Limits.{most_jobs}
use Rattle.es_event.specs.declared.plan.Job.{Job}
use Rattle.es_reading.specs.Reading.{said, jobs_read}
use Rattle.es_reading.specs.Shape.{is_job}
use Rattle.es_script.specs.Taking.{TookItems}
use Rattle.es_script.proofs.job.jobs_after.Given as goal

-- whatever jobs are left, those so far come before them
abbrev pub invariant-jobs : goal.invariant-jobs
invariant-jobs l = record {
  taken : (r : List Token) (js : List Job) → TookItems 3 is_job (jobs_read (said l.scope) l.agent (l.number + 1)) l.reader js r → TookItems 3 is_job (jobs_read (said l.scope) l.agent 1) l.fn.reader (l.jobs ++ js) r;
  counted : length l.jobs ≡ l.number;
  few : l.number ≤ most_jobs;
}

abbrev pub decreases-jobs : goal.decreases-jobs
decreases-jobs l = length l.reader
