use Rattle.std.proofs.Common.{◌≡◌, ◌+◌, drop}
use Rattle.serde_json.specs.View.{items_view}
use Rattle.es_reading.specs.Reading.{said, jobs_read, after}
use Rattle.es_reading.proofs.job.jobs_of.Given as goal

abbrev pub invariant-loop-index : goal.invariant-loop-index
invariant-loop-index l =
    jobs_read (said l.scope) l.agent 1 (items_view l.fn.jobs) ≡ after l.all (jobs_read (said l.scope) l.agent (l.index + 1) (items_view (drop l.index l.jobs)))
