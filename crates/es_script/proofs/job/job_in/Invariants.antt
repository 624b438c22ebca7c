use Rattle.std.proofs.Common.{length}
use Rattle.es_reading.specs.Reading.{said}
use Rattle.es_script.specs.Drafts.{IsJobDraft}
use Rattle.es_script.proofs.job.job_in.Given as goal

abbrev pub invariant-members : goal.invariant-members
invariant-members l = IsJobDraft (said l.scope) l.place l.fn.reader l.reader l.draft

abbrev pub decreases-members : goal.decreases-members
decreases-members l = length l.reader
