use Rattle.std.proofs.Common.{◌≡◌, ◌++◌, drop}
use Rattle.es_warnings.specs.Mentions.{each_job}
use Rattle.es_warnings.specs.Warnings.{of_job}
use Rattle.es_warnings.proofs.warning.add_jobs.Given as goal

abbrev pub invariant-loop-number : goal.invariant-loop-number
invariant-loop-number l = l.initial.found.items ++ each_job (of_job l.agent) 0 l.jobs ≡ l.found.items ++ each_job (of_job l.agent) l.number (drop l.number l.jobs)
