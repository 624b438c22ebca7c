use Rattle.std.proofs.Common.{drop}
use Rattle.es_warnings.specs.Known.{Leaves}
use Rattle.es_warnings.specs.Mentions.{each_job, in_job}
use Rattle.es_warnings.proofs.variables.Variables.note_jobs.Given as goal

abbrev pub invariant-loop-number : goal.invariant-loop-number
invariant-loop-number l = Leaves l.initial.self l.self (each_job in_job 0 l.jobs) (each_job in_job l.number (drop l.number l.jobs))
