use Rattle.std.proofs.Common.{◌≡◌, Some, None, refl, arith}
use Rattle.json.specs.Json.{read_key}
use Rattle.es_reading.specs.Reading.{said}
use Rattle.es_script.proofs.TakingJobs.{job_none, took_job}
use Rattle.es_script.proofs.job.job_in.Goals as goal

pub members-init : goal.members-init
members-init c = job_none (said c.args.scope.now) c.args.place c.args.reader.now c.open_object.new.reader _ c.in_ok-open_object.ensures refl refl

pub members-preserved : goal.members-preserved
members-preserved c =
    let l = c.members in
    let key : read_key l.reader ≡ Some (Some c.in-Some.key.now, c.next_key.new.self) = grind arith in
    c.in_ok-member_in.ensures.taken c.args.reader.now l.reader key l.invariant

pub returns : goal.returns
returns c =
    let l = c.members in
    let closed : read_key l.reader ≡ Some (None, c.next_key.new.self) = grind arith in
    took_job (said c.args.scope.now) c.args.place c.args.reader.now l.reader c.next_key.new.self l.draft c.in_ok-job.job l.invariant closed c.in_ok-job.ensures.on c.in_ok-job.ensures.run c.in_ok-job.ensures.catches
