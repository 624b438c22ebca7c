use Rattle.std.proofs.Common.{◌≡◌, ◌+◌, [], ◌∷◌, ◌++◌, Some, None, refl, arith, length-append}
use Rattle.json.specs.Json.{after_end_array}
use Rattle.es_reading.specs.declared.fault.Place.TheVariants.{Job as JobPlace}
use Rattle.es_reading.specs.Reading.{said, job_read, jobs_read}
use Rattle.es_reading.specs.Shape.{is_job}
use Rattle.es_script.specs.Taking.{IsRead, Took}
use Rattle.es_script.proofs.Taking.{took_more, took_all}
use Rattle.es_script.proofs.job.jobs_after.Goals as goal

pub jobs-preserved : goal.jobs-preserved
jobs-preserved c =
    let l = c.jobs in
    let scope = said c.args.scope.now in
    let agent = c.args.agent in
    let job = c.in_ok-job.job in
    let next = c.job_in.new.reader in
    let reading = job_read scope (JobPlace agent (l.number + 1)) in
    let unclosed : after_end_array l.reader ≡ None = grind arith in
    let unmoved : c.take_end_array.new.self ≡ l.reader = grind arith in
    let took : Took 3 (IsRead is_job reading) l.reader job next = rw (← unmoved) c.in_ok-job.ensures in
    let pushed : c.push.new.self ≡ l.jobs ++ job ∷ [] = grind arith in
    record {
      taken = took_more 3 is_job reading (jobs_read scope agent 1) (jobs_read scope agent (l.number + 1)) (jobs_read scope agent (l.number + 1 + 1)) (λ d ds. refl) c.args.reader.now l.reader next l.jobs c.push.new.self job l.invariant.taken unclosed took pushed;
      counted = rw pushed (omega (arith, length-append l.jobs (job ∷ []), l.invariant.counted));
      few = omega arith;
    }

pub returns-clause-taken : goal.returns-clause-taken
returns-clause-taken c =
    let l = c.jobs in
    let scope = said c.args.scope.now in
    let agent = c.args.agent in
    let r = c.take_end_array.new.self in
    let closed : after_end_array l.reader ≡ Some r = grind arith in
    took_all 3 is_job (jobs_read scope agent 1) (jobs_read scope agent (l.number + 1)) c.args.reader.now l.reader r l.jobs l.invariant.taken refl closed
