use Rattle.std.proofs.Common.{◌≡◌, true, refl}
use Rattle.serde_json.specs.View.{view}
use Rattle.serde_json.specs.Errors.{IsMemory}
use Rattle.es_script.proofs.Whole.{value_at, no_value, reads_value, reads_few, reads_others, reads_harmless}
use Rattle.es_script.proofs.plan.read_plan_by_value.Goals as goal

pub returns-in-Ok-clause-reads : goal.returns-in-Ok-clause-reads
returns-in-Ok-clause-reads c =
    let json = c.in-Ok.ensures.ok in
    let value = value_at c.args.bytes.now (view c.in-Ok.value) json.0 json.1 in
    reads_value c.args.bytes.now (view c.in-Ok.value) c.plan_of.result value c.plan_of.ensures

pub returns-in-Ok-clause-few : goal.returns-in-Ok-clause-few
returns-in-Ok-clause-few c = reads_few (view c.in-Ok.value) c.plan_of.result c.plan_of.ensures

pub returns-in-Ok-clause-others : goal.returns-in-Ok-clause-others
returns-in-Ok-clause-others c = reads_others (view c.in-Ok.value) c.plan_of.result c.plan_of.ensures

pub returns-in-Ok-clause-harmless : goal.returns-in-Ok-clause-harmless
returns-in-Ok-clause-harmless c = reads_harmless (view c.in-Ok.value) c.plan_of.result c.plan_of.ensures

pub returns-in-Err-2-clause-reads : goal.returns-in-Err-2-clause-reads
returns-in-Err-2-clause-reads c =
    let not_memory : ¬ IsMemory c.in-Err.error = λ m. let t : c.is_memory.result ≡ true = c.is_memory.ensures.1 m in cc in
    rw (c.fault_in.ensures, no_value c.args.bytes.now (c.in-Err.ensures.err not_memory)) refl
