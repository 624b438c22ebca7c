use Rattle.std.proofs.Common.{◌≡◌, true, sym}
use Rattle.serde_json.specs.View.{view}
use Rattle.serde_json.specs.Errors.{IsMemory}
use Rattle.es_script.proofs.Whole.{value_at, no_value}
use Rattle.es_explain.proofs.explanation.value_of.Goals as goal

pub returns-in-Ok : goal.returns-in-Ok
returns-in-Ok c =
    let json = c.in-Ok.ensures.ok in
    sym (value_at c.args.bytes.now (view c.in-Ok.value) json.0 json.1)

pub returns-in-Err-2 : goal.returns-in-Err-2
returns-in-Err-2 c =
    let not_memory : ¬ IsMemory c.in-Err.error = λ m. let t : c.is_memory.result ≡ true = c.is_memory.ensures.1 m in cc in
    sym (no_value c.args.bytes.now (c.in-Err.ensures.err not_memory))
