use Rattle.std.proofs.Common.{◌≡◌, ◌∙◌, ap, sym, Some, Ok, Err, true, map, rules}
use Rattle.es_event.specs.Jobs.{receivers}
use Rattle.es_event.specs.Rules.{first_refusal, of_buffer, of_number}
use Rattle.es_event.specs.Sharing.{is_index, words_of}
use Rattle.es_event.specs.Variables.{var}
use Rattle.es_rules.specs.Numbers.{number_at, numbers_at, refusal_at}
use Rattle.es_rules.proofs.Numbers.{no_index, no_word, refused_so, some_index}
use Rattle.es_rules.proofs.buffers.word_at.Goals as goal

pub returns-in_err-buffer-clause-err : goal.returns-in_err-buffer-clause-err
returns-in_err-buffer-clause-err c =
    let told : refusal_at c.args.agent.now c.args.atomic.now ≡ Some c.in_err-buffer.field-0.0 = search rules in
    refused_so c.from_residual.result c.in_err-buffer.field-0.0 (refusal_at c.args.agent.now c.args.atomic.now) c.from_residual.ensures.1 told

pub returns-in_err-index-clause-err : goal.returns-in_err-index-clause-err
returns-in_err-index-clause-err c =
    let b = c.args.agent.now in
    let a = c.args.atomic.now in
    let code = c.in_err-index.field-0.0 in
    let value : c.value.result.now ≡ var (receivers b.plan.jobs) b.history a.buffer = c.value.ensures.said ∙ ap (var (receivers b.plan.jobs) b.history) c.buffer.ensures in
    let buffer : (of_buffer b.history (var (receivers b.plan.jobs) b.history a.buffer)).0 ≡ true = ap (λ v. (of_buffer b.history v).0) (sym value) ∙ c.in_ok-buffer.ensures.ok.1 in
    let number : number_at b a.index ≡ Err code = search rules in
    refused_so c.from_residual-in_err-index.result code (refusal_at b a) c.from_residual-in_err-index.ensures.1 (no_index b a (number_at b a.index) (numbers_at b a.operation) code buffer number)

pub returns-in_err-task-clause-err : goal.returns-in_err-task-clause-err
returns-in_err-task-clause-err c =
    let b = c.args.agent.now in
    let a = c.args.atomic.now in
    let code = c.in_err-task.field-0.0 in
    let j = c.in_ok-index.index in
    let value : c.value.result.now ≡ var (receivers b.plan.jobs) b.history a.buffer = c.value.ensures.said ∙ ap (var (receivers b.plan.jobs) b.history) c.buffer.ensures in
    let buffer : (of_buffer b.history (var (receivers b.plan.jobs) b.history a.buffer)).0 ≡ true = ap (λ v. (of_buffer b.history v).0) (sym value) ∙ c.in_ok-buffer.ensures.ok.1 in
    let number : number_at b a.index ≡ Ok j = search rules in
    let here = some_index _ c.index_below.result _ c.in-Some.index c.index_below.ensures c.in-Some.is in
    let index : is_index j (words_of b.over (var (receivers b.plan.jobs) b.history a.buffer)) ≡ true = search rules in
    let none : first_refusal (map of_number (numbers_at b a.operation)) ≡ Some code = search rules in
    refused_so c.from_residual-in_err-task.result code (refusal_at b a) c.from_residual-in_err-task.ensures.1 (no_word b a (number_at b a.index) j (numbers_at b a.operation) code buffer number index none)
