use Rattle.std.proofs.Common.{◌≡◌, IfSome, Some, true, false, drop, ap, ◌∙◌, subst, arith}
use Rattle.std.specs.Prelude.{◌==◌, slice_index}
use Rattle.fast_float.specs.Text.{scan}
use Rattle.serde_json.specs.Read.{number_from}
use Rattle.serde_json.specs.View.{number_view}
use Rattle.es_script.proofs.Numbers.{with_sign, without_sign, behind_first}
use Rattle.es_script.proofs.number.whole_number.Goals as goal

pub returns-then-bytes-eq45 : goal.returns-then-bytes-eq45
returns-then-bytes-eq45 c =
    let first : slice_index c.args.token.now 0 == 45 ≡ true = grind arith in
    let digits = behind_first c.as_bytes-bytes.result.now ∙ ap (drop 1) c.as_bytes-bytes.ensures.value in
    rw (with_sign c.args.token.now first) (subst (λ s. IfSome c.below_zero.result (λ x. number_from true (scan s) ≡ Some (number_view x))) digits c.below_zero.ensures)

pub returns : goal.returns
returns c =
    let first : slice_index c.args.token.now 0 == 45 ≡ false = grind arith in
    rw (without_sign c.args.token.now first) (subst (λ s. IfSome c.zero_or_above.result (λ x. number_from false (scan s) ≡ Some (number_view x))) c.as_bytes-bytes.ensures.value c.zero_or_above.ensures)
