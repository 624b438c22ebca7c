use Rattle.std.proofs.Common.{◌≤◌, ◌<◌, ◌+◌, ◌∷◌, [], ◌++◌, drop, length, arith, sym, ap, ◌∙◌}
use Rattle.std.proofs.lemmas.List.{at_drop_more, drop_all, drop-set-lt}
use Rattle.serde_json.specs.View.{view, items_view}
use Rattle.es_reading.specs.Lines.{Line}
use Rattle.es_reading.specs.Reading.{said, after, lines_read}
use Rattle.es_reading.proofs.Steps.{after_all, after_none, lines_step}
use Rattle.es_reading.proofs.command.lines_taken.Goals as goal

pub loop-index-init : goal.loop-index-init
loop-index-init c = ([], c.new-run.ensures, sym (after_none _))

pub loop-index-preserved : goal.loop-index-preserved
loop-index-preserved c =
    let scope = said c.args.scope.now in
    let so_far = c.loop-index.invariant in
    let list = c.loop-index.list in
    let index = c.loop-index.index in
    let number = index + 1 in
    let value = c.index-list-index.result in
    let left = drop number list in
    let later : index < number = omega arith in
    let test = c.loop-index-test.true in
    let size = c.loop-index.auto.list in
    let within : index < length list = omega (arith, test, size) in
    let line : Line = (c.in_ok-catch.catch, c.in_ok-catch.command) in (
      so_far.0 ++ line ∷ [],
      c.in_ok-push.ensures so_far.0 so_far.1,
      so_far.2
          ∙ at_drop_more (λ vs. after so_far.0 (lines_read scope c.args.place number (items_view vs))) list index value within
          ∙ ap (λ v. after so_far.0 (lines_read scope c.args.place number (items_view (v ∷ left)))) (sym c.take.ensures.taken)
          ∙ lines_step scope c.args.place number so_far.0 line (view c.take.result) (items_view left) c.in_ok-catch.ensures
          ∙ ap (λ vs. after (so_far.0 ++ line ∷ []) (lines_read scope c.args.place (number + 1) (items_view vs))) (sym (drop-set-lt number list index c.take.new.self later)),
    )

pub returns : goal.returns
returns c =
    let scope = said c.args.scope.now in
    let so_far = c.loop-index.invariant in
    let list = c.loop-index.list in
    let test = c.loop-index-test.false in
    let size = c.loop-index.auto.list in
    let over : length list ≤ c.loop-index.index = omega (arith, test, size) in (
      so_far.0,
      so_far.2
          ∙ ap (λ vs. after so_far.0 (lines_read scope c.args.place (c.loop-index.index + 1) (items_view vs))) (drop_all c.loop-index.index list over)
          ∙ after_all so_far.0,
      so_far.1,
    )
