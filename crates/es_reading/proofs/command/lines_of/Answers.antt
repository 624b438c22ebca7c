use Rattle.std.proofs.Common.{◌≤◌, ◌+◌, ◌∷◌, [], ◌++◌, drop, length, sym, ap, ◌∙◌}
use Rattle.std.proofs.lemmas.List.{at_drop_more, drop_all}
use Rattle.serde_json.specs.View.{view, items_view}
use Rattle.es_reading.specs.Lines.{Line}
use Rattle.es_reading.specs.Reading.{said, after, lines_read}
use Rattle.es_reading.proofs.Steps.{after_all, after_none, lines_step}
use Rattle.es_reading.proofs.command.lines_of.Goals as goal

pub loop-index-init : goal.loop-index-init
loop-index-init c = ([], c.new-run.ensures, sym (after_none _))

pub loop-index-preserved : goal.loop-index-preserved
loop-index-preserved c =
    let scope = said c.args.scope.now in
    let so_far = c.loop-index.invariant in
    let number = c.loop-index.index + 1 in
    let value = c.index-list-index.result in
    let left = drop number c.args.list.now in
    let line : Line = (c.in_ok-catch.catch, c.in_ok-catch.command) in (
      so_far.0 ++ line ∷ [],
      c.in_ok-push.ensures so_far.0 so_far.1,
      so_far.2
          ∙ at_drop_more (λ vs. after so_far.0 (lines_read scope c.args.place number (items_view vs))) c.args.list.now c.loop-index.index value c.loop-index-test.true
          ∙ ap (λ v. after so_far.0 (lines_read scope c.args.place number (items_view (v ∷ left)))) (sym c.index-list-index.is)
          ∙ lines_step scope c.args.place number so_far.0 line (view value) (items_view left) c.in_ok-catch.ensures,
    )

pub returns : goal.returns
returns c =
    let scope = said c.args.scope.now in
    let so_far = c.loop-index.invariant in
    let over : length c.args.list.now ≤ c.loop-index.index = c.loop-index-test.false in (
      so_far.0,
      so_far.2
          ∙ ap (λ vs. after so_far.0 (lines_read scope c.args.place (c.loop-index.index + 1) (items_view vs))) (drop_all c.loop-index.index c.args.list.now over)
          ∙ after_all so_far.0,
      so_far.1,
    )
