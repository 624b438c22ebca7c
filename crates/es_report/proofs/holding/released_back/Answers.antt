use Rattle.std.proofs.Common.{◌≡◌, ◌≤◌, ◌+◌, not, cond, reverse, ap, ◌∙◌, arith}
use Rattle.es_event.specs.Ledger.{table}
use Rattle.es_report.specs.Holding.{left}
use Rattle.es_report.proofs.Lists.{count_few, count_next}
use Rattle.es_report.proofs.Holders.{all_released}
use Rattle.es_report.proofs.holding.released_back.Goals as goal

pub more_if-released-requires : goal.more_if-released-requires
more_if-released-requires c =
    let few : c.loop-place.released ≤ c.loop-place.place = count_few (λ b. not (left (table (reverse c.args.events.now)) b)) 1 c.loop-place.place c.loop-place.released c.loop-place.invariant in
    omega (arith, few, c.loop-place-test.true, c.ranges.opened.fits)

pub loop-place-preserved : goal.loop-place-preserved
loop-place-preserved c =
    count_next (λ b. not (left (table (reverse c.args.events.now)) b)) c.loop-place.place c.loop-place.released c.more_if-released.result c.loop-place.invariant
    (c.more_if-released.ensures ∙ ap (λ b. c.loop-place.released + cond (not b) 1 0) c.is_left.ensures)

pub returns : goal.returns
returns c =
    let end : c.loop-place.place ≡ c.args.opened = omega (arith, c.loop-place-test.false, c.loop-place.auto.place-end) in
    c.loop-place.invariant ∙ all_released (reverse c.args.events.now) c.loop-place.place (end ∙ c.requires)
