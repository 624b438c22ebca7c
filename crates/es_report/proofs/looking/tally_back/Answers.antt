use Rattle.std.proofs.Common.{◌≡◌, ◌∙◌, reverse, arith}
use Rattle.es_report.specs.Registered.{fate_of}
use Rattle.es_report.proofs.Looked.{all_to, counted_more, few_to}
use Rattle.es_report.proofs.looking.tally_back.Goals as goal

pub with_one-tally-requires : goal.with_one-tally-requires
with_one-tally-requires c = few_to (reverse c.args.events.now) c.loop-place.place c.loop-place.tally (omega (arith, c.loop-place-test.true, c.look_at-made.ensures.small)) c.loop-place.invariant

pub loop-place-preserved : goal.loop-place-preserved
loop-place-preserved c =
    counted_more (reverse c.args.events.now) c.loop-place.place (fate_of c.fate_back.result) c.loop-place.tally c.with_one-tally.result c.fate_back.ensures c.loop-place.invariant c.with_one-tally.ensures

pub returns : goal.returns
returns c =
    let end : c.loop-place.place ≡ c.look_at-made.result.made = omega (arith, c.loop-place-test.false, c.loop-place.auto.place-end) in
    all_to (reverse c.args.events.now) c.loop-place.place c.loop-place.tally (end ∙ c.look_at-made.ensures.looks.made) c.loop-place.invariant
