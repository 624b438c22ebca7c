use Rattle.std.proofs.Common.{◌||◌, ap, sym, ◌∙◌, reverse}
use Rattle.std.specs.List.{list_any}
use Rattle.std.proofs.lemmas.List.{take_all}
use Rattle.es_event.specs.Ledger.{table}
use Rattle.es_report.specs.Holding.{makes_left}
use Rattle.es_report.proofs.Lists.{reversed_more}
use Rattle.es_report.proofs.Holders.{left_is}
use Rattle.es_report.proofs.holding.is_left.Goals as goal

pub returns : goal.returns
returns c =
    let test = makes_left (table (reverse c.args.events.now)) c.args.block in
    c.loop-event.invariant
    ∙ ap (λ es. list_any test (reverse es)) (take_all c.loop-event.event-index c.args.events.now c.loop-event-test.false)
    ∙ left_is (reverse c.args.events.now) c.args.block

pub loop-event-preserved : goal.loop-event-preserved
loop-event-preserved c =
    let test = makes_left (table (reverse c.args.events.now)) c.args.block in
    c.either-left.ensures
    ∙ ap (λ b. b || c.loop-event.left) c.makes_one_left.ensures
    ∙ ap (λ b. test c.event-item.result || b) c.loop-event.invariant
    ∙ ap (list_any test) (sym (reversed_more c.args.events.now c.loop-event.event-index c.event-item.result c.loop-event-test.true c.event-item.is))
