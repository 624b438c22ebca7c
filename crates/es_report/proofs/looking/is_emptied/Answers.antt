use Rattle.std.proofs.Common.{◌||◌, ◌==◌, ap, sym, ◌∙◌, take, reverse}
use Rattle.std.proofs.lemmas.List.Folds.{list_any-append}
use Rattle.es_event.specs.Identities.{empties, gone, is_gone, is_in}
use Rattle.es_report.proofs.Lists.{reversed_more}
use Rattle.es_report.proofs.looking.is_emptied.Goals as goal

pub loop-event-preserved : goal.loop-event-preserved
loop-event-preserved c =
    c.either-emptied.ensures
    ∙ ap (λ b. b || c.loop-event.emptied) c.empties_it.ensures
    ∙ ap (λ b. is_in (empties c.event-item.result) c.args.id || b) c.loop-event.invariant
    ∙ sym (list_any-append (λ j. j == c.args.id) (empties c.event-item.result) (gone (reverse (take c.loop-event.event-index c.args.events.now))))
    ∙ ap (λ h. is_gone h c.args.id) (sym (reversed_more c.args.events.now c.loop-event.event-index c.event-item.result c.loop-event-test.true c.event-item.is))
