use Rattle.std.proofs.Common.{◌+◌, ap, drop, reverse, rules, sym, take}
use Rattle.es_races.proofs.Splitting.{parted}
use Rattle.es_races.proofs.place.place_of.Goals as goal

pub returns-in-Some-clause-place : goal.returns-in-Some-clause-place
returns-in-Some-clause-place c =
    let walked = c.loop-event.invariant.walked in
    record {
      later = reverse (drop (c.loop-event.event-index + 1) c.args.events.now);
      event = c.event-item.result;
      earlier = reverse (take c.loop-event.event-index c.args.events.now);
      split = parted c.args.events.now c.loop-event.event-index c.event-item.result c.loop-event-test.true c.event-item.is;
      access = search rules;
      before = search rules;
      within = sym walked.section;
      number = ap (λ n. n + 1) (sym walked.commands);
    }
