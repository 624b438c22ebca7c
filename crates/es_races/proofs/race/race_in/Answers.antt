use Rattle.std.proofs.Common.{◌≡◌, true, arith, reverse, subst}
use Rattle.std.proofs.lemmas.List.{take_all}
use Rattle.es_laws.specs.Races.{has_no_race}
use Rattle.es_races.specs.Pass.{Finds}
use Rattle.es_races.proofs.Through.{comes_to, goes_on}
use Rattle.es_races.proofs.race.race_in.Goals as goal

pub loop-event-preserved : goal.loop-event-preserved
loop-event-preserved c =
    goes_on c.args.agents c.args.history.now c.loop-event.event-index c.event-item.result c.loop-event.pass c.note.new.self c.requires.few c.requires.legal c.loop-event-test.true (omega arith) c.event-item.is c.loop-event.invariant
    (subst (Finds c.event-item.result c.loop-event.pass c.note.new.self) c.in_default.is c.in_ok-race.ensures)

pub returns-in-Some : goal.returns-in-Some
returns-in-Some c = record {
  verdict =
      comes_to c.args.agents c.args.history.now c.loop-event.event-index c.event-item.result c.loop-event.pass c.note.new.self c.requires.few c.requires.legal c.loop-event-test.true (omega arith) c.event-item.is c.loop-event.invariant
      c.in-Some.race (subst (Finds c.event-item.result c.loop-event.pass c.note.new.self) c.in-Some.is c.in_ok-race.ensures);
}

pub returns : goal.returns
returns c = record { verdict = subst (λ l. has_no_race (reverse l) ≡ true) (take_all c.loop-event.event-index c.args.history.now c.loop-event-test.false) c.loop-event.invariant.sound.none }
