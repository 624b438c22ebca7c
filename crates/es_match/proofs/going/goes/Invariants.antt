use Rattle.std.proofs.Common.{◌≡◌, drop, true}
use Rattle.es_match.specs.Split.{stretches_said}
use Rattle.es_match.specs.Goes.{goes}
use Rattle.es_match.specs.Meets.{nothing_came}
use Rattle.es_match.proofs.going.goes.Given as goal

abbrev pub invariant-loop-event : goal.invariant-loop-event
invariant-loop-event l = goes true nothing_came l.history (stretches_said l.part) ≡ goes l.between l.came (drop l.event-index l.history) l.rest
