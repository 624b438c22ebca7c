use Rattle.std.proofs.Common.{◌≡◌, take, reverse}
use Rattle.es_event.specs.Identities.{is_gone}
use Rattle.es_report.proofs.looking.is_emptied.Given as goal

abbrev pub invariant-loop-event : goal.invariant-loop-event
invariant-loop-event l = l.emptied ≡ is_gone (reverse (take l.event-index l.events)) l.id
