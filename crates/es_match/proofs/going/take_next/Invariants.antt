use Rattle.std.proofs.Common.{◌≡◌, take, drop}
use Rattle.es_match.specs.DeedsShown.{all_shown}
use Rattle.es_match.proofs.going.take_next.Given as goal

abbrev pub invariant-loop : goal.invariant-loop
invariant-loop l = record {
  taken : all_shown l.deeds.items ≡ take l.counter l.initial.rest;
  left : l.rest ≡ drop l.counter l.initial.rest;
}
