use Rattle.std.proofs.Common.{◌≡◌, [], take, drop}
use Rattle.es_reading.specs.Scope.{are_new}
use Rattle.es_script.proofs.agents.are_new.Given as goal

abbrev pub invariant-loop-index : goal.invariant-loop-index
invariant-loop-index l = are_new [] l.names ≡ are_new (take l.index l.names) (drop l.index l.names)
