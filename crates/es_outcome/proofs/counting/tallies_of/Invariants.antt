use Rattle.std.proofs.Common.{◌≡◌, map, take}
use Rattle.es_cluster.specs.State.{cores}
use Rattle.es_report.specs.Tallies.{end_tally}
use Rattle.es_outcome.proofs.counting.tallies_of.Given as goal

abbrev pub invariant-loop-place : goal.invariant-loop-place
invariant-loop-place g l = l.tallies.items ≡ map (λ b. end_tally b.history) (take l.place (cores l.members))
