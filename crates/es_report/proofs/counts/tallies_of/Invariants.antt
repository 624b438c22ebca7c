use Rattle.std.proofs.Common.{take}
use Rattle.es_report.specs.Tallies.{AreTallies}
use Rattle.es_report.proofs.counts.tallies_of.Given as goal

abbrev pub invariant-loop-history : goal.invariant-loop-history
invariant-loop-history l = AreTallies (take l.history-index l.histories) l.tallies.items
