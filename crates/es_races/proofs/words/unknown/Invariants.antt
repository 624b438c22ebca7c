use Rattle.std.proofs.Common.{◌≢◌, ◌<◌, ◌≤◌, ℕ}
use Rattle.es_races.specs.Pass.{count_in}
use Rattle.es_races.proofs.words.unknown.Given as goal

abbrev pub invariant-loop-other : goal.invariant-loop-other
invariant-loop-other l = (j : ℕ) → j < l.other → l.agent ≢ j → count_in l.newest j ≤ count_in l.known j
