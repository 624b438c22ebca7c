use Rattle.std.proofs.Common.{◌≡◌, ℕ, take}
use Rattle.es_match.specs.Counts.{count, count_in}
use Rattle.es_match.proofs.spending.Left.of.Given as goal

abbrev pub invariant-loop-serial : goal.invariant-loop-serial
invariant-loop-serial l = (q : ℕ) → count_in l.counts q ≡ count q (take l.serial-index l.serials)
