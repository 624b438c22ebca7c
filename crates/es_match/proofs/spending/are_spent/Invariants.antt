use Rattle.std.proofs.Common.{drop}
use Rattle.es_match.specs.Counts.{IsSpending}
use Rattle.es_match.specs.DeedsShown.{all_shown}
use Rattle.es_match.proofs.spending.are_spent.Given as goal

abbrev pub invariant-loop-i : goal.invariant-loop-i
invariant-loop-i l = IsSpending l.closing l.serials (all_shown l.deeds) l.left (all_shown (drop l.i l.deeds))
