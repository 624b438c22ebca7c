use Rattle.std.proofs.Common.{◌≡◌, not, reverse}
use Rattle.std.specs.List.{count_by, range_with_len}
use Rattle.es_event.specs.Ledger.{table}
use Rattle.es_report.specs.Holding.{left}
use Rattle.es_report.proofs.holding.released_back.Given as goal

abbrev pub invariant-loop-place : goal.invariant-loop-place
invariant-loop-place l = l.released ≡ count_by (λ b. not (left (table (reverse l.events)) b)) (range_with_len 1 l.place)
