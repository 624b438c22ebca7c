use Rattle.std.proofs.Common.{◌≡◌, reverse}
use Rattle.es_report.proofs.Looked.{tally_to}
use Rattle.es_report.proofs.looking.tally_back.Given as goal

abbrev pub invariant-loop-place : goal.invariant-loop-place
invariant-loop-place l = l.tally ≡ tally_to (reverse l.events) l.place
