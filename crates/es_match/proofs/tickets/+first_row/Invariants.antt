use Rattle.std.proofs.Common.{length}
use Rattle.es_match.proofs.tickets.+first_row.Given as goal

abbrev pub decreases-first_row : goal.decreases-first_row
decreases-first_row l = length l.tickets.now
