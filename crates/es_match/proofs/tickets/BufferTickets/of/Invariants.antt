use Rattle.std.proofs.Common.{◌≡◌, ℕ, take, nat_eq}
use Rattle.std.specs.HashMap.{get}
use Rattle.es_event.specs.Sharing.{row_at}
use Rattle.es_match.proofs.tickets.BufferTickets.of.Given as goal

abbrev pub invariant-loop-object : goal.invariant-loop-object
invariant-loop-object l = (q : ℕ) → get nat_eq l.rows q ≡ row_at (take l.object-index l.object-items) q
