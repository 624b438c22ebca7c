use Rattle.std.proofs.Common.{sym, subst, ap}
use Rattle.es_rules.specs.Needs.{TakesTicket}
use Rattle.calls.proofs.Holding.{opened_beside}
use Rattle.calls.proofs.asking.open.Goals as goal

pub returns-clause-ok : goal.returns-clause-ok
returns-clause-ok g c = record {
  asked = subst (λ n. TakesTicket n c.in_ok-ticket.ticket) (sym c.requires.due) (ap (λ r. r.words) c.in_ok-ticket.ensures.ticket);
  held = opened_beside c.args.core.now c.args.stake.now c.open_block.new.stake c.in_ok-ticket.ticket c.requires.held c.in_ok-ticket.ensures.stake.0 c.in_ok-ticket.ensures.stake.1;
}
