use Rattle.std.proofs.Common.{sym, subst}
use Rattle.es_ledger.specs.Letters.{Received}
use Rattle.es_rules.specs.Needs.{TakesTicket}
use Rattle.es_cluster.specs.Members.{Holds}
use Rattle.calls.proofs.Holding.{came_beside}
use Rattle.calls.proofs.asking.take.Goals as goal

pub returns-in-Plain-clause-given : goal.returns-in-Plain-clause-given
returns-in-Plain-clause-given g c =
    let came = subst (λ b. Received c.args.ledger.now.history b c.args.stake.now c.take.new.stake) c.in-Plain.is c.in-Some.ensures.stake in
    record {
      asked = record { plain = came.0; message = (c.args.sender, c.requires.due) };
      held = subst (Holds c.args.core.now) (sym came.1) c.requires.held;
    }

pub returns-in-Block-clause-given : goal.returns-in-Block-clause-given
returns-in-Block-clause-given g c =
    let came = subst (λ b. Received c.args.ledger.now.history b c.args.stake.now c.take.new.stake) c.in-Block.is c.in-Some.ensures.stake in
    record {
      asked = subst (λ n. TakesTicket n c.in-Block.ticket) (sym c.requires.due) tt;
      held = came_beside c.args.core.now c.args.stake.now c.take.new.stake c.in-Block.ticket c.requires.held came.1;
    }
