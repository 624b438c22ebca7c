use Rattle.std.proofs.Common.{◌≡◌, sym, subst}
use Rattle.es_agent.specs.Failing.{FailsToAdmit}
use Rattle.es_rules.specs.Needs.{need, TakesTicket}
use Rattle.es_cluster.specs.Members.{HoldsBeside}
use Rattle.es_cluster.proofs.CountingTickets.{beside_held}
use Rattle.es_cluster.proofs.MovingMembers.{admitted_holds, refused_stays}
use Rattle.calls.proofs.Holding.{spent_holds}
use Rattle.calls.proofs.taking.admit.Goals as goal

pub spend-requires : goal.spend-requires
spend-requires g c = rw (c.in-Err.ensures.err.0) (beside_held c.args.core.now c.args.stake.now c.args.ticket c.requires.held)

pub returns-in-Ok-clause-ok : goal.returns-in-Ok-clause-ok
returns-in-Ok-clause-ok g c = admitted_holds c.args.core.now c.admit.new.self c.args.stake.now c.args.ticket c.history.ensures.run c.in-Ok.ensures.ok.1 c.requires.held

pub returns-in-Refused-clause-ok : goal.returns-in-Refused-clause-ok
returns-in-Refused-clause-ok g c =
    let stays = refused_stays c.args.core.now c.admit.new.self (subst (λ f. FailsToAdmit c.args.core.now f c.admit.new.self) c.in-Refused.is c.in-Err.ensures.err.1) in
    spent_holds c.args.core.now c.admit.new.self c.args.stake.now c.spend.new.stake c.args.ticket c.in-Err.ticket stays.step.number stays.same c.requires.held c.in-Err.ensures.err.0 c.spend.ensures.stake.0 c.spend.ensures.counts

pub returns-in-NoMemory-clause-err : goal.returns-in-NoMemory-clause-err
returns-in-NoMemory-clause-err g c =
    let same : c.admit.new.self ≡ c.args.core.now = subst (λ f. FailsToAdmit c.args.core.now f c.admit.new.self) c.in-NoMemory.is c.in-Err.ensures.err.1 in
    let back : c.in-Err.ticket ≡ c.args.ticket = c.in-Err.ensures.err.0 in
    record {
      asked = subst (λ b. TakesTicket (need b) c.in-Err.ticket) (sym same) (subst (λ r. TakesTicket (need c.args.core.now) r) (sym back) c.requires.takes);
      held = subst (λ b. HoldsBeside c.in-Err.ticket b c.args.stake.now) (sym same) (subst (λ r. HoldsBeside r c.args.core.now c.args.stake.now) (sym back) c.requires.held);
    }
