use Rattle.std.proofs.Common.{◌∙◌, sym, arith}
use Rattle.es_agent.proofs.Racks.{no_ticket, has_admitted, if_no_error, if_ok}
use Rattle.es_agent.proofs.agent.AgentCore.admit.Goals as goal

pub put-requires : goal.put-requires
put-requires g c =
    let id = c.in-Ok.ensures.ok.0 in
    let small = c.self.invariant.2 in
    rw (c.reserve.ensures.same, c.self.invariant.0, id) (no_ticket c.self.inside.record _ c.args.ticket c.self.invariant.1 (omega (arith, small)))

pub invariant_of-self-in-Ok : goal.invariant_of-self-in-Ok
invariant_of-self-in-Ok g c =
    let ok = c.in-Ok.ensures.ok in
    let admitted = has_admitted c.self.inside.rack.tickets c.self.inside.record c.enter.new.agent c.row.result c.self.invariant (rw ok.0 at ok.1) ok.2 c.in-Ok.ensures.comes in
    let room = if_no_error c.reserve.result _ (sym c.is_err.ensures.value ∙ c.if-is_err.false) c.reserve.ensures.room in
    let put = if_ok c.put.result _ (c.put.ensures.roomy (omega (arith, room))).0 c.put.ensures.ok in
    rw (put, c.reserve.ensures.same, ok.0) (rw c.row.ensures at admitted)
