use Rattle.std.proofs.Common.{◌≡◌, ℕ, List, Option, ap, sym, ◌∙◌, subst, Some}
use Rattle.std.specs.Option.{option_copied}
use Rattle.es_event.specs.declared.command.Command.{Command}
use Rattle.es_event.specs.Due.{shown}
use Rattle.es_event.specs.Follows.{refused_now}
use Rattle.es_event.specs.Jobs.{receivers}
use Rattle.es_event.specs.Later.{snapshot}
use Rattle.es_event.specs.Order.{Due, run}
use Rattle.es_agent.proofs.Opening.{opens_none}
use Rattle.es_agent.proofs.agent.AgentCore.perform_due.Goals as goal

pub record_done-requires-clause-opens : goal.record_done-requires-clause-opens
record_done-requires-clause-opens g c =
    let b = c.read-record.result.now in
    opens_none b _ c.in-Run.command.now c.do_alone.new.done (sym (ap (shown (snapshot b.history)) c.in-Run.is) ∙ c.due.ensures) (c.asks_somebody.ensures.asks.0 c.if-asks_somebody.false) c.in-Ok.ensures.next

pub refuse-requires-clause-due : goal.refuse-requires-clause-due
refuse-requires-clause-due g c =
    (option_copied c.in-Run.field-0, c.in-Run.command.now, rw (c.read-record.ensures, c.self.view_is) at (sym c.in-Run.ensures))

-- no other command is due than the one that was refused
only_due : (d : Due) (x y : Option (List ℕ)) (c e : Command) → d ≡ run x c → d ≡ run y e → c ≡ e
only_due d x y c e one other = cc

pub refuse-requires-clause-refused : goal.refuse-requires-clause-refused
refuse-requires-clause-refused g c = λ x e is.
    let b = c.args.self.now in
    let here = rw (c.read-record.ensures, c.self.view_is) at (sym c.in-Run.ensures) in
    let why = rw (c.read-record.ensures, c.self.view_is) at (c.in-Err-Refused.ensures.refused c.in-Err-Refused.code c.in-Err-Refused.field-0-is) in
    subst (λ (d : Command). refused_now b.over (receivers b.plan.jobs) b.history d ≡ Some c.in-Err-Refused.code) (only_due _ _ _ _ _ here is) why
