use Rattle.std.proofs.Common.{◌∙◌, ap, sym, cond, Some}
use Rattle.es_value.specs.declared.value.Value.TheVariants.{Object, Symbol}
use Rattle.es_record.proofs.Targets.{value_told, none_told}
use Rattle.es_record.proofs.agent_record.AgentRecord.target.Goals as goal

pub returns-in_err-target : goal.returns-in_err-target
returns-in_err-target c =
    let here = rw (← c.self.view_is) at c.requires in
    rw (← c.self.view_is) (
    c.from_residual.ensures
    ∙ sym (none_told _ _ _ c.self.inside.tables c.self.invariant.0.legal c.self.invariant.0.says c.args.weakref here (sym c.in_err-target.ensures))
    )

pub returns-then-has : goal.returns-then-has
returns-then-has c =
    let here = rw (← c.self.view_is) at c.requires in
    let id = c.in_ok-target.target in
    rw (← c.self.view_is) (
    ap (λ b. Some (cond b (Object id) (Symbol id))) c.if-has.ensures
    ∙ sym (value_told _ _ _ c.self.inside.tables c.self.invariant.0.legal c.self.invariant.0.says c.args.weakref id here (sym c.in_ok-target.ensures))
    )

pub returns-else-has : goal.returns-else-has
returns-else-has c =
    let here = rw (← c.self.view_is) at c.requires in
    let id = c.in_ok-target.target in
    rw (← c.self.view_is) (
    ap (λ b. Some (cond b (Object id) (Symbol id))) c.if-has.ensures
    ∙ sym (value_told _ _ _ c.self.inside.tables c.self.invariant.0.legal c.self.invariant.0.says c.args.weakref id here (sym c.in_ok-target.ensures))
    )
