use Rattle.std.proofs.Common.{◌≡◌, sym, ◌∙◌, ap, subst, is_some}
use Rattle.std.specs.List.{IsDistinct}
use Rattle.std.specs.Str.{bytes_eq}
use Rattle.es_value.specs.declared.value.Value.TheVariants.{Undefined}
use Rattle.es_props.specs.Heap.{keys_of, without_property}
use Rattle.es_props.proofs.Sought.{value_here, without_here, without_absent, distinct_without}
use Rattle.es_props.proofs.few.Few.take_out.Goals as goal

taken : (c : goal.After-remove_at) → c.remove_at.new.entries.items ≡ without_property c.self.inside.entries.items c.args.key.now
taken c =
    let place = rw (← c.self.view_is) at c.in-Some.ensures.there in
    c.remove_at.ensures.items ∙ sym (without_here c.self.inside.entries.items c.args.key.now c.in-Some.at (c.args.key.now, Undefined) place c.self.invariant)

pub invariant_of-self : goal.invariant_of-self
invariant_of-self c = subst (λ es. IsDistinct bytes_eq (keys_of es)) (sym (taken c)) (distinct_without c.self.inside.entries.items c.args.key.now c.self.invariant)

pub returns-in-Some-clause-was_there : goal.returns-in-Some-clause-was_there
returns-in-Some-clause-was_there c = ap is_some (sym (value_here c.args.self.now.entries c.args.key.now c.in-Some.at (c.args.key.now, Undefined) c.in-Some.ensures.there))

pub returns-in-Some-clause-after : goal.returns-in-Some-clause-after
returns-in-Some-clause-after c = rw (← c.self.view_is) (taken c)

pub returns-in-None-clause-after : goal.returns-in-None-clause-after
returns-in-None-clause-after c = sym (without_absent c.args.self.now.entries c.args.key.now c.in-None.ensures.absent)
