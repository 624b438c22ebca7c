use Rattle.std.proofs.Common.{◌≡◌, sym, ◌∙◌, subst}
use Rattle.std.specs.List.{IsDistinct}
use Rattle.std.specs.Str.{bytes_eq}
use Rattle.es_props.specs.Heap.{keys_of, with_property}
use Rattle.es_props.proofs.Sought.{with_here, with_absent, distinct_with}
use Rattle.es_props.proofs.few.Few.put.Goals as goal

replaced : (c : goal.After-drop-key) → c.replace_at.new.entries.items ≡ with_property c.self.inside.entries.items c.args.key c.args.value
replaced c =
    let place = rw (← c.self.view_is) at c.in-Some.ensures.there in
    c.replace_at.ensures.items (c.args.key, c.args.value) ∙ sym (with_here c.self.inside.entries.items c.args.key c.args.value c.in-Some.at (c.args.key, c.args.value) place)

pushed : (c : goal.After-push_reserved) → c.push_reserved.new.entries.items ≡ with_property c.self.inside.entries.items c.args.key c.args.value
pushed c =
    let none = rw (← c.self.view_is) at c.in-None.ensures.absent in
    c.push_reserved.ensures.items ∙ sym (with_absent c.self.inside.entries.items c.args.key c.args.value none)

pub invariant_of-self : goal.invariant_of-self
invariant_of-self c = subst (λ es. IsDistinct bytes_eq (keys_of es)) (sym (replaced c)) (distinct_with c.self.inside.entries.items c.args.key c.args.value c.self.invariant)

pub invariant_of-self-in-None : goal.invariant_of-self-in-None
invariant_of-self-in-None c = subst (λ es. IsDistinct bytes_eq (keys_of es)) (sym (pushed c)) (distinct_with c.self.inside.entries.items c.args.key c.args.value c.self.invariant)

pub returns-in-Some : goal.returns-in-Some
returns-in-Some c = rw (← c.self.view_is) (replaced c)

pub returns-in-None : goal.returns-in-None
returns-in-None c = rw (← c.self.view_is) (pushed c)
