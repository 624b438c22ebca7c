use Rattle.std.proofs.Common.{◌∙◌, arith, sym, ◌+◌, ◌*◌}
use Rattle.es_ledger.proofs.Columns.{taken_total, some_one, none_zero}
use Rattle.es_ledger.proofs.ports.Ports.pop.Goals as goal

pub overflow_sub-self : goal.overflow_sub-self
overflow_sub-self g c =
    let inside = rw (← c.self.view_is) at c.requires.inside in
    let all = taken_total c.self.inside.queues.items (c.args.sender * 8 + c.args.receiver) c.index_mut.result.now c.pop-letter.new.self c.pop-letter.result inside.0 c.index_mut.ensures.value c.pop-letter.ensures.some in
    let one = some_one c.pop-letter.result (sym c.is_some.ensures ∙ c.if-is_some.true) in
    let total = c.self.invariant.0 in
    omega (arith, all, one, total)

pub invariant_of-self : goal.invariant_of-self
invariant_of-self g c =
    let inside = rw (← c.self.view_is) at c.requires.inside in
    let all = taken_total c.self.inside.queues.items (c.args.sender * 8 + c.args.receiver) c.index_mut.result.now c.pop-letter.new.self c.pop-letter.result inside.0 c.index_mut.ensures.value c.pop-letter.ensures.some in
    let one = some_one c.pop-letter.result (sym c.is_some.ensures ∙ c.if-is_some.true) in
    let total = c.self.invariant.0 in
    let most = c.self.invariant.1 in
    (omega (arith, all, one, total), omega (arith, most))

pub invariant_of-self-else-is_some : goal.invariant_of-self-else-is_some
invariant_of-self-else-is_some g c =
    let inside = rw (← c.self.view_is) at c.requires.inside in
    let all = taken_total c.self.inside.queues.items (c.args.sender * 8 + c.args.receiver) c.index_mut.result.now c.pop-letter.new.self c.pop-letter.result inside.0 c.index_mut.ensures.value c.pop-letter.ensures.some in
    let none = none_zero c.pop-letter.result (sym c.is_some.ensures ∙ c.if-is_some.false) in
    let total = c.self.invariant.0 in
    (omega (arith, all, none, total), c.self.invariant.1)

pub returns-then-is_some-clause-messages : goal.returns-then-is_some-clause-messages
returns-then-is_some-clause-messages g c =
    let inside = rw (← c.self.view_is) at c.requires.inside in
    let all = taken_total c.self.inside.queues.items (c.args.sender * 8 + c.args.receiver) c.index_mut.result.now c.pop-letter.new.self c.pop-letter.result inside.0 c.index_mut.ensures.value c.pop-letter.ensures.some in
    let one = some_one c.pop-letter.result (sym c.is_some.ensures ∙ c.if-is_some.true) in
    let total = c.self.invariant.0 in
    rw (← c.self.view_is) (omega (arith, all, one, total))
