use Rattle.std.proofs.Common.{◌≡◌, ap, arith, length}
use Rattle.es_ledger.proofs.Leaving.{length_first}
use Rattle.es_ledger.proofs.waiters.take_first.Goals as goal

pub overflow_sub-result : goal.overflow_sub-result
overflow_sub-result c =
    let left : length c.loop.waiters.items ≡ length _ = ap (λ ws. length ws) c.loop.invariant in
    let all = length_first c.args.block c.args.index c.loop.counter c.args.waiters.now.items in
    omega (arith, left, all, c.len.ensures, c.len-before.ensures)

pub returns-clause-taken : goal.returns-clause-taken
returns-clause-taken c =
    let left : length c.loop.waiters.items ≡ length _ = ap (λ ws. length ws) c.loop.invariant in
    let all = length_first c.args.block c.args.index c.loop.counter c.args.waiters.now.items in
    omega (arith, left, all, c.len.ensures, c.len-before.ensures)
