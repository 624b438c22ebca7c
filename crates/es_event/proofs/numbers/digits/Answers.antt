use Rattle.std.proofs.Common.{◌≤◌, arith}
use Rattle.es_event.proofs.Digits.{below_most}
use Rattle.es_event.proofs.numbers.digits.Goals as goal

pub overflow_mul-number : goal.overflow_mul-number
overflow_mul-number c =
    let few : c.loop-letter.letter-index ≤ 15 = omega (arith, c.loop-letter-test.true, c.if-text-gt-MOST_DIGITS.false) in
    let small = below_most c.loop-letter.number c.loop-letter.letter-index c.loop-letter.invariant.small few in
    omega (arith, small)

pub overflow_add-number : goal.overflow_add-number
overflow_add-number c =
    let few : c.loop-letter.letter-index ≤ 15 = omega (arith, c.loop-letter-test.true, c.if-text-gt-MOST_DIGITS.false) in
    let small = below_most c.loop-letter.number c.loop-letter.letter-index c.loop-letter.invariant.small few in
    let digit = c.type_inv.text c.loop-letter.letter-index in
    omega (arith, small, c.from.ensures, digit)

pub returns-clause-small : goal.returns-clause-small
returns-clause-small c =
    let few : c.loop-letter.letter-index ≤ 15 = omega (arith, c.loop-letter.auto.letter-index-end, c.if-text-gt-MOST_DIGITS.false) in
    below_most c.loop-letter.number c.loop-letter.letter-index c.loop-letter.invariant.small few
