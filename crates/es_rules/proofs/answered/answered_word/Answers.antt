use Rattle.std.proofs.Common.{◌≡◌, arith, of_z, rules, to_z, w64}
use Rattle.std.specs.Prelude.{pos}
use Rattle.es_rules.proofs.Answering.{may_give_word}
use Rattle.es_rules.proofs.answered.answered_word.Goals as goal

pub answered-requires-clause-gives : goal.answered-requires-clause-gives
answered-requires-clause-gives c =
    let same : to_z w64 (of_z w64 c.from.result) ≡ pos c.args.word = search rules in
    rw same (may_give_word c.args.agent.now c.args.word c.requires.takes (omega (arith, c.ranges.word.fits)))
