use Rattle.std.proofs.Common.{◌≡◌, true, arith}
use Rattle.std.specs.Prelude.{codes}
use Rattle.std.specs.Str.{bytes_eq}
use Rattle.es_script.proofs.TakingCallbacks.{equal_bytes}
use Rattle.es_script.proofs.TakingPlan.{took_one, took_two, took_three}
use Rattle.es_script.proofs.by_tokens.version_in.Goals as goal

pub returns-then-eq : goal.returns-then-eq
returns-then-eq c =
    let number = c.in_ok-number in
    let same : bytes_eq number.number.now (codes "1") ≡ true = grind arith in
    took_one number.number.now c.args.reader.now c.number.new.reader number.ensures (equal_bytes number.number.now (codes "1") same)

pub returns-then-eq-2 : goal.returns-then-eq-2
returns-then-eq-2 c =
    let number = c.in_ok-number in
    let same : bytes_eq number.number.now (codes "2") ≡ true = grind arith in
    took_two number.number.now c.args.reader.now c.number.new.reader number.ensures (equal_bytes number.number.now (codes "2") same)

pub returns-then-eq-3 : goal.returns-then-eq-3
returns-then-eq-3 c =
    let number = c.in_ok-number in
    let same : bytes_eq number.number.now (codes "3") ≡ true = grind arith in
    took_three number.number.now c.args.reader.now c.number.new.reader number.ensures (equal_bytes number.number.now (codes "3") same)
