use Rattle.std.proofs.Common.{◌≡◌, ◌∷◌, ap, arith}
use Rattle.json.specs.Reads.{token_of}
use Rattle.es_script.proofs.Taking.{takes_null, takes_boolean, takes_string, takes_number}
use Rattle.es_script.proofs.command.part_in.Goals as goal

pub returns-in-String-clause-taken : goal.returns-in-String-clause-taken
returns-in-String-clause-taken c = λ depth.
    let came : c.args.reader.now ≡ token_of c.in-Some.token ∷ c.next.new.self = grind arith in
    rw (came, ap token_of c.in-String.is) (takes_string depth _ _)

pub returns-in-Some-whole_number-clause-taken : goal.returns-in-Some-whole_number-clause-taken
returns-in-Some-whole_number-clause-taken c = λ depth.
    let came : c.args.reader.now ≡ token_of c.in-Some.token ∷ c.next.new.self = grind arith in
    rw (came, ap token_of c.in-Number.is) (takes_number depth _ _ _ c.in-Some-whole_number.ensures)

pub returns-in-Bool-clause-taken : goal.returns-in-Bool-clause-taken
returns-in-Bool-clause-taken c = λ depth.
    let came : c.args.reader.now ≡ token_of c.in-Some.token ∷ c.next.new.self = grind arith in
    rw (came, ap token_of c.in-Bool.is) (takes_boolean depth _ _)

pub returns-in-Null-clause-taken : goal.returns-in-Null-clause-taken
returns-in-Null-clause-taken c = λ depth.
    let came : c.args.reader.now ≡ token_of c.in-Some.token ∷ c.next.new.self = grind arith in
    rw (came, ap token_of c.in-Null.is) (takes_null depth _)
