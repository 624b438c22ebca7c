use Rattle.std.proofs.Common.{reverse}
use Rattle.es_match.proofs.Deciding.{all_came, refuted, some_stops}
use Rattle.es_match.proofs.matching.came_of.Goals as goal

pub returns-in-Some-clause-some : goal.returns-in-Some-clause-some
returns-in-Some-clause-some g c =
    all_came (λ cs. cs.items) c.all_go.result c.args.histories.now (reverse c.args.ledger.now) c.in-Some.parts.items c.deref.result.now
    (rw c.in-Some.is at c.in_ok-parts.ensures) c.deref.ensures.value c.all_go.ensures.size c.all_go.ensures.some

pub returns-in-Some-clause-none : goal.returns-in-Some-clause-none
returns-in-Some-clause-none g c =
    some_stops c.all_go.result c.args.histories.now (reverse c.args.ledger.now) c.in-Some.parts.items c.deref.result.now
    (rw c.in-Some.is at c.in_ok-parts.ensures) c.deref.ensures.value c.all_go.ensures.none

pub returns-in-None-clause-none : goal.returns-in-None-clause-none
returns-in-None-clause-none g c = refuted c.args.histories.now (reverse c.args.ledger.now) (rw c.in-None.is at c.in_ok-parts.ensures)
