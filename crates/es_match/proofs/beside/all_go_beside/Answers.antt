use Rattle.es_match.proofs.Calls.{all_gave, one_stops}
use Rattle.es_match.proofs.beside.all_go_beside.Goals as goal

pub returns-clause-some : goal.returns-clause-some
returns-clause-some g c =
    all_gave (λ cs. cs.items) c.all_of.result c.in_ok-gone.gone.items c.args.histories.now c.args.parts.now c.in_ok-gone.ensures.each c.all_of.ensures.some

pub returns-clause-none : goal.returns-clause-none
returns-clause-none g c =
    one_stops c.all_of.result c.in_ok-gone.gone.items c.args.histories.now c.args.parts.now c.in_ok-gone.ensures.size
    c.in_ok-gone.ensures.each c.all_of.ensures.none
