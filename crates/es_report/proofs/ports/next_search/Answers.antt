use Rattle.es_report.proofs.Posted.{finds_put}
use Rattle.es_report.proofs.ports.next_search.Goals as goal

pub returns-in-Posted-clause-finds : goal.returns-in-Posted-clause-finds
returns-in-Posted-clause-finds c = rw c.in-Posted.is (λ l says.
    rw c.seen_in.ensures (finds_put c.args.sender c.args.receiver c.args.before c.in-Posted.from c.in-Posted.to c.in-Posted.body l c.args.search c.is_port.result c.is_port.ensures says))
