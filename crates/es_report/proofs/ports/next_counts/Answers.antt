use Rattle.std.proofs.Common.{refl}
use Rattle.es_event.specs.declared.ledger_event.LedgerEvent.TheVariants.{Taken, Drained}
use Rattle.es_report.proofs.Posted.{counts_out, counts_put}
use Rattle.es_report.proofs.ports.next_counts.Goals as goal

pub returns-in-Posted-clause-counts : goal.returns-in-Posted-clause-counts
returns-in-Posted-clause-counts c = rw c.in-Posted.is (λ l says.
    rw c.put_in.ensures (counts_put c.args.sender c.args.receiver c.in-Posted.from c.in-Posted.to c.in-Posted.body l c.args.counts c.is_port.result c.is_port.ensures says))

pub returns-in-Taken-clause-counts : goal.returns-in-Taken-clause-counts
returns-in-Taken-clause-counts c = rw c.in-Taken.is (λ l says.
    rw c.taken_out.ensures (counts_out c.args.sender c.args.receiver c.in-Taken.from c.in-Taken.to (Taken c.in-Taken.from c.in-Taken.to) l c.args.counts c.is_port-in-Taken.result c.is_port-in-Taken.ensures refl (λ q. refl) says))

pub returns-in-Drained-clause-counts : goal.returns-in-Drained-clause-counts
returns-in-Drained-clause-counts c = rw c.in-Drained.is (λ l says.
    rw c.taken_out-in-Drained.ensures (counts_out c.args.sender c.args.receiver c.in-Drained.from c.in-Drained.to (Drained c.in-Drained.from c.in-Drained.to) l c.args.counts c.is_port-in-Drained.result c.is_port-in-Drained.ensures refl (λ q. refl) says))
