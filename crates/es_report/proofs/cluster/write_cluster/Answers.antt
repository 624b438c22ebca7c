use Rattle.es_report.proofs.cluster.write_cluster.Goals as goal

pub returns : goal.returns
returns g c = rw (c.released_back-released.ensures, c.totals_of-totals.ensures, c.as_slice-events.ensures) at c.write_totals.ensures
