use Rattle.es_trace_json.proofs.ledger.write_act.Goals as goal

pub returns-in-Passed : goal.returns-in-Passed
returns-in-Passed g c = rw c.in-Passed.is c.write_wait-in-Passed.ensures
