use Rattle.es_trace_json.proofs.ledger.write_members.Goals as goal

pub returns-in-Posted : goal.returns-in-Posted
returns-in-Posted g c = rw c.in-Posted.is c.write_posted.ensures

pub returns-in-Taken : goal.returns-in-Taken
returns-in-Taken g c = rw c.in-Taken.is c.write_message.ensures
