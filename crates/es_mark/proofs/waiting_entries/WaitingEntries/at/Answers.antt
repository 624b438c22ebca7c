use Rattle.es_mark.proofs.EntryQueues.{found_some, found_none}
use Rattle.es_mark.proofs.waiting_entries.WaitingEntries.at.Goals as goal

pub returns-in-Some : goal.returns-in-Some
returns-in-Some c = rw (c.as_slice.ensures.value, ← c.self.view_is) (found_some _ c.args.map _ c.in-Some.ensures.value)

pub returns-in-None : goal.returns-in-None
returns-in-None c = rw (← c.self.view_is) (found_none _ c.args.map c.in-None.ensures.value)
