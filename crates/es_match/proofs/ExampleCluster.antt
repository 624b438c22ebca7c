-- Histories of clusters of two agents: a worker that gets a buffer, a skip, a refused receipt and a drain, a collection.
use Rattle.std.proofs.Common.{ℕ, true, refl, List, [], ◌∷◌, codes, rules}
use Rattle.std.specs.Prelude.{pos, negsuc}
use Rattle.es_value.specs.declared.value.Value.TheVariants.{Boolean, Number, Object}
use Rattle.es_event.specs.declared.access.Change.TheVariants.{Keep as loads, Write as stores, Add as adds}
use Rattle.es_event.specs.declared.command.Command.TheVariants.{SharedArrayBuffer, Length, SameBlock, Post}
use Rattle.es_event.specs.declared.event.Answer.TheVariants.{Nothing, Gives}
use Rattle.es_event.specs.declared.event.Refusal.TheVariants.{TooManyValues}
use Rattle.es_event.specs.declared.event.Event.TheVariants.{JobBegun, Received, Did, Refused, Emptied, JobEnded, Skipped, Closed}
use Rattle.es_event.specs.declared.ledger_event.Body.TheVariants.{Plain, Block}
use Rattle.es_event.specs.declared.ledger_event.LedgerEvent.TheVariants.{Opened, Posted, Taken, Spent, Accessed, Drained, Acted}
use Rattle.es_event.specs.declared.ledger_event.Act.TheVariants.{Waiting, Passed, Ended}
use Rattle.es_event.specs.History.{History}
use Rattle.es_event.specs.Ledger.{Ledger}
use Rattle.es_event.specs.LegalLedger.{LegalLedger}
use Rattle.es_event.proofs.Examples.{load, store, add}
use Rattle.es_match.specs.Cluster.{IsCluster}
use Rattle.es_match.proofs.Examples.{two_agents}

abbrev pub b : List ℕ
b = codes "b"

abbrev pub x : List ℕ
x = codes "x"

-- A worker gets a buffer

abbrev pub made : History
made = Did (store b (pos 1) (pos 4294967301), Object 1 ∷ [], Nothing) ∷ Did (SharedArrayBuffer b 4, [], Gives (Object 1))
    ∷ JobBegun 1 ∷ []

abbrev pub maker : History
maker = Closed ∷ JobEnded ∷ Did (Post 1 b, Object 1 ∷ [], Nothing) ∷ made

abbrev pub got : History
got = JobBegun 1 ∷ Received 0 (Object 1) ∷ []

abbrev pub read : History
read = Did (SameBlock x b b, Object 1 ∷ Object 1 ∷ [], Gives (Boolean true))
    ∷ Did (Length x b, Object 1 ∷ [], Gives (Number (pos 4)))
    ∷ Did (load x b (pos 1), Object 1 ∷ [], Gives (Number (pos 5))) ∷ got

abbrev pub worker : History
worker = Closed ∷ JobEnded ∷ Did (add x b (pos 1) (negsuc 0), Object 1 ∷ [], Gives (Number (pos 5))) ∷ read

abbrev pub opened : Ledger
opened = Opened 1 4 1 0 ∷ []

abbrev pub posted : Ledger
posted = Posted 0 1 (Block 1 2) ∷ Accessed 1 1 (stores 5) 0 ∷ Acted 1 (Waiting 0) ∷ opened

abbrev pub taken : Ledger
taken = Acted 0 Ended ∷ Spent 1 ∷ Taken 0 1 ∷ posted

abbrev pub worked : Ledger
worked = Acted 1 Ended ∷ Spent 2 ∷ Accessed 2 1 (adds 4294967295) 5 ∷ Accessed 2 1 loads 5 ∷ taken

worked_legal : LegalLedger 2 worked
worked_legal = search rules

pub a_worker : IsCluster (maker ∷ worker ∷ []) worked
a_worker = two_agents maker worker worked refl refl refl

-- A job is skipped

abbrev pub idle : History
idle = Closed ∷ []

abbrev pub skipper : History
skipper = Closed ∷ Skipped 1 0 ∷ []

abbrev pub passed : Ledger
passed = Acted 1 Ended ∷ Acted 1 (Passed 0) ∷ Acted 0 Ended ∷ Acted 1 (Waiting 0) ∷ []

passed_legal : LegalLedger 2 passed
passed_legal = search rules

pub a_skip : IsCluster (idle ∷ skipper ∷ []) passed
a_skip = two_agents idle skipper passed refl refl refl

-- A receipt is refused, and a message is drained

abbrev pub poster : History
poster = Closed ∷ JobEnded ∷ Did (Post 1 b, Object 1 ∷ [], Nothing) ∷ Did (Post 1 b, Object 1 ∷ [], Nothing)
    ∷ Did (SharedArrayBuffer b 4, [], Gives (Object 1)) ∷ JobBegun 1 ∷ []

abbrev pub refuser : History
refuser = Closed ∷ JobEnded ∷ Refused TooManyValues ∷ []

abbrev pub refused : Ledger
refused = Acted 1 Ended ∷ Spent 2 ∷ Taken 0 1 ∷ Acted 0 Ended ∷ Spent 1 ∷ Posted 0 1 (Block 1 3) ∷ Posted 0 1 (Block 1 2) ∷ Opened 1 4 1 0 ∷ []

abbrev pub drained : Ledger
drained = Spent 3 ∷ Drained 0 1 ∷ refused

drained_legal : LegalLedger 2 drained
drained_legal = search rules

pub a_refusal : IsCluster (poster ∷ refuser ∷ []) drained
a_refusal = two_agents poster refuser drained refl refl refl

-- Two buffers over one block, of which one is emptied; a number is posted and received; two tickets are spent in either order

abbrev pub sharer : History
sharer = Closed ∷ JobEnded ∷ Did (Post 1 b, Object 1 ∷ [], Nothing) ∷ Did (Post 1 b, Object 1 ∷ [], Nothing)
    ∷ Did (Post 1 x, Number (pos 7) ∷ [], Nothing)
    ∷ Did (SharedArrayBuffer b 4, [], Gives (Object 1)) ∷ JobBegun 1 ∷ []

abbrev pub received : History
received = Received 0 (Object 2) ∷ JobEnded ∷ JobBegun 2 ∷ Received 0 (Object 1) ∷ JobEnded ∷ JobBegun 1
    ∷ Received 0 (Number (pos 7)) ∷ []

abbrev pub collector : History
collector = Closed ∷ JobEnded ∷ Emptied (1 ∷ 2 ∷ []) ∷ Did (SameBlock x b b, Object 1 ∷ Object 2 ∷ [], Gives (Boolean true))
    ∷ JobBegun 3 ∷ received

abbrev pub shared : Ledger
shared = Taken 0 1 ∷ Taken 0 1 ∷ Taken 0 1 ∷ Acted 0 Ended ∷ Spent 1 ∷ Posted 0 1 (Block 1 3) ∷ Posted 0 1 (Block 1 2)
    ∷ Posted 0 1 (Plain (Number (pos 7))) ∷ Opened 1 4 1 0 ∷ []

abbrev pub collected : Ledger
collected = Acted 1 Ended ∷ Spent 2 ∷ Spent 3 ∷ shared

abbrev pub collected_in_order : Ledger
collected_in_order = Acted 1 Ended ∷ Spent 3 ∷ Spent 2 ∷ shared

collected_legal : LegalLedger 2 collected
collected_legal = search rules

pub a_collection : IsCluster (sharer ∷ collector ∷ []) collected
a_collection = two_agents sharer collector collected refl refl refl

pub a_collection_in_order : IsCluster (sharer ∷ collector ∷ []) collected_in_order
a_collection_in_order = two_agents sharer collector collected_in_order refl refl refl

-- A receipt is refused after a job, and one after a skip

abbrev pub later_refuser : History
later_refuser = Refused TooManyValues ∷ JobEnded ∷ Did (SharedArrayBuffer b 2, [], Gives (Object 1)) ∷ JobBegun 1 ∷ []

abbrev pub before_later : Ledger
before_later = Acted 0 Ended ∷ Spent 1 ∷ Posted 0 1 (Block 1 4) ∷ Posted 0 1 (Block 1 3) ∷ Opened 2 2 2 1 ∷ Opened 1 4 1 0 ∷ []

abbrev pub later_refused : Ledger
later_refused = Spent 3 ∷ Taken 0 1 ∷ before_later

later_legal : LegalLedger 2 later_refused
later_legal = search rules

pub a_later_refusal : IsCluster (poster ∷ later_refuser ∷ []) later_refused
a_later_refusal = two_agents poster later_refuser later_refused refl refl refl

abbrev pub skipper_refused : Ledger
skipper_refused = Spent 2 ∷ Taken 0 1 ∷ Acted 0 Ended ∷ Spent 1 ∷ Posted 0 1 (Block 1 3) ∷ Posted 0 1 (Block 1 2) ∷ Opened 1 4 1 0
    ∷ Acted 1 (Passed 0) ∷ Acted 1 (Waiting 0) ∷ []

pub a_refusal_after_a_skip : IsCluster (poster ∷ (Refused TooManyValues ∷ Skipped 1 0 ∷ []) ∷ []) skipper_refused
a_refusal_after_a_skip = two_agents poster _ skipper_refused refl refl refl

-- A received buffer is posted back

abbrev pub posted_back : Ledger
posted_back = Acted 1 Ended ∷ Spent 2 ∷ Posted 1 0 (Block 1 3) ∷ taken

posted_back_legal : LegalLedger 2 posted_back
posted_back_legal = search rules

pub a_way_back : IsCluster (maker ∷ (Closed ∷ JobEnded ∷ Did (Post 0 b, Object 1 ∷ [], Nothing) ∷ got) ∷ []) posted_back
a_way_back = two_agents maker _ posted_back refl refl refl
