-- Ledgers that tell the same although an agent waited, or spent its tickets in another order; and such as do not.
use Rattle.std.proofs.Common.{true, List, [], ◌∷◌, map, length, codes, refl, ap}
use Rattle.es_value.specs.declared.value.Value.TheVariants.{Undefined, Boolean}
use Rattle.es_event.specs.declared.access.Change.TheVariants.{Write as stores}
use Rattle.es_event.specs.declared.event.Event.TheVariants.{JobBegun, JobEnded, Closed}
use Rattle.es_event.specs.declared.ledger_event.Body.TheVariants.{Plain, Block}
use Rattle.es_event.specs.declared.ledger_event.LedgerEvent.{LedgerEvent}
use Rattle.es_event.specs.declared.ledger_event.LedgerEvent.TheVariants.{Opened, Posted, Taken, Spent, Accessed, Drained, Acted}
use Rattle.es_event.specs.declared.ledger_event.Act.TheVariants.{Waiting, Ended}
use Rattle.es_event.specs.declared.event.Event.{Event}
use Rattle.es_event.specs.declared.outcome.Outcome.{Outcome}
use Rattle.es_event.specs.Ledger.{Ledger}
use Rattle.es_event.specs.Rows.{unspent}
use Rattle.es_theorems.specs.Alike.{Alike, SameEnd}

abbrev posted : Ledger
posted = Posted 0 1 (Plain Undefined) ∷ []

-- the other agent waited before the message came
a_wait_besides : Alike (Posted 0 1 (Plain Undefined) ∷ Acted 1 (Waiting 0) ∷ []) posted
a_wait_besides = record {
  opened = refl;
  serials = refl;
  sizes = λ b. refl;
  ports = λ s r. refl;
  tables = refl;
  words = λ b i. refl;
  waiters = refl;
  asleep = λ a. refl;
  ends = λ a. refl;
  posted = refl;
  taken = refl;
  drained = refl;
}

no_message : Alike posted [] → ⊥
no_message a = let count = a.posted in cc

another_message : Alike posted (Posted 0 1 (Plain (Boolean true)) ∷ []) → ⊥
another_message a = let port = a.ports 0 1 in cc

another_receiver : Alike posted (Posted 0 2 (Plain Undefined) ∷ []) → ⊥
another_receiver a = let port = a.ports 0 1 in cc

abbrev two_blocks : Ledger
two_blocks = Opened 2 1 2 0 ∷ Opened 1 1 1 0 ∷ []

a_block_more : Alike two_blocks (Opened 1 1 1 0 ∷ []) → ⊥
a_block_more a = let count = a.opened in cc

another_size : Alike (Opened 1 1 1 0 ∷ []) (Opened 1 2 1 0 ∷ []) → ⊥
another_size a = let size = a.sizes 1 in cc

a_ticket_more : Alike (Posted 0 1 (Block 1 3) ∷ two_blocks) (Posted 0 1 (Plain Undefined) ∷ two_blocks) → ⊥
a_ticket_more a = let count = a.serials in cc

not_taken : Alike (Taken 0 1 ∷ posted) posted → ⊥
not_taken a = let count = a.taken in cc

a_drain_more : Alike (Drained 0 1 ∷ []) [] → ⊥
a_drain_more a = let count = a.drained in cc

another_word : Alike (Accessed 1 0 (stores 7) 0 ∷ two_blocks) (Accessed 1 0 (stores 8) 0 ∷ two_blocks) → ⊥
another_word a = let word = a.words 1 0 in cc

not_ended : Alike (Acted 0 Ended ∷ two_blocks) two_blocks → ⊥
not_ended a = let end = a.ends 0 in cc

kept : Alike (Spent 1 ∷ two_blocks) two_blocks → ⊥
kept a = let unspent = ap (λ t. length (unspent t)) a.tables in cc

-- Outcomes

abbrev ended_in : List Event → List LedgerEvent → Outcome
ended_in h l = record { names = codes "a" ∷ []; histories = h ∷ []; ledger = l }

abbrev whole : List Event
whole = JobBegun 1 ∷ JobEnded ∷ Closed ∷ []

-- the tickets of both blocks were given up at once
in_another_order : SameEnd (ended_in whole (Opened 1 1 1 0 ∷ Opened 2 1 2 0 ∷ Spent 1 ∷ Spent 2 ∷ Acted 0 Ended ∷ [])) (ended_in whole (Opened 1 1 1 0 ∷ Opened 2 1 2 0 ∷ Spent 2 ∷ Spent 1 ∷ Acted 0 Ended ∷ []))
in_another_order = record {
  names = refl;
  histories = refl;
  ledgers = record {
    opened = refl;
    serials = refl;
    sizes = λ b. refl;
    ports = λ s r. refl;
    tables = refl;
    words = λ b i. refl;
    waiters = refl;
    asleep = λ a. refl;
    ends = λ a. refl;
    posted = refl;
    taken = refl;
    drained = refl;
  };
}

another_history : SameEnd (ended_in whole []) (ended_in (JobEnded ∷ []) []) → ⊥
another_history s = let histories = s.histories in cc

another_name : SameEnd (ended_in whole []) (record { names = codes "ab" ∷ []; histories = whole ∷ []; ledger = [] }) → ⊥
another_name s = let lengths = ap (map length) s.names in cc

another_ledger : SameEnd (ended_in whole (Opened 1 1 1 0 ∷ [])) (ended_in whole []) → ⊥
another_ledger s = let count = s.ledgers.opened in cc
