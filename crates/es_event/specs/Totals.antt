-- To believe: how many blocks were released, and messages posted, taken and drained, by the ledger's history.
use Rattle.std.specs.Prelude.{ℕ, Bool, true, false, count_by}
use Rattle.std.specs.List.{range_with_len}
use Rattle.es_event.specs.declared.ledger_event.LedgerEvent.{LedgerEvent}
use Rattle.es_event.specs.declared.ledger_event.LedgerEvent.TheVariants.{Opened, Posted, Taken, Spent, Accessed, Drained, Acted}
use Rattle.es_event.specs.Ledger.{Ledger, opened, is_released}

-- the blocks are numbered from 1
abbrev pub released : Ledger → ℕ
released l = count_by (is_released l) (range_with_len 1 (opened l))

abbrev pub is_posted : LedgerEvent → Bool
is_posted (Opened b w s a) = false
is_posted (Posted a r m) = true
is_posted (Taken s r) = false
is_posted (Spent s) = false
is_posted (Accessed s i m old) = false
is_posted (Acted a d) = false
is_posted (Drained s r) = false

abbrev pub is_taken : LedgerEvent → Bool
is_taken (Opened b w s a) = false
is_taken (Posted a r m) = false
is_taken (Taken s r) = true
is_taken (Spent s) = false
is_taken (Accessed s i m old) = false
is_taken (Acted a d) = false
is_taken (Drained s r) = false

abbrev pub is_drained : LedgerEvent → Bool
is_drained (Opened b w s a) = false
is_drained (Posted a r m) = false
is_drained (Taken s r) = false
is_drained (Spent s) = false
is_drained (Accessed s i m old) = false
is_drained (Acted a d) = false
is_drained (Drained s r) = true

abbrev pub posted : Ledger → ℕ
posted l = count_by is_posted l

abbrev pub taken : Ledger → ℕ
taken l = count_by is_taken l

abbrev pub drained : Ledger → ℕ
drained l = count_by is_drained l
