use Rattle.std.proofs.Common.{◌≡◌, ◌≤◌, ℕ, [], false, length, Some, None}
use Rattle.std.specs.Prelude.{vec_capacity, slice_get, slice_index_or}
use Rattle.es_ticket.specs.Stakes.{StakeView}
use Rattle.es_ledger.proofs.ledger.LedgerCore.new.Given as goal

abbrev pub invariant-loop : goal.invariant-loop
invariant-loop g l = record {
  empty : l.rows.rows ≡ [];
  dealt : l.rows.agents ≡ l.counter;
  stakes : length l.stakes.items ≡ l.counter;
  stake_room : l.agents ≤ vec_capacity l.stakes;
  each : (i : ℕ) (s : StakeView) → slice_get l.stakes.items i ≡ Some s → (s.agent ≡ i) × (s.rows ≡ []);
  ends : length l.ended.items ≡ l.counter;
  end_room : l.agents ≤ vec_capacity l.ended;
  quiet : (a : ℕ) → slice_index_or l.ended.items a false ≡ false;
  waits : length l.waits.items ≡ l.counter;
  wait_room : l.agents ≤ vec_capacity l.waits;
  nobody : (a : ℕ) → slice_index_or l.waits.items a None ≡ None;
  sleeps : length l.asleep.items ≡ l.counter;
  sleep_room : l.agents ≤ vec_capacity l.asleep;
  awake : (a : ℕ) → slice_index_or l.asleep.items a false ≡ false;
}
