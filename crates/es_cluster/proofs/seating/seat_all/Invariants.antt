use Rattle.std.proofs.Common.{◌≡◌, ◌≤◌, ◌+◌, ℕ, [], length, reverse, Some}
use Rattle.std.specs.Prelude.{vec_capacity, slice_get}
use Rattle.es_ticket.specs.Stakes.{StakeView}
use Rattle.es_cluster.specs.State.{cores, first_views}
use Rattle.es_cluster.proofs.seating.seat_all.Given as goal

abbrev pub invariant-loop-plan : goal.invariant-loop-plan
invariant-loop-plan g l = record {
  seated : cores l.members.items ≡ first_views l.count 0 l.yielded;
  size : length l.members.items ≡ length l.yielded;
  stakes : length l.stakes.items + length l.yielded ≡ l.count;
  next : (i : ℕ) (s : StakeView) → slice_get (reverse l.stakes.items) i ≡ Some s → (s.agent ≡ length l.yielded + i) × (s.rows ≡ []);
  room : l.count ≤ vec_capacity l.members;
}
