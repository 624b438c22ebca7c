use Rattle.std.proofs.Common.{◌≡◌, ◌≤◌, ◌+◌, List, ◌++◌, length, reverse}
use Rattle.std.specs.Prelude.{vec_capacity}
use Rattle.es_cluster.specs.Ends.{AreHistories, HaveNoTicket}
use Rattle.es_cluster.specs.State.{cores}
use Rattle.es_cluster.specs.Members.{MemberView}
use Rattle.es_cluster.proofs.ending.into_histories.Given as goal

abbrev pub invariant-loop : goal.invariant-loop
invariant-loop g l = record {
  done : List MemberView;
  left : l.fn.members.items ≡ done ++ reverse l.members.items;
  size : length l.members.items + l.counter ≡ l.end;
  taken : length l.histories.items ≡ l.counter;
  room : l.end ≤ vec_capacity l.histories;
  same : l.ledger ≡ l.fn.ledger;
  histories : AreHistories (cores done) l.histories.items;
  none : HaveNoTicket (cores done) l.ledger.history;
}
