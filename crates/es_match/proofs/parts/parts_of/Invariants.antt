use Rattle.std.proofs.Common.{length, ◌≤◌, ◌-◌, reverse, take}
use Rattle.es_match.specs.Split.{IsSplit}
use Rattle.es_match.specs.LedgerPass.{Says}
use Rattle.es_match.proofs.parts.parts_of.Given as goal

abbrev pub invariant-loop-place : goal.invariant-loop-place
invariant-loop-place l = record {
  within : l.place ≤ length l.ledger;
  says : Says (reverse (take l.place l.ledger)) l.pass;
  split : IsSplit l.agents (reverse (take l.place l.ledger)) l.parts.items;
}

abbrev pub decreases-loop-place : goal.decreases-loop-place
decreases-loop-place l = length l.ledger - l.place
