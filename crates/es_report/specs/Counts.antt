-- To believe: the totals that the report of one outcome has.
use Rattle.std.specs.Prelude.{ℕ, ◌≡◌, List, map, reverse}
use Rattle.es_event.specs.declared.outcome.Outcome.{Outcome}
use Rattle.es_event.specs.Ledger.{opened}
use Rattle.es_event.specs.Totals.{released, posted, taken, drained}
use Rattle.es_registry.specs.declared.slot.Tally.{Tally}
use Rattle.es_report.specs.Tallies.{end_tally}

-- how many registrations of each agent have each fate, how many blocks were opened and released, and how many messages
-- were posted, taken and drained
pub record CountsView : Type 0 where
  pub tallies : List Tally
  pub opened : ℕ
  pub released : ℕ
  pub posted : ℕ
  pub taken : ℕ
  pub drained : ℕ

-- what the outcome's histories say, whose events are the oldest first
abbrev pub sums_of : Outcome → CountsView
sums_of o =
    record {
      tallies = map (λ events. end_tally (reverse events)) o.histories;
      opened = opened (reverse o.ledger);
      released = released (reverse o.ledger);
      posted = posted (reverse o.ledger);
      taken = taken (reverse o.ledger);
      drained = drained (reverse o.ledger);
    }

-- these are the totals of this outcome
abbrev pub IsCountsOf : Outcome → CountsView → Type 0
IsCountsOf o counts = counts ≡ sums_of o
