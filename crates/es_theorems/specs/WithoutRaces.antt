-- To believe: a plan whose agents never sleep, and of which by turns no two accesses to a word race, has one report, whatever the order of its
-- turns, and in threads.
use Rattle.std.specs.Prelude.{ℕ, ◌≡◌, true, List}
use Rattle.es_event.specs.declared.outcome.Outcome.{Outcome}
use Rattle.es_event.specs.declared.plan.Plan.{Plan}
use Rattle.es_event.specs.Report.{report}
use Rattle.es_laws.specs.Races.{has_no_race}
use Rattle.es_cluster.specs.Ends.{EndsIn}
use Rattle.es_cluster.specs.Moves.{RunsToEnd, with_drained}
use Rattle.es_cluster.specs.State.{ClusterView, first_state}
use Rattle.es_cluster.specs.Turns.{AllTurned}
use Rattle.es_outcome.specs.Outcomes.{IsClusterOutcome}
use Rattle.es_theorems.specs.Messages.{SayAlike, share_no_word}
use Rattle.es_theorems.specs.Sleepless.{never_sleeps}

-- If agents never sleep, and in one list of turns that ends no two accesses race, every list of turns that ends has the same histories.
abbrev pub WithoutRacesTurnsSayAlike : Type 0
WithoutRacesTurnsSayAlike =
    (plan : Plan) (ns ms : List ℕ) (c d : ClusterView) (o q : Outcome) → never_sleeps plan ≡ true → AllTurned ns (first_state plan) c → EndsIn (with_drained c) o → has_no_race c.ledger.history ≡ true → AllTurned ms (first_state plan) d → EndsIn (with_drained d) q → SayAlike o q

-- And no two race in it, if the agents never sleep.
abbrev pub WithoutRacesNoTurnsRace : Type 0
WithoutRacesNoTurnsRace =
    (plan : Plan) (ns ms : List ℕ) (c d : ClusterView) (o q : Outcome) → never_sleeps plan ≡ true → AllTurned ns (first_state plan) c → EndsIn (with_drained c) o → has_no_race c.ledger.history ≡ true → AllTurned ms (first_state plan) d → EndsIn (with_drained d) q → has_no_race d.ledger.history ≡ true

-- by turns no two accesses of the plan race
abbrev pub HasNoRaceByTurns : Plan → Type 0
HasNoRaceByTurns plan = (c : ClusterView) → RunsToEnd (first_state plan) c → has_no_race c.ledger.history ≡ true

-- If agents never sleep, and by turns no two accesses race, each agent has one history in threads too: the one by turns.
abbrev pub WithoutRacesThreadsSayAsByTurns : Type 0
WithoutRacesThreadsSayAsByTurns =
    (plan : Plan) (c : ClusterView) (o q : Outcome) → never_sleeps plan ≡ true → IsClusterOutcome plan o → RunsToEnd (first_state plan) c → has_no_race c.ledger.history ≡ true → EndsIn c q → SayAlike o q

-- So what is reported of such a plan in threads is what is reported of it by turns.
abbrev pub WithoutRacesThreadsReportAsByTurns : Type 0
WithoutRacesThreadsReportAsByTurns =
    (plan : Plan) (c : ClusterView) (o q : Outcome) → never_sleeps plan ≡ true → IsClusterOutcome plan o → RunsToEnd (first_state plan) c → has_no_race c.ledger.history ≡ true → EndsIn c q → report o ≡ report q

-- Agents that read and write no word race for none.
abbrev pub MessagesAloneDoNotRace : Type 0
MessagesAloneDoNotRace = (plan : Plan) (ns : List ℕ) (c : ClusterView) → share_no_word plan ≡ true → AllTurned ns (first_state plan) c → has_no_race c.ledger.history ≡ true

-- So by turns they race for none.
abbrev pub MessagesAloneDoNotRaceByTurns : Type 0
MessagesAloneDoNotRaceByTurns = (plan : Plan) → share_no_word plan ≡ true → HasNoRaceByTurns plan
