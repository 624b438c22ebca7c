-- To believe: a plan whose agents share no words has one report, whatever the order of their turns, and in threads.
use Rattle.std.specs.Prelude.{ℕ, ◌≡◌, ◌&&◌, Bool, true, false, not, List}
use Rattle.std.specs.List.{list_all, list_any}
use Rattle.es_event.specs.declared.command.Command.{Command}
use Rattle.es_event.specs.declared.outcome.Outcome.{Outcome}
use Rattle.es_event.specs.declared.plan.AgentPlan.{AgentPlan}
use Rattle.es_event.specs.declared.plan.Plan.{Plan}
use Rattle.es_event.specs.Report.{report}
use Rattle.es_cluster.specs.Ends.{EndsIn}
use Rattle.es_cluster.specs.Moves.{RunsToEnd, with_drained}
use Rattle.es_cluster.specs.State.{ClusterView, first_state}
use Rattle.es_cluster.specs.Turns.{AllTurned}
use Rattle.es_outcome.specs.Outcomes.{IsClusterOutcome}

-- the command is on a word of a block (The Atomics Object)
abbrev pub is_on_word : Command → Bool
is_on_word (Command.Atomic a) = true
is_on_word _ = false

-- no command of the agent does, in a job or in a callback
abbrev pub shares_no_word : AgentPlan → Bool
shares_no_word plan = list_all (λ j. not (list_any is_on_word j.run)) plan.jobs && list_all (λ c. not (list_any is_on_word c.run)) plan.callbacks

abbrev pub share_no_word : Plan → Bool
share_no_word plan = list_all shares_no_word plan.agents

-- two outcomes have the same names, and the same history of each agent
pub record SayAlike (o q : Outcome) : Type 0 where
  pub names : o.names ≡ q.names
  pub histories : o.histories ≡ q.histories

-- Agents that read and write no word of a shared block, whatever they post, wait for and skip, have the same histories by all lists of turns that end.
abbrev pub MessagesSayAlike : Type 0
MessagesSayAlike =
    (plan : Plan) (ns ms : List ℕ) (c d : ClusterView) (o q : Outcome) → share_no_word plan ≡ true → AllTurned ns (first_state plan) c → EndsIn (with_drained c) o → AllTurned ms (first_state plan) d → EndsIn (with_drained d) q → SayAlike o q

-- In threads too each such agent has one history.
abbrev pub MessagesSayAlikeInThreads : Type 0
MessagesSayAlikeInThreads = (plan : Plan) (o q : Outcome) → share_no_word plan ≡ true → IsClusterOutcome plan o → IsClusterOutcome plan q → SayAlike o q

-- So a plan whose agents share no word has one report, whichever way they run.
abbrev pub MessagesReportAlike : Type 0
MessagesReportAlike = (plan : Plan) (o q : Outcome) → share_no_word plan ≡ true → IsClusterOutcome plan o → IsClusterOutcome plan q → report o ≡ report q

-- What is reported of it in threads is what is reported of it by turns.
abbrev pub ThreadsReportAsByTurns : Type 0
ThreadsReportAsByTurns =
    (plan : Plan) (c : ClusterView) (o q : Outcome) → share_no_word plan ≡ true → IsClusterOutcome plan o → RunsToEnd (first_state plan) c → EndsIn c q → report o ≡ report q
