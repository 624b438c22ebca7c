-- A run of two agents in which a received buffer is said to have no such word: no outcome of its plan.
use Rattle.std.proofs.Common.{◌≡◌, ℕ, true, List, [], ◌∷◌, Option, Some, None, map, reverse, codes, sym, ap, ◌∙◌, subst}
use Rattle.std.specs.Prelude.{pos}
use Rattle.std.specs.List.{AllByRecursion}
use Rattle.std.proofs.lemmas.List.{reverse-reverse}
use Rattle.es_value.specs.declared.value.Value.TheVariants.{Object}
use Rattle.es_event.specs.declared.command.Command.TheVariants.{SharedArrayBuffer, Post}
use Rattle.es_event.specs.declared.event.Answer.TheVariants.{Nothing, Gives}
use Rattle.es_event.specs.declared.event.Event.{Event}
use Rattle.es_event.specs.declared.event.Event.TheVariants.{JobBegun, Received, Did, Refused, JobEnded, Closed}
use Rattle.es_event.specs.declared.event.Refusal.TheVariants.{IndexOutOfRange}
use Rattle.es_event.specs.declared.ledger_event.Body.TheVariants.{Block}
use Rattle.es_event.specs.declared.ledger_event.LedgerEvent.TheVariants.{Opened, Posted, Taken, Spent, Acted}
use Rattle.es_event.specs.declared.ledger_event.Act.TheVariants.{Ended}
use Rattle.es_event.specs.declared.outcome.Outcome.{Outcome}
use Rattle.es_event.specs.declared.plan.AgentPlan.{AgentPlan}
use Rattle.es_event.specs.declared.plan.Plan.{Plan}
use Rattle.es_event.specs.declared.row.Row.{Row}
use Rattle.es_event.specs.History.{History}
use Rattle.es_event.specs.Ledger.{Ledger}
use Rattle.es_event.specs.Rows.{row}
use Rattle.es_event.specs.Runs.{IsWholeRunOver}
use Rattle.es_event.specs.Sharing.{Buffers}
use Rattle.es_event.proofs.Examples.{load}
use Rattle.es_match.proofs.Bridge.{ties_mean_goes}
use Rattle.es_match.specs.Cluster.{Account, account_of}
use Rattle.es_match.specs.Deeds.{part}
use Rattle.es_match.specs.Goes.{goes}
use Rattle.es_match.specs.Meets.{Came, nothing_came}
use Rattle.es_cluster.specs.Ends.{IsWhole}
use Rattle.es_outcome.specs.Outcomes.{IsClusterOutcome}

abbrev main_plan : AgentPlan
main_plan = record {
  name = codes "main";
  callbacks = [];
  jobs = record { on = None; catches = []; run = SharedArrayBuffer (codes "b") 2 ∷ Post 1 (codes "b") ∷ [] } ∷ [];
}

abbrev worker_plan : AgentPlan
worker_plan = record {
  name = codes "worker";
  callbacks = [];
  jobs = record { on = Some (0, codes "m"); catches = []; run = load (codes "x") (codes "m") (pos 1) ∷ [] } ∷ [];
}

abbrev plan : Plan
plan = record { agents = main_plan ∷ worker_plan ∷ [] }

abbrev poster : List Event
poster = JobBegun 1 ∷ Did (SharedArrayBuffer (codes "b") 2, [], Gives (Object 1)) ∷ Did (Post 1 (codes "b"), Object 1 ∷ [], Nothing) ∷ JobEnded ∷ Closed ∷ []

-- the worker's load, of the second of two words, is refused for its index
abbrev refuser : List Event
refuser = Received 0 (Object 1) ∷ JobBegun 1 ∷ Refused IndexOutOfRange ∷ JobEnded ∷ Closed ∷ []

abbrev outcome : Outcome
outcome = record {
  names = codes "main" ∷ codes "worker" ∷ [];
  histories = poster ∷ refuser ∷ [];
  ledger = Opened 1 2 1 0 ∷ Posted 0 1 (Block 1 2) ∷ Spent 1 ∷ Acted 0 Ended ∷ Taken 0 1 ∷ Spent 2 ∷ Acted 1 Ended ∷ [];
}

abbrev ledger : Ledger
ledger = reverse outcome.ledger

second : (all : List Account) (p q : AgentPlan) (g h : History) → map (λ a. a.plan) all ≡ p ∷ q ∷ [] → map (λ a. a.history) all ≡ g ∷ h ∷ [] → AllByRecursion IsWhole all
    → ((account_of all 1).plan ≡ q) × ((account_of all 1).history ≡ h) × IsWhole (account_of all 1)
second (a ∷ b ∷ []) p q g h plans histories whole = (cc, cc, whole.1.0)
second [] p q g h plans histories whole = cc
second (a ∷ []) p q g h plans histories whole = cc
second (a ∷ b ∷ c ∷ all) p q g h plans histories whole = cc

-- the table that the worker's buffer has to have
over_is : (over : Buffers) (c : Came) → goes true nothing_came refuser (part ledger 1) ≡ Some c → c.ever ≡ reverse over → over ≡ (1, row 2 1 2) ∷ []
over_is over c came said =
    let ever : c.ever ≡ (1, row 2 1 2) ∷ [] = ever_of c came in
    sym (reverse-reverse over) ∙ ap reverse (sym said ∙ ever)
  where
    ever_of : (c : Came) → goes true nothing_came refuser (part ledger 1) ≡ Some c → c.ever ≡ (1, row 2 1 2) ∷ []
    ever_of c came = ap (λ o. ever_in o) (sym came)
      where
        ever_in : Option Came → List (ℕ × Row)
        ever_in None = []
        ever_in (Some c) = c.ever

in_range : (over : Buffers) → over ≡ (1, row 2 1 2) ∷ [] → IsWholeRunOver over worker_plan (reverse refuser) → ⊥
in_range over is run =
    let here = subst (λ o. IsWholeRunOver o worker_plan (reverse refuser)) is run in
    let refused = here.1.0.1.1.0 in
    cc

no_such_outcome : IsClusterOutcome plan outcome → ⊥
no_such_outcome o =
    let worker = second o.agents main_plan worker_plan (reverse poster) (reverse refuser) o.runs.plans_are o.runs.histories_are o.runs.whole in
    let a = account_of o.agents 1 in
    let mine = o.cluster.parts 1 in
    let came = ap (λ h. goes true nothing_came (reverse h) (part ledger 1)) (sym worker.1) ∙ ties_mean_goes a.history (part ledger 1) mine.0 mine.1 in
    in_range a.over (over_is a.over mine.0 came mine.2.buffers) (subst (λ h. IsWholeRunOver a.over worker_plan h) worker.1 (subst (λ p. IsWholeRunOver a.over p a.history) worker.0 worker.2))
