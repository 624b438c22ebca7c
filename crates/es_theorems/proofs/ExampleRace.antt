-- Two agents that race for a word: the plan has two outcomes in threads, so two lists of turns that end otherwise, with two reports.
use Rattle.std.proofs.Common.{◌≡◌, ℕ, zero, suc, Bool, true, false, cond, refl, sym, ap, ◌∙◌, arith, List, [], ◌∷◌, drop, Some, codes, reverse, rules}
use Rattle.std.specs.Prelude.{pos, slice_index_or, unsigned_abs}
use Rattle.std.specs.Fmt.{digits}
use Rattle.es_value.specs.declared.value.Value.TheVariants.{Number, Object}
use Rattle.es_event.specs.declared.access.Change.TheVariants.{Keep, Write}
use Rattle.es_event.specs.declared.command.Command.TheVariants.{SharedArrayBuffer, Post, Say}
use Rattle.es_event.specs.declared.event.Answer.TheVariants.{Nothing, Gives}
use Rattle.es_event.specs.declared.event.Event.{Event}
use Rattle.es_event.specs.declared.event.Event.TheVariants.{JobBegun, Received, Did, JobEnded, Closed}
use Rattle.es_event.specs.declared.ledger_event.Body.{Body}
use Rattle.es_event.specs.declared.ledger_event.Body.TheVariants.{Block}
use Rattle.es_event.specs.declared.ledger_event.LedgerEvent.{LedgerEvent}
use Rattle.es_event.specs.declared.ledger_event.LedgerEvent.TheVariants.{Opened, Posted, Taken, Spent, Accessed, Acted}
use Rattle.es_event.specs.declared.ledger_event.Act.TheVariants.{Ended}
use Rattle.es_event.specs.declared.outcome.Outcome.{Outcome}
use Rattle.es_event.specs.declared.plan.AgentPlan.{AgentPlan}
use Rattle.es_event.specs.declared.plan.Plan.{Plan}
use Rattle.es_event.specs.Ledger.{is_at}
use Rattle.es_event.specs.Report.{report}
use Rattle.es_event.specs.Rows.{row}
use Rattle.es_event.specs.Sharing.{Buffers}
use Rattle.es_event.proofs.Examples.{load, store, job_of, job_on}
use Rattle.es_match.specs.Deeds.{part}
use Rattle.es_match.specs.Orderly.{orderly}
use Rattle.es_match.specs.Cluster.{Account, DeedsMeet, IsSaid, account_of}
use Rattle.es_match.specs.Meets.{Came, nothing_came}
use Rattle.es_match.proofs.Bridge.{goes_means_ties}
use Rattle.es_match.proofs.Deciding.{strangers}
use Rattle.es_match.proofs.Examples.{came_to}
use Rattle.es_outcome.specs.Outcomes.{IsClusterOutcome}
use Rattle.es_theorems.specs.ThreadsLaws.{ComesByTurns, TurnsEndAlike, TurnsReportAlike}
use Rattle.es_theorems.proofs.Ending.{ends_alike, refines, reports_alike}

-- The plan: the first agent posts its buffer, and then stores 7 there; the second loads the word, and says it.

abbrev stores : AgentPlan
stores = record { name = codes "a"; callbacks = []; jobs = job_of (SharedArrayBuffer (codes "b") 1 ∷ Post 1 (codes "b") ∷ store (codes "b") (pos 0) (pos 7) ∷ []) ∷ [] }

abbrev loads : AgentPlan
loads = record { name = codes "c"; callbacks = []; jobs = job_on 0 (codes "m") (load (codes "x") (codes "m") (pos 0) ∷ Say (codes "x") ∷ []) ∷ [] }

abbrev racing : Plan
racing = record { agents = stores ∷ loads ∷ [] }

-- Its two outcomes

abbrev stored : List Event
stored = JobBegun 1 ∷ Did (SharedArrayBuffer (codes "b") 1, [], Gives (Object 1)) ∷ Did (Post 1 (codes "b"), Object 1 ∷ [], Nothing)
    ∷ Did (store (codes "b") (pos 0) (pos 7), Object 1 ∷ [], Nothing) ∷ JobEnded ∷ Closed ∷ []

-- the word that was loaded is said
abbrev said : ℕ → List Event
said w = Received 0 (Object 1) ∷ JobBegun 1 ∷ Did (load (codes "x") (codes "m") (pos 0), Object 1 ∷ [], Gives (Number (pos w)))
    ∷ Did (Say (codes "x"), Number (pos w) ∷ [], Nothing) ∷ JobEnded ∷ Closed ∷ []

-- the store comes first
abbrev store_first : List LedgerEvent
store_first = Opened 1 1 1 0 ∷ Posted 0 1 (Block 1 2) ∷ Accessed 1 0 (Write 7) 0 ∷ Spent 1 ∷ Acted 0 Ended ∷ Taken 0 1 ∷ Accessed 2 0 Keep 7 ∷ Spent 2 ∷ Acted 1 Ended ∷ []

-- the load comes first
abbrev load_first : List LedgerEvent
load_first = Opened 1 1 1 0 ∷ Posted 0 1 (Block 1 2) ∷ Taken 0 1 ∷ Accessed 2 0 Keep 0 ∷ Accessed 1 0 (Write 7) 0 ∷ Spent 1 ∷ Acted 0 Ended ∷ Spent 2 ∷ Acted 1 Ended ∷ []

abbrev ends : ℕ → List LedgerEvent → Outcome
ends w es = record { names = codes "a" ∷ codes "c" ∷ []; histories = stored ∷ said w ∷ []; ledger = es }

-- what the agents say of it

abbrev storing : Account
storing = record { plan = stores; over = (1, row 1 1 1) ∷ []; history = reverse stored }

abbrev saying : ℕ → Account
saying w = record { plan = loads; over = (1, row 2 1 1) ∷ []; history = reverse (said w) }

-- what came to an agent that holds one ticket, and holds it no more
abbrev came : Buffers → Came
came over = record { tickets = []; ever = over; refused = [] }

-- They are outcomes

-- what is asked of each agent's part, in this order of the ledger
parts : (w : ℕ) (es : List LedgerEvent) → came_to storing.history (reverse es) 0 ≡ Some (came storing.over) → came_to (saying w).history (reverse es) 1 ≡ Some (came (saying w).over) → orderly 2 (reverse es) ≡ true
    → (a : ℕ) → (c : Came) × DeedsMeet (account_of (storing ∷ saying w ∷ []) a).history (part (reverse es) a) c × IsSaid (account_of (storing ∷ saying w ∷ []) a) c
parts w es first second order zero = (came storing.over, goes_means_ties storing.history (part (reverse es) 0) (came storing.over) first, record { buffers = refl; senders = refl })
parts w es first second order (suc zero) = (came (saying w).over, goes_means_ties (saying w).history (part (reverse es) 1) (came (saying w).over) second, record { buffers = refl; senders = refl })
parts w es first second order (suc (suc a)) = (nothing_came, (strangers 2 (reverse es) order (suc (suc a)) (omega arith), refl), record { buffers = refl; senders = refl })

-- the one message was taken
none_left : (b : Bool) (m : Body) → cond b (drop 1 (cond b (m ∷ []) [])) (cond b (m ∷ []) []) ≡ []
none_left true m = refl
none_left false m = refl

pub stored_first : IsClusterOutcome racing (ends 7 store_first)
stored_first = record {
  names = refl;
  agents = storing ∷ saying 7 ∷ [];
  runs = record { plans_are = refl; histories_are = refl; whole = ((search rules, search rules), ((search rules, search rules), tt)) };
  legal = search rules;
  cluster = record { parts = parts 7 store_first refl refl refl; waits = refl; drains = refl };
  tickets = λ b. refl;
  messages = λ s r. none_left (is_at s r 0 1) (Block 1 2);
}

pub loaded_first : IsClusterOutcome racing (ends 0 load_first)
loaded_first = record {
  names = refl;
  agents = storing ∷ saying 0 ∷ [];
  runs = record { plans_are = refl; histories_are = refl; whole = ((search rules, search rules), ((search rules, search rules), tt)) };
  legal = search rules;
  cluster = record { parts = parts 0 load_first refl refl refl; waits = refl; drains = refl };
  tickets = λ b. refl;
  messages = λ s r. none_left (is_at s r 0 1) (Block 1 2);
}

-- So each comes by a list of turns, and the lists end otherwise

pub by_turns : ComesByTurns racing (ends 7 store_first) × ComesByTurns racing (ends 0 load_first)
by_turns = (refines racing (ends 7 store_first) stored_first, refines racing (ends 0 load_first) loaded_first)

-- the word that is said
word_said : Event → ℕ
word_said (Did (c, vs, Gives (Number n))) = unsigned_abs n
word_said _ = 0

pub end_otherwise : TurnsEndAlike racing → ⊥
unfolding word_said
end_otherwise alike =
    let same = ends_alike racing (ends 7 store_first) (ends 0 load_first) alike stored_first loaded_first in
    let clash : ◌≡◌ {A = ℕ} 7 0 = ap (λ hs. word_said (slice_index_or (slice_index_or hs 1 []) 2 Closed)) same.histories in
    cc

-- and report otherwise: where the one says 7, the other says 0
seven : slice_index_or (report (ends 7 store_first)) 65 0 ≡ 55
unfolding digits
seven = refl

zero_there : slice_index_or (report (ends 0 load_first)) 65 0 ≡ 48
unfolding digits
zero_there = refl

pub report_otherwise : TurnsReportAlike racing → ⊥
report_otherwise alike =
    let same = reports_alike racing (ends 7 store_first) (ends 0 load_first) alike stored_first loaded_first in
    let clash : ◌≡◌ {A = ℕ} 55 48 = sym seven ∙ ap (λ t. slice_index_or t 65 0) same ∙ zero_there in
    cc
