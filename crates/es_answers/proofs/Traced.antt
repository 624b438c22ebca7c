-- A trace is of a legal run, whose end is the plan's outcome; and it tells each event of each agent.
use Rattle.std.proofs.Common.{◌≡◌, ℕ, zero, suc, ◌+◌, ◌<◌, ◌==◌, Bool, true, false, cond, sym, ◌∙◌, ap, refl, arith, List, [], ◌∷◌, ◌++◌, append-nil, append_assoc, map, reverse, length, take, Some}
use Rattle.std.specs.Prelude.{slice_get, slice_index_or}
use Rattle.std.specs.List.{AllByRecursion}
use Rattle.std.proofs.lemmas.Bool.{eqb-true, eqb-false}
use Rattle.std.proofs.lemmas.List.{reverse-append, reverse-reverse}
use Rattle.es_event.specs.declared.event.Event.{Event}
use Rattle.es_event.specs.declared.outcome.Outcome.{Outcome}
use Rattle.es_event.specs.declared.plan.AgentPlan.{AgentPlan}
use Rattle.es_event.specs.declared.plan.Plan.{Plan}
use Rattle.es_event.specs.LegalLedger.{LegalLedger}
use Rattle.es_event.specs.Others.{all_name_others}
use Rattle.es_event.proofs.Entries.{inner}
use Rattle.es_cluster.specs.declared.member.Progress.{Progress}
use Rattle.es_cluster.specs.declared.member.Progress.TheVariants.{Moved, Waiting, Ended}
use Rattle.es_record.specs.AgentView.{AgentView}
use Rattle.es_cluster.specs.Ends.{EndsIn}
use Rattle.es_cluster.specs.Moves.{RunsOut, all_over, moves, over, waits, with_drained}
use Rattle.es_cluster.specs.State.{ClusterView, first_state, first_views, plans}
use Rattle.es_cluster.specs.Turns.{Takes, Turned}
use Rattle.es_cluster.specs.Watched.{AreTurns, TakenTurn}
use Rattle.es_cluster.proofs.Beginning.{first_length, first_plans}
use Rattle.es_cluster.proofs.Ended.{there}
use Rattle.es_cluster.proofs.Standing.{set_here, set_there, within}
use Rattle.es_theorems.specs.Together.{Same}
use Rattle.es_theorems.specs.Moving.{moves_of}
use Rattle.es_theorems.proofs.OneRun.{one_run, runs_same}
use Rattle.es_theorems.proofs.Running.{stands_anyhow}
use Rattle.es_theorems.proofs.Telling.{same}
use Rattle.es_theorems.proofs.Cluster.{well_first}
use Rattle.es_theorems.proofs.Plans.{plans_length, plans_to_end, run_has_an_outcome}
use Rattle.es_outcome.specs.Outcomes.{IsClusterOutcome}
use Rattle.es_options.specs.declared.view.View.{View}
use Rattle.es_turns.specs.Answer.{IsByTurns}
use Rattle.es_turns.proofs.Whole.{outcome_of}
use Rattle.es_answers.specs.Traces.{events_by, newest_event}
use Rattle.es_turns.specs.Tracing.{IsTraceByTurns}

-- Legal runs

legal_turns : (ts : List TakenTurn) (old new : ClusterView) → AreTurns ts old new → AllByRecursion (λ (t : TakenTurn). LegalLedger t.after.ledger.agents t.after.ledger.history) ts
legal_turns [] old new are = tt
legal_turns (t ∷ ts) old new are = (are.1.legal, legal_turns ts t.after new are.2)

pub legal_trace : (v : View) (plan : Plan) (text : List ℕ) (trace : IsTraceByTurns v plan text) → AllByRecursion (λ (t : TakenTurn). LegalLedger t.after.ledger.agents t.after.ledger.history) trace.turns
legal_trace v plan text trace = legal_turns trace.turns (first_state plan) trace.end trace.taken

pub trace_outcome : (v : View) (plan : Plan) (text : List ℕ) → all_name_others plan ≡ true → (trace : IsTraceByTurns v plan text) → (o : Outcome) × EndsIn (with_drained trace.end) o × IsByTurns plan o
trace_outcome v plan text others trace =
    let out = run_has_an_outcome (first_state plan) trace.end (well_first plan others) trace.runs in
    (out.0, out.1, (with_drained trace.end, (trace.end, trace.runs, refl), out.1))

-- the plans and the number of agents stay
pub trace_in_threads : (v : View) (plan : Plan) (text : List ℕ) (trace : IsTraceByTurns v plan text) (o : Outcome) → EndsIn (with_drained trace.end) o → IsClusterOutcome plan o
trace_in_threads v plan text trace o ends =
    let end : ClusterView = with_drained trace.end in
    let same = plans_to_end (first_state plan) end (trace.end, trace.runs, refl) in
    let are : plans end.agents ≡ plan.agents = same.plans_are ∙ first_plans (length plan.agents) 0 plan.agents in
    outcome_of plan end o are (sym (plans_length end.agents) ∙ ap length are ∙ sym same.number) ends

-- Events, one turn after the other

added : (p : Progress) (b new : AgentView) → Takes p b new → reverse new.history ≡ reverse b.history ++ newest_event p (Some new)
added Moved b new t =
    let grown : new.history ≡ t.0 ∷ b.history = ap (λ b. b.history) t.3 in
    ap reverse grown ∙ reverse-append (t.0 ∷ []) b.history ∙ ap (λ es. reverse b.history ++ es) (sym (ap (take 1) grown))
added Waiting b new t = ap (λ b. reverse b.history) t.1 ∙ sym (append-nil (reverse b.history))
added Ended b new t = ap (λ b. reverse b.history) t.1 ∙ sym (append-nil (reverse b.history))

-- agent n is there after a turn, with the events that it got
record After (n : ℕ) (t : TakenTurn) (b : AgentView) : Type 0 where
  after : AgentView
  here : slice_get t.after.agents n ≡ Some after
  events : reverse after.history ≡ reverse b.history ++ cond (t.agent == n) (newest_event t.progress (slice_get t.after.agents n)) []

after_turn : (n : ℕ) (t : TakenTurn) (b : AgentView) → Turned t.progress t.agent t.before t.after → slice_get t.before.agents n ≡ Some b → After n t b
after_turn n t b turned is = by_agent (t.agent == n) refl
  where
    by_agent : (x : Bool) → (t.agent == n) ≡ x → After n t b
    by_agent true e =
        let at : t.agent ≡ n = eqb-true t.agent n e in
        let was : turned.before ≡ b = inner (sym turned.agent ∙ (ap (slice_get t.before.agents) at ∙ is)) in
        let now : slice_get t.after.agents n ≡ Some turned.after =
        ap (slice_get t.after.agents) (sym at) ∙ ap (λ bs. slice_get bs t.agent) turned.agents ∙ set_here t.before.agents t.agent turned.after (within t.before.agents t.agent turned.before turned.agent) in
        record {
          after = turned.after;
          here = now;
          events = added t.progress turned.before turned.after turned.turn ∙ ap (λ (b : AgentView). reverse b.history ++ newest_event t.progress (Some turned.after)) was
              ∙ ap (λ o. reverse b.history ++ newest_event t.progress o) (sym now)
              ∙ ap (λ x. reverse b.history ++ cond x (newest_event t.progress (slice_get t.after.agents n)) []) (sym e);
        }
    by_agent false e = record {
      after = b;
      here = ap (λ bs. slice_get bs n) turned.agents ∙ set_there t.before.agents t.agent n turned.after (λ same. eqb-false t.agent n e (sym same)) ∙ is;
      events = sym (append-nil (reverse b.history)) ∙ ap (λ x. reverse b.history ++ cond x (newest_event t.progress (slice_get t.after.agents n)) []) (sym e);
    }

all_events : (n : ℕ) (ts : List TakenTurn) (old new : ClusterView) (b : AgentView) → AreTurns ts old new → slice_get old.agents n ≡ Some b
    → (c : AgentView) × (slice_get new.agents n ≡ Some c) × (reverse c.history ≡ reverse b.history ++ events_by n ts)
all_events n [] old new b are is = (b, ap (λ c. slice_get c.agents n) are ∙ is, sym (append-nil (reverse b.history)))
all_events n (t ∷ ts) old new b are is =
    let one = after_turn n t b are.1 (ap (λ c. slice_get c.agents n) are.0 ∙ is) in
    let rest = all_events n ts t.after new one.after are.2 one.here in (
      rest.0,
      rest.1,
      rest.2 ∙ ap (λ es. es ++ events_by n ts) one.events ∙ append_assoc (reverse b.history) (cond (t.agent == n) (newest_event t.progress (slice_get t.after.agents n)) []) (events_by n ts),
    )

-- Histories

first_new : (agents n : ℕ) (ps : List AgentPlan) (i : ℕ) (b : AgentView) → slice_get (first_views agents n ps) i ≡ Some b → b.history ≡ []
first_new agents n [] i b is = cc
first_new agents n (p ∷ ps) zero b is = ap (λ b. b.history) (sym (inner is))
first_new agents n (p ∷ ps) (suc i) b is = first_new agents (n + 1) ps i b is

history_at : (hs : List (List Event)) (bs : List AgentView) (n : ℕ) (b : AgentView) → map (λ h. reverse h) hs ≡ map (λ b. b.history) bs → slice_get bs n ≡ Some b → slice_index_or hs n [] ≡ reverse b.history
history_at hs [] n b same is = cc
history_at [] (x ∷ bs) n b same is = cc
history_at (h ∷ hs) (x ∷ bs) zero b same is =
    let first : reverse h ≡ x.history = cc in
    sym (reverse-reverse h) ∙ ap reverse first ∙ ap (λ b. reverse b.history) (inner is)
history_at (h ∷ hs) (x ∷ bs) (suc n) b same is = history_at hs bs n b (cc) is

pub tells_outcome : (v : View) (plan : Plan) (text : List ℕ) (trace : IsTraceByTurns v plan text) (o : Outcome) (n : ℕ) → IsByTurns plan o → n < length plan.agents
    → events_by n trace.turns ≡ slice_index_or o.histories n []
tells_outcome v plan text trace o n ends known =
    let first = first_state plan in
    let begun = there first.agents n (let size = first_length (length plan.agents) 0 plan.agents in omega (arith, size, known)) in
    let all = all_events n trace.turns first trace.end begun.0 trace.taken begun.1 in
    let last = ends.1 in
    let both : Same trace.end last.0 = runs_same first trace.end last.0 (stands_anyhow plan) trace.runs last.1 in
    let agents : ends.0.agents ≡ trace.end.agents = ap (λ c. c.agents) last.2 ∙ sym both.agents in
    sym (all.2 ∙ ap (λ h. reverse h ++ events_by n trace.turns) (first_new (length plan.agents) 0 plan.agents n begun.0 begun.1))
    ∙ sym (history_at o.histories ends.0.agents n all.0 ends.2.agents.are (ap (λ bs. slice_get bs n) agents ∙ all.1))

-- One run

ends_over : (c d : ClusterView) → RunsOut c d → all_over d ≡ true
ends_over c d (over is) = is
ends_over c d (waits n {mid = mid} t same more) = ends_over mid d more
ends_over c d (moves n {mid = mid} is move more) = ends_over mid d more

pub traces_one_run : (v w : View) (plan : Plan) (s t : List ℕ) (one : IsTraceByTurns v plan s) (other : IsTraceByTurns w plan t) → moves_of one.turns ≡ moves_of other.turns
traces_one_run v w plan s t one other =
    let first = first_state plan in
    one_run plan one.turns other.turns one.end other.end one.taken one.moves (ends_over first one.end one.runs) other.taken other.moves (ends_over first other.end other.runs)
