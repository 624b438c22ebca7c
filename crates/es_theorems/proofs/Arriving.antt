-- A cluster whose agents go on runs by turns to its end, and no cluster is stuck.
use Rattle.std.proofs.Common.{◌≡◌, ◌⊎◌, inl, inr, ℕ, zero, suc, ◌+◌, ◌<◌, ◌≤◌, ◌&&◌, Bool, true, false, sym, ◌∙◌, ap, refl, subst, arith, List, [], ◌∷◌, ◌++◌, length, map, reverse, Some, None}
use Rattle.std.specs.Prelude.{slice_get}
use Rattle.std.specs.List.{AllByRecursion, list_all}
use Rattle.std.proofs.lemmas.List.{reverse-reverse}
use Rattle.es_event.specs.declared.event.Event.{Event}
use Rattle.es_event.specs.declared.ledger_event.LedgerEvent.TheVariants.{Drained, Spent}
use Rattle.es_event.specs.declared.outcome.Outcome.{Outcome}
use Rattle.es_event.specs.declared.plan.Plan.{Plan}
use Rattle.es_event.specs.Jobs.{callbacks_collect_nothing}
use Rattle.es_event.specs.Ledger.{ended as has_ended}
use Rattle.es_event.specs.LegalLedger.{all_ended}
use Rattle.es_event.specs.Order.{Phase, between, handed, inside, stopped, ended, phase}
use Rattle.es_event.specs.Others.{all_name_others}
use Rattle.es_event.specs.Runs.{IsRunOver}
use Rattle.es_event.specs.Waiters.{asleep}
use Rattle.es_ledger.specs.Draining.{after_drain}
use Rattle.es_ledger.specs.LedgerView.{LedgerView}
use Rattle.es_ledger.proofs.Emptying.{all_drained}
use Rattle.es_record.specs.AgentView.{AgentView}
use Rattle.es_agent.specs.Tickets.{is_ended, tickets}
use Rattle.es_cluster.specs.declared.member.Progress.{Progress}
use Rattle.es_cluster.specs.declared.member.Progress.TheVariants.{Moved, Waiting, Ended}
use Rattle.es_cluster.specs.Asked.{AskedEach, AskedUpTo, BeginsMove, CleansUp, FirstTurn, Hears, Works, cleanup_left, cleans_at, plan_left, plans_left, queues_left}
use Rattle.es_cluster.specs.Ends.{AreHistories, EndsIn, HaveNoTicket, IsWhole}
use Rattle.es_cluster.specs.Moves.{Rest, RunsOut, RunsToEnd, all_over, cleans_quietly, is_over, rested, rests_at, slept, turned as rests_later, with_drained, over as runs_over}
use Rattle.es_cluster.specs.State.{ArePlaced, AreTied, ClusterView, accounts, first_state, names_of}
use Rattle.es_cluster.specs.Turns.{AllTurned, Turned}
use Rattle.es_cluster.proofs.Beginning.{starts_quiet}
use Rattle.es_cluster.proofs.Draining.{Outlasts, Over, drained_over, drained_stands}
use Rattle.es_cluster.proofs.Ended.{ends_in, there}
use Rattle.es_cluster.proofs.Finishing.{asked_all, asked_mover, asked_next, asleep_same, begins_again, cleaned_less, cleaned_rest, cleaning_unrested, falls_asleep, move_on, moved_less, runs_out, sweeps_on, swept, works_moved}
use Rattle.es_cluster.proofs.Histories.{are_ended}
use Rattle.es_cluster.proofs.Rounds.{hears}
use Rattle.es_theorems.proofs.Cluster.{Well, ask, inside_turned, quiet_all, quiet_turned, well_all, well_first, works_of}
use Rattle.es_theorems.specs.TurnsLaws.{SomeAgentMoves}
use Rattle.es_theorems.specs.Going.{Only}
use Rattle.es_theorems.proofs.Only.{none_held, only_after}
use Rattle.es_theorems.proofs.Stepping.{turns_append}

-- The cleanup queue of an agent is worked off, unless it begins to sleep before

record Cleaned (n : ℕ) (c : ClusterView) : Type 0 where
  lies : Bool
  end : ClusterView
  well : Well end
  quiet : cleans_quietly end ≡ true
  known : n < length end.agents
  goes : CleansUp lies n c end
  plan : plan_left n end ≡ plan_left n c
  queue : cleanup_left n end ≤ cleanup_left n c

clean_more : (lies : Bool) (n : ℕ) (c d end : ClusterView) → cleans_at n c ≡ true → Turned Moved n c d → Works Moved n c d → CleansUp lies n d end → CleansUp lies n c end
clean_more true n c d end up t works rest = rests_later (cleaning_unrested n c up) t rest
clean_more false n c d end up t works rest = ((λ last more. rests_later (cleaning_unrested n c up) t (rest.0 last more)), rest.1, rest.2, (λ s. rest.3 (sweeps_on Moved n c d up refl works)))

clean : (k n : ℕ) (c : ClusterView) → Well c → cleans_quietly c ≡ true → n < length c.agents → asleep c.ledger.history n ≡ false → cleanup_left n c < k → Cleaned n c
clean zero n c w quiet known awake less = absurd (omega (arith, less))
clean (suc k) n c w quiet known awake less = by_queue (cleans_at n c) refl (λ d v q i a l. clean k n d v q i a l)
  where
    Onward : Type 0
    Onward = (d : ClusterView) → Well d → cleans_quietly d ≡ true → n < length d.agents → asleep d.ledger.history n ≡ false → cleanup_left n d < k → Cleaned n d

    lain : (p : Progress) (d : ClusterView) → Well d → cleans_at n c ≡ true → (p ≡ Waiting) ⊎ (p ≡ Ended) → Turned p n c d → Works p n c d → Cleaned n c
    lain p d v up still t works =
        let busy = cleaning_unrested n c up in
        let begins = falls_asleep p n c d still busy awake t works in
        let same = asleep_same n c d begins in
        let queue = same.1 in
        record { lies = true; end = d; well = v; quiet = quiet_turned p n c d t quiet; known = inside_turned p n n c d t known; goes = slept busy begins; plan = same.0; queue = omega (arith, queue) }

    by_progress : (p : Progress) (d : ClusterView) → Well d → cleans_at n c ≡ true → Onward → Turned p n c d → Works p n c d → Hears p n c d → Cleaned n c
    by_progress Waiting d v up again t works heard = lain Waiting d v up (inl refl) t works
    by_progress Ended d v up again t works heard = lain Ended d v up (inr refl) t works
    by_progress Moved d v up again t works heard =
        let left = works_moved Moved n c d true up refl works in
        let fewer = left.1 in
        let rest = again d v (quiet_turned Moved n c d t quiet) (inside_turned Moved n n c d t known) heard.1 (omega (arith, less, fewer)) in
        let kept = rest.queue in
        record { lies = rest.lies; end = rest.end; well = rest.well; quiet = rest.quiet; known = rest.known; goes = clean_more rest.lies n c d rest.end up t works rest.goes; plan = rest.plan ∙ left.0; queue = omega (arith, kept, fewer) }

    by_queue : (b : Bool) → cleans_at n c ≡ b → Onward → Cleaned n c
    by_queue false up again = record { lies = false; end = c; well = w; quiet = quiet; known = known; goes = ((λ end rest. rest), up, awake, swept n c up); plan = refl; queue = omega arith }
    by_queue true up again =
        let s = ask n c w known in
        let did = works_of s.progress n c s.after w quiet s.turned in
        by_progress s.progress s.after s.well up again s.turned did.0 did.1

cleaned : (n : ℕ) (c : ClusterView) → Well c → cleans_quietly c ≡ true → n < length c.agents → asleep c.ledger.history n ≡ false → Cleaned n c
cleaned n c w quiet known awake = clean (suc (cleanup_left n c)) n c w quiet known awake (omega arith)

-- A move goes on until its agent rests or sleeps

record Finished (n : ℕ) (c : ClusterView) : Type 0 where
  end : ClusterView
  well : Well end
  quiet : cleans_quietly end ≡ true
  rest : Rest n c end
  less : plan_left n end ≤ plan_left n c

-- once its cleanup queue is worked off
finish_from : (n : ℕ) (c : ClusterView) → (q : Cleaned n c) → (cleans_at n q.end ≡ false → asleep q.end.ledger.history n ≡ false → Finished n q.end) → Finished n c
finish_from n c q onward = by q.lies q.goes
  where
    same : plan_left n q.end ≡ plan_left n c
    same = q.plan

    by : (lies : Bool) → CleansUp lies n c q.end → Finished n c
    by true rest = record { end = q.end; well = q.well; quiet = q.quiet; rest = rest; less = (let plan = same in omega (arith, plan)) }
    by false goes =
        let f = onward goes.1 goes.2 in
        let last = f.less in
        let plan = same in
        record { end = f.end; well = f.well; quiet = f.quiet; rest = goes.0 f.end f.rest; less = omega (arith, last, plan) }

finish_clean : (k n : ℕ) (c : ClusterView) → Well c → cleans_quietly c ≡ true → n < length c.agents → cleans_at n c ≡ false → asleep c.ledger.history n ≡ false → plan_left n c < k → Finished n c
finish_clean zero n c w quiet known still awake less = absurd (omega (arith, less))
finish_clean (suc k) n c w quiet known still awake less = by_rest (rests_at n c) refl (λ d v q i s a l. finish_clean k n d v q i s a l)
  where
    Onward : Type 0
    Onward = (d : ClusterView) → Well d → cleans_quietly d ≡ true → n < length d.agents → cleans_at n d ≡ false → asleep d.ledger.history n ≡ false → plan_left n d < k → Finished n d

    lain : (p : Progress) (d : ClusterView) → Well d → rests_at n c ≡ false → (p ≡ Waiting) ⊎ (p ≡ Ended) → Turned p n c d → Works p n c d → Finished n c
    lain p d v busy stays t works =
        let begins = falls_asleep p n c d stays busy awake t works in
        let same = (asleep_same n c d begins).0 in
        record { end = d; well = v; quiet = quiet_turned p n c d t quiet; rest = slept busy begins; less = omega (arith, same) }

    by_progress : (p : Progress) (d : ClusterView) → Well d → rests_at n c ≡ false → Onward → Turned p n c d → Works p n c d → Hears p n c d → Finished n c
    by_progress Waiting d v busy again t works heard = lain Waiting d v busy (inl refl) t works
    by_progress Ended d v busy again t works heard = lain Ended d v busy (inr refl) t works
    by_progress Moved d v busy again t works heard =
        let fewer = works_moved Moved n c d false still refl works in
        let q = cleaned n d v (quiet_turned Moved n c d t quiet) (inside_turned Moved n n c d t known) heard.1 in
        let same = q.plan in
        let f = finish_from n d q (λ still awake. again q.end q.well q.quiet q.known still awake (omega (arith, less, fewer, same))) in
        let last = f.less in
        record { end = f.end; well = f.well; quiet = f.quiet; rest = rests_later busy t f.rest; less = omega (arith, last, fewer) }

    by_rest : (b : Bool) → rests_at n c ≡ b → Onward → Finished n c
    by_rest true at again = record { end = c; well = w; quiet = quiet; rest = rested at; less = omega arith }
    by_rest false busy again =
        let s = ask n c w known in
        let did = works_of s.progress n c s.after w quiet s.turned in
        by_progress s.progress s.after s.well busy again s.turned did.0 did.1

finished : (n : ℕ) (c : ClusterView) → Well c → cleans_quietly c ≡ true → n < length c.agents → asleep c.ledger.history n ≡ false → Finished n c
finished n c w quiet known awake =
    let q = cleaned n c w quiet known awake in
    finish_from n c q (λ still awake. finish_clean (suc (plan_left n q.end)) n q.end q.well q.quiet q.known still awake (omega arith))

-- Agents are asked by rising number

asked_nobody : (c : ClusterView) → c.failed ≡ false → AskedUpTo 0 c c
asked_nobody c whole = record { asked = record { agents = refl; whole = whole; waits = λ end runs. runs }; number = refl; settled = refl; again = λ all. (refl, refl) }

-- one moves, after turns of others that don't; or none does
data Round (old : ClusterView) : Type 0 where
  one_moves : (ns : List ℕ) (n : ℕ) (mid new : ClusterView) → AllTurned ns old mid → mid.agents ≡ old.agents → n < length mid.agents → Turned Moved n mid new → Hears Moved n mid new → AskedUpTo n old mid → Well mid → Well new → Round old
  none_moves : (ns : List ℕ) (new : ClusterView) → AllTurned ns old new → new.agents ≡ old.agents → AskedUpTo old.ledger.agents old new → Well new → Round old

step_round : (p : Progress) (i : ℕ) (old mid new : ClusterView) (ns : List ℕ) → AllTurned ns old mid → AskedUpTo i old mid → Well mid → i < length mid.agents → Turned p i mid new → Hears p i mid new → Well new
    → (AllTurned (ns ++ i ∷ []) old new → AskedUpTo (i + 1) old new → Well new → Round old) → Round old
step_round Moved i old mid new ns taken before w known t heard v again = one_moves ns i mid new taken before.asked.agents known t heard before w v
step_round Waiting i old mid new ns taken before w known t heard v again = again (turns_append ns (i ∷ []) old mid new taken (Waiting, new, t, refl)) (asked_next Waiting i old mid new before (inl refl) t heard) v
step_round Ended i old mid new ns taken before w known t heard v again = again (turns_append ns (i ∷ []) old mid new taken (Ended, new, t, refl)) (asked_next Ended i old mid new before (inr refl) t heard) v

round_from : (k i : ℕ) (old mid : ClusterView) (ns : List ℕ) → i + k ≡ old.ledger.agents → AllTurned ns old mid → AskedUpTo i old mid → Well mid → Round old
round_from zero i old mid ns size taken before w =
    let all : i ≡ old.ledger.agents = omega (arith, size) in
    none_moves ns mid taken before.asked.agents (subst (λ i. AskedUpTo i old mid) all before) w
round_from (suc k) i old mid ns size taken before w =
    let places = w.placed.size in
    let number = before.number in
    let known : i < length mid.agents = omega (arith, places, number, size) in
    let s = ask i mid w known in
    step_round s.progress i old mid s.after ns taken before w known s.turned (hears s.progress i mid s.after w.placed w.tied s.turned) s.well
    (λ turns upto v. round_from k (i + 1) old s.after (ns ++ i ∷ []) (omega (arith, size)) turns upto v)

round : (c : ClusterView) → Well c → Round c
round c w = round_from c.ledger.agents 0 c c [] (omega arith) refl (asked_nobody c w.whole) w

-- The first turn of the next move

abbrev ArgumentOf : {A : Type 0} → (A → ClusterView → ClusterView → Type 0) → Type 0
ArgumentOf {A} f = A

-- a move that has begun, whose type es_cluster keeps to itself
abbrev BegunMove : Type 0
BegunMove = ArgumentOf FirstTurn

data Begun (c : ClusterView) : Type 0 where
  begun_one : (b : BegunMove) (d : ClusterView) → FirstTurn b c d → b.agent < length d.agents → Well d → cleans_quietly d ≡ true → Begun c
  begun_none : (d : ClusterView) → BeginsMove None c d → Well d → Begun c

begin_second : (c mid : ClusterView) → AskedEach None c mid → cleans_quietly mid ≡ true → Round mid → Begun c
begin_second c mid first quiet (one_moves ns n last new taken same known t heard before w v) =
    let calm = quiet_all ns mid last taken quiet in
    let b : BegunMove = record { agent = n; cleans = cleans_at n last } in
    begun_one b new (begins_again (Some b) c mid new first (asked_mover Moved n b mid last new before refl refl refl t heard (works_of Moved n last new w calm t).0)) (inside_turned Moved n n last new t known) v (quiet_turned Moved n last new t calm)
begin_second c mid first quiet (none_moves ns new taken same upto w) = begun_none new (begins_again None c mid new first (asked_all mid.ledger.agents mid new refl upto)) w

begin_first : (c : ClusterView) → cleans_quietly c ≡ true → Round c → Begun c
begin_first c quiet (one_moves ns n mid new taken same known t heard before w v) =
    let calm = quiet_all ns c mid taken quiet in
    let b : BegunMove = record { agent = n; cleans = cleans_at n mid } in
    begun_one b new (asked_mover Moved n b c mid new before refl refl refl t heard (works_of Moved n mid new w calm t).0) (inside_turned Moved n n mid new t known) v (quiet_turned Moved n mid new t calm)
begin_first c quiet (none_moves ns new taken same upto w) = begin_second c new (asked_all c.ledger.agents c new refl upto) (quiet_all ns c new taken quiet) (round new w)

-- To the end of all agents

record Ran (c : ClusterView) : Type 0 where
  end : ClusterView
  runs : RunsOut c end
  over : all_over end ≡ true
  well : Well end

-- one move, which leaves less of a plan, or of a cleanup queue
run_begun : (k j : ℕ) (c : ClusterView) → plans_left c < suc k → queues_left c < suc j → ((d : ClusterView) → Well d → cleans_quietly d ≡ true → plans_left d < k → Ran d)
    → ((d : ClusterView) → Well d → cleans_quietly d ≡ true → plans_left d < suc k → queues_left d < j → Ran d) → Begun c → Ran c
run_begun k j c less few again_plan again_queue (begun_none d begins w) = record { end = d; runs = runs_out c c d (λ last runs. runs) begins d (runs_over begins.1); over = begins.1; well = w }
run_begun k j c less few again_plan again_queue (begun_one b d first known w quiet) = by_queue b.cleans refl
  where
    onward : (end : ClusterView) → Rest b.agent d end → Ran end → Ran c
    onward end rest more = record { end = more.end; runs = move_on b c c d end (λ last runs. runs) first rest more.end more.runs; over = more.over; well = more.well }

    by_queue : (t : Bool) → b.cleans ≡ t → Ran c
    by_queue false clean =
        let f = finished b.agent d w quiet known first.awake in
        let fewer = moved_less b c d f.end first clean f.rest f.less in
        onward f.end f.rest (again_plan f.end f.well f.quiet (omega (arith, less, fewer)))
    by_queue true up =
        let q = cleaned b.agent d w quiet known first.awake in
        let rest = cleaned_rest q.lies b.agent d q.end (first.swept up) q.goes in
        let fewer = cleaned_less b c d q.end first up rest q.plan q.queue in
        let same = fewer.0 in
        let shorter = fewer.1 in
        onward q.end rest (again_queue q.end q.well q.quiet (omega (arith, less, same)) (omega (arith, few, shorter)))

run_queue : (k j : ℕ) (c : ClusterView) → Well c → cleans_quietly c ≡ true → plans_left c < suc k → queues_left c < j → ((d : ClusterView) → Well d → cleans_quietly d ≡ true → plans_left d < k → Ran d) → Ran c
run_queue k zero c w quiet less few again = absurd (omega (arith, few))
run_queue k (suc j) c w quiet less few again = run_begun k j c less few again (λ d v q l f. run_queue k j d v q l f again) (begin_first c quiet (round c w))

run_below : (k : ℕ) (c : ClusterView) → Well c → cleans_quietly c ≡ true → plans_left c < k → Ran c
run_below zero c w quiet less = absurd (omega (arith, less))
run_below (suc k) c w quiet less = run_queue k (suc (queues_left c)) c w quiet less (omega arith) (λ d v q l. run_below k d v q l)

ran : (c : ClusterView) → Well c → cleans_quietly c ≡ true → Ran c
ran c w quiet = run_below (suc (plans_left c)) c w quiet (omega arith)

-- What a cluster ends in

none_outlasts : (n : ℕ) → Outlasts (λ l. (a : ℕ) → a < n → Only a l [])
none_outlasts n = record {
  drains = λ l r s none a less. only_after a l (Drained s r) [] (λ k gives. gives) (none a less);
  spends = λ l k nobody none a less. only_after a l (Spent k) [] (λ j gives. gives) (none a less);
}

closed_phase : (p : Phase) → is_ended p ≡ true → p ≡ ended
closed_phase between is = cc
closed_phase handed is = cc
closed_phase inside is = cc
closed_phase stopped is = cc
closed_phase ended is = refl

all_whole : (bs : List AgentView) → ((n : ℕ) (b : AgentView) → slice_get bs n ≡ Some b → IsRunOver b.over b.plan b.history × (is_over b ≡ true)) → AllByRecursion IsWhole (accounts bs)
all_whole [] each = tt
all_whole (b ∷ bs) each =
    let first = each 0 b refl in
    ((first.0.0, (first.0.1, closed_phase (phase b.history) first.1)), all_whole bs (λ n c is. each (suc n) c is))

turned_twice : (bs : List AgentView) → map (λ (h : List Event). reverse h) (map (λ (b : AgentView). reverse b.history) bs) ≡ map (λ b. b.history) bs
turned_twice [] = refl
turned_twice (b ∷ bs) = ap (λ h. h ∷ map (λ (h : List Event). reverse h) (map (λ (b : AgentView). reverse b.history) bs)) (reverse-reverse b.history) ∙ ap (λ hs. b.history ∷ hs) (turned_twice bs)

without_tickets : (b : AgentView) → is_over b ≡ true → tickets b ≡ []
without_tickets b over = rw over refl

-- what a cluster whose agents have all ended comes to
pub ends : (c : ClusterView) → Well c → all_over c ≡ true → (o : Outcome) × EndsIn (with_drained c) o
ends c w over = (o, ends_in d later o stands.0 stands.1 (once.legal, once.paid) stands.2 refl refl refl histories (reverse-reverse later.history) (twice.legal, twice.paid) none (all_drained n d.ledger.history later.history once.legal refl))
  where
    n : ℕ
    n = c.ledger.agents

    d : ClusterView
    d = with_drained c

    later : LedgerView
    later = record { agents = n; history = after_drain d.ledger.history n }

    closed : (i : ℕ) (b : AgentView) → slice_get c.agents i ≡ Some b → is_over b ≡ true
    closed = are_ended c.agents c.ledger w.placed over

    nothing : (a : ℕ) → a < n → Only a c.ledger.history []
    nothing a less =
        let found = there c.agents a (let size = w.placed.size in omega (arith, size, less)) in
        let b = found.0 in
        subst (λ a. Only a c.ledger.history []) (w.placed.each a b found.1).number (subst (Only b.number c.ledger.history) (without_tickets b (closed a b found.1)) (w.going a b found.1).rack.only)

    once : Over (λ l. (a : ℕ) → a < n → Only a l []) n (after_drain c.ledger.history n)
    once = drained_over (λ l. (a : ℕ) → a < n → Only a l []) n c.ledger.history (none_outlasts n) (record { legal = w.legal.0; paid = w.legal.1; over = over; kept = nothing })

    twice : Over (λ l. (a : ℕ) → a < n → Only a l []) n (after_drain (after_drain c.ledger.history n) n)
    twice = drained_over (λ l. (a : ℕ) → a < n → Only a l []) n (after_drain c.ledger.history n) (none_outlasts n) once

    stands : ArePlaced c.agents d.ledger × AreTied c.agents d.ledger × (all_ended d.ledger.history d.ledger.agents ≡ true)
    stands = drained_stands c.agents c.ledger d.ledger w.placed w.tied w.legal over refl refl

    o : Outcome
    o = record { names = names_of c.agents; histories = map (λ (b : AgentView). reverse b.history) c.agents; ledger = reverse later.history }

    histories : AreHistories d.agents o.histories
    histories = record { are = turned_twice c.agents; runs = all_whole c.agents (λ i b is. ((w.going i b is).run, closed i b is)) }

    none : HaveNoTicket d.agents later.history
    none i b is = none_held n b.number later.history twice.legal (twice.kept b.number (w.placed.each i b is).seated.known)

-- from a cluster whose agents go on, a run by turns comes to its end, and that to an outcome
pub comes_to_an_end : (c : ClusterView) → Well c → cleans_quietly c ≡ true → (e : ClusterView) × (o : Outcome) × RunsToEnd c e × EndsIn e o
comes_to_an_end c w quiet =
    let r = ran c w quiet in
    let out = ends r.end r.well r.over in
    (with_drained r.end, out.0, (r.end, r.runs, refl), out.1)

pub plan_comes_to_an_end : (p : Plan) → all_name_others p ≡ true → list_all callbacks_collect_nothing p.agents ≡ true → (e : ClusterView) × (o : Outcome) × RunsToEnd (first_state p) e × EndsIn e o
plan_comes_to_an_end p others quiet = comes_to_an_end (first_state p) (well_first p others) (starts_quiet p (first_state p) refl quiet)

pub rest_comes_to_an_end : (p : Plan) (ns : List ℕ) (c : ClusterView) → all_name_others p ≡ true → list_all callbacks_collect_nothing p.agents ≡ true → AllTurned ns (first_state p) c → (e : ClusterView) × (o : Outcome) × RunsToEnd c e × EndsIn e o
rest_comes_to_an_end p ns c others quiet turned =
    comes_to_an_end c (well_all ns (first_state p) c (well_first p others) turned) (quiet_all ns (first_state p) c turned (starts_quiet p (first_state p) refl quiet))

-- Each agent takes a turn, and none of them all are stuck

pub each_takes_a_turn : (p : Plan) (ns : List ℕ) (c : ClusterView) (n : ℕ) → all_name_others p ≡ true → AllTurned ns (first_state p) c → n < length c.agents → (q : Progress) × (d : ClusterView) × Turned q n c d
each_takes_a_turn p ns c n others turned known =
    let s = ask n c (well_all ns (first_state p) c (well_first p others) turned) known in
    (s.progress, s.after, s.turned)

same_end : (c d : ClusterView) → Well c → Well d → d.agents ≡ c.agents → (m : ℕ) → m ≤ c.ledger.agents → all_ended d.ledger.history m ≡ all_ended c.ledger.history m
same_end c d w v same zero less = refl
same_end c d w v same (suc m) less =
    let found = there c.agents m (let size = w.placed.size in omega (arith, size, less)) in
    let b = found.0 in
    let at : slice_get d.agents m ≡ Some b = ap (λ bs. slice_get bs m) same ∙ found.1 in
    let one : has_ended d.ledger.history m ≡ has_ended c.ledger.history m =
    ap (has_ended d.ledger.history) (sym (v.placed.each m b at).number) ∙ (v.placed.each m b at).seated.over ∙ sym (w.placed.each m b found.1).seated.over ∙ ap (has_ended c.ledger.history) (w.placed.each m b found.1).number in
    ap (λ x. x && all_ended d.ledger.history m) one ∙ ap (λ x. has_ended c.ledger.history m && x) (same_end c d w v same m (omega (arith, less)))

second_goes : (c mid : ClusterView) (ns : List ℕ) → Well c → Well mid → all_over c ≡ false → AllTurned ns c mid → mid.agents ≡ c.agents → mid.ledger.agents ≡ c.ledger.agents → AskedEach None c mid → Round mid → SomeAgentMoves c
second_goes c mid ns w v going taken same number first (one_moves ms n last new more again known t heard before x y) =
    record { waits = ns ++ ms; mid = last; waited = turns_append ns ms c mid last taken more; agents = again ∙ same; mover = n; after = new; moves = t }
second_goes c mid ns w v going taken same number first (none_moves ms last more again upto x) =
    let all : all_over last ≡ true = (asked_all mid.ledger.agents mid last refl upto).2 first.1 in
    let size : last.ledger.agents ≡ c.ledger.agents = upto.number ∙ number in
    let one : all_over last ≡ all_over c = ap (all_ended last.ledger.history) size ∙ same_end c last w x (again ∙ same) c.ledger.agents (omega arith) in
    let clash : true ≡ false = sym all ∙ one ∙ going in
    cc

first_goes : (c : ClusterView) → Well c → all_over c ≡ false → Round c → SomeAgentMoves c
first_goes c w going (one_moves ns n mid new taken same known t heard before x y) = record { waits = ns; mid = mid; waited = taken; agents = same; mover = n; after = new; moves = t }
first_goes c w going (none_moves ns mid taken same upto x) = second_goes c mid ns w x going taken same upto.number (asked_all c.ledger.agents c mid refl upto) (round mid x)

pub not_stuck : (p : Plan) (ns : List ℕ) (c : ClusterView) → all_name_others p ≡ true → AllTurned ns (first_state p) c → all_over c ≡ false → SomeAgentMoves c
not_stuck p ns c others turned going =
    let w = well_all ns (first_state p) c (well_first p others) turned in
    first_goes c w going (round c w)
