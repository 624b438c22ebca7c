-- A plan whose agents share a word that a message orders: one list of its steps has no race, so it has one report, whichever way it runs.
use Rattle.std.proofs.Common.{◌≡◌, ℕ, zero, suc, ◌||◌, Bool, true, false, refl, sym, ◌∙◌, ap, List, [], ◌∷◌, Option, Some, None, codes, rules, inl}
use Rattle.std.specs.Prelude.{pos, slice_get}
use Rattle.std.proofs.Math.Bool.{or_comm}
use Rattle.es_value.specs.declared.value.Value.TheVariants.{Number, Object}
use Rattle.es_event.specs.declared.command.Command.TheVariants.{Post, Say, SharedArrayBuffer}
use Rattle.es_event.specs.declared.event.Answer.TheVariants.{Gives, Nothing}
use Rattle.es_event.specs.declared.event.Event.{Event}
use Rattle.es_event.specs.declared.event.Event.TheVariants.{JobBegun, Received, Did, JobEnded, Closed}
use Rattle.es_event.specs.declared.outcome.Outcome.{Outcome}
use Rattle.es_event.specs.declared.plan.AgentPlan.{AgentPlan}
use Rattle.es_event.specs.declared.plan.Plan.{Plan}
use Rattle.es_event.specs.declared.row.Row.{Row}
use Rattle.es_event.specs.Order.{due}
use Rattle.es_event.specs.Report.{report}
use Rattle.es_event.specs.Rows.{row}
use Rattle.es_event.specs.Runs.{ComesNext, IsRunOver}
use Rattle.es_event.proofs.Entries.{inner}
use Rattle.es_event.proofs.Examples.{job_of, job_on, load, store}
use Rattle.es_laws.specs.Races.{has_no_race}
use Rattle.es_cluster.specs.Ends.{EndsIn}
use Rattle.es_cluster.specs.Moves.{RunsToEnd, with_drained}
use Rattle.es_cluster.specs.State.{ClusterView, first_state}
use Rattle.es_cluster.specs.Turns.{AllTurned}
use Rattle.es_outcome.specs.Outcomes.{IsClusterOutcome}
use Rattle.es_theorems.proofs.Converse.{some_outcome}
use Rattle.es_theorems.proofs.Ending.{refines}
use Rattle.es_theorems.specs.Alone.{AreDone, Finds, GoFar, Goes, IsFree, Local, Lore, Touched, World, after_event, is_done, is_known, with_new, world_after}
use Rattle.es_theorems.specs.Messages.{SayAlike, share_no_word}
use Rattle.es_theorems.specs.Renamed.{world_of}
use Rattle.es_theorems.specs.Sleepless.{never_sleeps}
use Rattle.es_theorems.proofs.Beyond.{others}
use Rattle.es_theorems.proofs.Composing.{free_by_steps}
use Rattle.es_theorems.proofs.Reports.{says_as_by_turns, turned_reports}
use Rattle.es_theorems.proofs.Touching.{lore_other}
use Rattle.es_theorems.proofs.Wordless.{messages_alone}

-- it stores a word, and posts its block
abbrev storing : AgentPlan
storing = record { name = codes "a"; callbacks = []; jobs = job_of (SharedArrayBuffer (codes "b") 1 ∷ store (codes "b") (pos 0) (pos 7) ∷ Post 1 (codes "b") ∷ []) ∷ [] }

-- it loads the word when it has the block
abbrev loading : AgentPlan
loading = record { name = codes "c"; callbacks = []; jobs = job_on 0 (codes "m") (load (codes "x") (codes "m") (pos 0) ∷ Say (codes "x") ∷ []) ∷ [] }

abbrev ordered : Plan
ordered = record { agents = storing ∷ loading ∷ [] }

-- they share a word
it_shares : share_no_word ordered ≡ false
it_shares = refl

its_outcome : (o : Outcome) × IsClusterOutcome ordered o
its_outcome = some_outcome ordered refl refl

-- One list of its steps, by the agents' own names: first all of the one agent, and then all of the other

-- an agent of which this much is known takes this step, and the rest is taken from there
go : {Rest : World → Type 0} (w : World) (i : ℕ) (a : Local) (e : Event) (r : Option Row) (got : List ℕ) → slice_get w.locals i ≡ Some a → IsRunOver a.over a.plan a.history → ComesNext (with_new r a.history a.over) a.plan a.history e → Finds 2 w.locals w.words i a (due a.plan a.history) e r got
    → Rest (world_after w i a e r got) → (i : ℕ) × (mid : World) × Goes 2 w i mid × Rest mid
go w i a e r got at run next finds rest = (i, world_after w i a e r got, record { before = a; at = at; run = run; event = e; row = r; got = got; next = next; finds = finds; is = refl }, rest)

abbrev before_all : World
before_all = world_of (first_state ordered) (λ b x. 0)

abbrev s0 : Local
s0 = record { plan = storing; over = []; history = []; sent = []; got = [] }

abbrev s1 : Local
s1 = after_event s0 (JobBegun 1) None []

abbrev s2 : Local
s2 = after_event s1 (Did (SharedArrayBuffer (codes "b") 1, [], Gives (Object 1))) (Some (row 0 1 1)) []

abbrev s3 : Local
s3 = after_event s2 (Did (store (codes "b") (pos 0) (pos 7), Object 1 ∷ [], Nothing)) None []

abbrev s4 : Local
s4 = after_event s3 (Did (Post 1 (codes "b"), Object 1 ∷ [], Nothing)) None []

abbrev s5 : Local
s5 = after_event s4 JobEnded None []

abbrev s6 : Local
s6 = after_event s5 Closed None []

abbrev l0 : Local
l0 = record { plan = loading; over = []; history = []; sent = []; got = [] }

abbrev l1 : Local
l1 = after_event l0 (Received 0 (Object 1)) (Some (row 0 1 1)) (0 ∷ [])

abbrev l2 : Local
l2 = after_event l1 (JobBegun 1) None []

abbrev l3 : Local
l3 = after_event l2 (Did (load (codes "x") (codes "m") (pos 0), Object 1 ∷ [], Gives (Number (pos 7)))) None []

abbrev l4 : Local
l4 = after_event l3 (Did (Say (codes "x"), Number (pos 7) ∷ [], Nothing)) None []

abbrev l5 : Local
l5 = after_event l4 JobEnded None []

abbrev l6 : Local
l6 = after_event l5 Closed None []

abbrev w1 : World
w1 = world_after before_all 0 s0 (JobBegun 1) None []

abbrev w2 : World
w2 = world_after w1 0 s1 (Did (SharedArrayBuffer (codes "b") 1, [], Gives (Object 1))) (Some (row 0 1 1)) []

abbrev w3 : World
w3 = world_after w2 0 s2 (Did (store (codes "b") (pos 0) (pos 7), Object 1 ∷ [], Nothing)) None []

abbrev w4 : World
w4 = world_after w3 0 s3 (Did (Post 1 (codes "b"), Object 1 ∷ [], Nothing)) None []

abbrev w5 : World
w5 = world_after w4 0 s4 JobEnded None []

abbrev w6 : World
w6 = world_after w5 0 s5 Closed None []

abbrev w7 : World
w7 = world_after w6 1 l0 (Received 0 (Object 1)) (Some (row 0 1 1)) (0 ∷ [])

abbrev w8 : World
w8 = world_after w7 1 l1 (JobBegun 1) None []

abbrev w9 : World
w9 = world_after w8 1 l2 (Did (load (codes "x") (codes "m") (pos 0), Object 1 ∷ [], Gives (Number (pos 7)))) None []

abbrev w10 : World
w10 = world_after w9 1 l3 (Did (Say (codes "x"), Number (pos 7) ∷ [], Nothing)) None []

abbrev w11 : World
w11 = world_after w10 1 l4 JobEnded None []

abbrev w12 : World
w12 = world_after w11 1 l5 Closed None []

they_go : GoFar 2 12 before_all w12
they_go =
    go before_all 0 s0 (JobBegun 1) None [] refl (search rules) (search rules) (refl, refl, refl)
    (go w1 0 s1 (Did (SharedArrayBuffer (codes "b") 1, [], Gives (Object 1))) (Some (row 0 1 1)) [] refl (search rules) (search rules) (refl, refl, refl)
    (go w2 0 s2 (Did (store (codes "b") (pos 0) (pos 7), Object 1 ∷ [], Nothing)) None [] refl (search rules) (search rules) (refl, refl, refl)
    (go w3 0 s3 (Did (Post 1 (codes "b"), Object 1 ∷ [], Nothing)) None [] refl (search rules) (search rules) (refl, refl, refl)
    (go w4 0 s4 JobEnded None [] refl (search rules) (search rules) (refl, refl, refl)
    (go w5 0 s5 Closed None [] refl (search rules) (search rules) (refl, refl, refl)
    (go w6 1 l0 (Received 0 (Object 1)) (Some (row 0 1 1)) (0 ∷ []) refl (search rules) (search rules) (inl (refl, refl), refl)
    (go w7 1 l1 (JobBegun 1) None [] refl (search rules) (search rules) (refl, refl, refl)
    (go w8 1 l2 (Did (load (codes "x") (codes "m") (pos 0), Object 1 ∷ [], Gives (Number (pos 7)))) None [] refl (search rules) (search rules) (refl, refl, refl)
    (go w9 1 l3 (Did (Say (codes "x"), Number (pos 7) ∷ [], Nothing)) None [] refl (search rules) (search rules) (refl, refl, refl)
    (go w10 1 l4 JobEnded None [] refl (search rules) (search rules) (refl, refl, refl)
    (go w11 1 l5 Closed None [] refl (search rules) (search rules) (refl, refl, refl)
    refl)))))))))))

they_are_done : AreDone w12
they_are_done zero a at = let same : s6 ≡ a = cc in ap is_done (sym same)
they_are_done (suc zero) a at = let same : l6 ≡ a = cc in ap is_done (sym same)
they_are_done (suc (suc i)) a at = cc

-- Each made one access, and who loads knew of the store

abbrev the_store : Touched
the_store = record { block = 1; index = 0; writes = true; knew = [] }

abbrev the_load : Touched
the_load = record { block = 1; index = 0; writes = false; knew = (0, 0) ∷ [] }

one_store : (w12.lore 0).touched ≡ the_store ∷ []
one_store = refl

one_load : (w12.lore 1).touched ≡ the_load ∷ []
one_load = refl

-- of others there is none
away : (n : ℕ) (w : World) (i : ℕ) (t : World) → Goes n w i t → (j : ℕ) → slice_get w.locals j ≡ None → i ≡ j → ⊥
away n w i t x j none same = let off : None ≡ Some x.before = sym none ∙ (ap (slice_get w.locals) (sym same) ∙ x.at) in cc

nobody_goes : (n k : ℕ) (w end : World) → GoFar n k w end → (j : ℕ) → slice_get w.locals j ≡ None → end.lore j ≡ w.lore j
nobody_goes n zero w end far j none = ap (λ (v : World). v.lore j) far
nobody_goes n (suc k) w end (i, mid, x, far) j none =
    let other = away n w i mid x j none in
    nobody_goes n k mid end far j (others n w i mid x j other ∙ none) ∙ lore_other n w i mid x j other

no_other : (j p : ℕ) (x : Touched) → slice_get (w12.lore (suc (suc j))).touched p ≡ Some x → ⊥
no_other j p x at = let off = ap (λ (o : Lore). slice_get o.touched p) (sym (nobody_goes 2 12 before_all w12 they_go (suc (suc j)) refl)) ∙ at in cc

knew_it : (x y : Touched) → Some the_load ≡ Some y → (is_known (0, 0) y.knew || is_known (1, 0) x.knew) ≡ true
knew_it x y at = ap (λ (y : Touched). is_known (0, 0) y.knew || is_known (1, 0) x.knew) (sym (inner at))

they_do_not_race : IsFree w12
they_do_not_race zero zero p q x y other at_x at_y clash = absurd (other refl)
they_do_not_race (suc zero) (suc zero) p q x y other at_x at_y clash = absurd (other refl)
they_do_not_race zero (suc zero) zero zero x y other at_x at_y clash = knew_it x y at_y
they_do_not_race zero (suc zero) (suc p) q x y other at_x at_y clash = cc
they_do_not_race zero (suc zero) zero (suc q) x y other at_x at_y clash = cc
they_do_not_race (suc zero) zero zero zero x y other at_x at_y clash = or_comm (is_known (1, 0) y.knew) (is_known (0, 0) x.knew) ∙ knew_it y x at_x
they_do_not_race (suc zero) zero (suc p) q x y other at_x at_y clash = cc
they_do_not_race (suc zero) zero zero (suc q) x y other at_x at_y clash = cc
they_do_not_race (suc (suc i)) j p q x y other at_x at_y clash = absurd (no_other i p x at_x)
they_do_not_race zero (suc (suc j)) p q x y other at_x at_y clash = absurd (no_other j q y at_y)
they_do_not_race (suc zero) (suc (suc j)) p q x y other at_x at_y clash = absurd (no_other j q y at_y)

-- So no list of turns has a race, and the plan has one report, whichever way it runs

never_races : (ns : List ℕ) (c : ClusterView) (o : Outcome) → AllTurned ns (first_state ordered) c → EndsIn (with_drained c) o → has_no_race c.ledger.history ≡ true
never_races ns c o turned ends = free_by_steps ordered 12 w12 refl they_go they_are_done they_do_not_race ns c o turned ends

one_report : (o q : Outcome) → IsClusterOutcome ordered o → IsClusterOutcome ordered q → report o ≡ report q
one_report o q a b =
    let y = refines ordered q b in
    turned_reports ordered y.turns y.end o y.outcome refl a y.turned (never_races y.turns y.end y.outcome y.turned y.ends) y.ends ∙ sym y.reported

-- Where threads may come to something else, some race by turns
differ_so_race : (plan : Plan) (c : ClusterView) (o q : Outcome) → never_sleeps plan ≡ true → IsClusterOutcome plan o → RunsToEnd (first_state plan) c → EndsIn c q → (SayAlike o q → ⊥) → has_no_race c.ledger.history ≡ false
differ_so_race plan c o q calm is run ends differ = by_test (has_no_race c.ledger.history) refl
  where
    by_test : (b : Bool) → has_no_race c.ledger.history ≡ b → has_no_race c.ledger.history ≡ false
    by_test true none = absurd (differ (says_as_by_turns plan c o q calm is run none ends))
    by_test false some = some

-- Agents that share no word

abbrev posting : AgentPlan
posting = record { name = codes "a"; callbacks = []; jobs = job_of (SharedArrayBuffer (codes "b") 1 ∷ Post 1 (codes "b") ∷ []) ∷ [] }

abbrev saying : AgentPlan
saying = record { name = codes "c"; callbacks = []; jobs = job_on 0 (codes "m") (Say (codes "m") ∷ []) ∷ [] }

none_race : (ns : List ℕ) (c : ClusterView) → AllTurned ns (first_state (record { agents = posting ∷ saying ∷ [] })) c → has_no_race c.ledger.history ≡ true
none_race ns c turned = messages_alone (record { agents = posting ∷ saying ∷ [] }) ns c refl turned
