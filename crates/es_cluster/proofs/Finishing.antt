-- A move goes on until its agent rests, and leaves less work to the agents together.
use Rattle.std.proofs.Common.{◌≡◌, ℕ, zero, suc, ◌+◌, ◌<◌, ◌≤◌, ◌&&◌, Bool, true, false, cond, not, sym, ◌∙◌, ap, refl, subst, arith, List, [], ◌∷◌, length, Option, Some, None, Result, Ok, Err, ◌⊎◌, inl, inr}
use Rattle.std.specs.Prelude.{IfOk, slice_get, slice_set}
use Rattle.std.specs.List.{sum_by}
use Rattle.std.specs.Option.{option_map_or}
use Rattle.std.proofs.lemmas.List.Sums.{sum_by-cons}
use Rattle.es_value.specs.declared.error.NoMemory.{NoMemory}
use Rattle.es_event.proofs.Work.{cleanup_work, plan_work}
use Rattle.es_event.specs.Ledger.{Ledger, ended}
use Rattle.es_event.specs.LegalLedger.{all_ended, all_stuck}
use Rattle.es_event.specs.Order.{is_cleaning_up}
use Rattle.es_event.specs.Waiters.{asleep}
use Rattle.es_cluster.specs.declared.member.Progress.{Progress}
use Rattle.es_cluster.specs.declared.member.Progress.TheVariants.{Moved, Waiting, Ended}
use Rattle.es_record.specs.AgentView.{AgentView}
use Rattle.es_cluster.specs.declared.moving.Begun.{Begun}
use Rattle.es_cluster.specs.Asked.{plan_left, plans_left, cleanup_left, cleans_at, queue_work, queues_left, IsLess, Works, Hears, Asked, AskedUpTo, AskedEach, BeginsMove, CleansUp, FirstTurn, GoesOn, Sweeps}
use Rattle.es_cluster.specs.Moves.{BeginsToSleep, is_between, mover, rests, rests_at, Rest, rested, slept, turned, RunsOut, waits, moves}
use Rattle.es_cluster.specs.State.{ClusterView}
use Rattle.es_cluster.specs.Turns.{Turned}
use Rattle.es_cluster.specs.Watched.{busy}
use Rattle.es_cluster.proofs.Standing.{set_here, set_length, set_same, within}

-- An agent that cleans up does not rest

unrested : (p q : Bool) → q ≡ true → (p && not q) ≡ false
unrested true true is = refl
unrested false true is = refl
unrested p false is = cc

pub cleaning_unrested : (n : ℕ) (c : ClusterView) → cleans_at n c ≡ true → rests_at n c ≡ false
cleaning_unrested n c is = at (slice_get c.agents n) is
  where
    at : (o : Option AgentView) → option_map_or (λ b. is_cleaning_up b.history) o false ≡ true → option_map_or rests o true ≡ false
    at None is = cc
    at (Some b) is = unrested (is_between b.history) (is_cleaning_up b.history) is

-- a turn of one that waits, sleeps or has ended changes no agent
pub same_agents : (p : Progress) (n : ℕ) (old new : ClusterView) → (t : Turned p n old new) → t.after ≡ t.before → new.agents ≡ old.agents
same_agents p n old new t same = t.agents ∙ ap (slice_set old.agents n) same ∙ set_same old.agents n t.before t.agent

-- one that does not rest, is awake, and does not move begins to sleep
pub falls_asleep : (p : Progress) (n : ℕ) (old new : ClusterView) → (p ≡ Waiting) ⊎ (p ≡ Ended) → rests_at n old ≡ false → asleep old.ledger.history n ≡ false → Turned p n old new → Works p n old new → BeginsToSleep n old new
falls_asleep Moved n old new is busy awake t works = absurd (elim is [
  | inl e ↦ (let clash : Moved ≡ Waiting = e in cc)
  | inr e ↦ (let clash : Moved ≡ Ended = e in cc)
])
falls_asleep Waiting n old new is busy awake t works = elim works [
  | inl rests ↦ (let clash : true ≡ false = sym rests ∙ busy in cc)
  | inr sleeps ↦ (t, awake, sleeps)
]
falls_asleep Ended n old new is busy awake t works = let clash : true ≡ false = sym works ∙ busy in cc

-- which ends its rest
pub goes_asleep : (n : ℕ) (old mid new : ClusterView) → GoesOn n old mid → rests_at n mid ≡ false → BeginsToSleep n mid new → Rest n old new
goes_asleep n old mid new goes busy begins = goes new (slept busy begins)

pub asleep_same : (n : ℕ) (old new : ClusterView) → BeginsToSleep n old new → (plan_left n new ≡ plan_left n old) × (cleanup_left n new ≡ cleanup_left n old) × (new.failed ≡ false)
asleep_same n old new begins =
    let same = same_agents Waiting n old new begins.0 begins.0.turn.1 in (
      ap (λ bs. option_map_or (λ b. plan_work b.plan b.history) (slice_get bs n) 0) same,
      ap (λ bs. option_map_or (λ b. cleanup_work b.plan b.history) (slice_get bs n) 0) same,
      begins.0.whole.1,
    )

-- and goes on
pub goes_more : (p : Progress) (n : ℕ) (old mid new : ClusterView) → GoesOn n old mid → rests_at n mid ≡ false → p ≡ Moved → Turned p n mid new → GoesOn n old new
goes_more p n old mid new goes is moved t = λ end rest. goes end (turned is (subst (λ p. Turned p n mid new) moved t) rest)

pub turned_length : (p : Progress) (n : ℕ) (old new : ClusterView) → Turned p n old new → length new.agents ≡ length old.agents
turned_length p n old new t = ap length t.agents ∙ set_length old.agents n t.after

pub works_moved : (p : Progress) (n : ℕ) (old new : ClusterView) (b : Bool) → cleans_at n old ≡ b → p ≡ Moved → Works p n old new → IsLess b n old new
works_moved p n old new b is moved works = subst (λ b. IsLess b n old new) is (subst (λ p. Works p n old new) moved works).0

-- one that was at its cleanup queue is still, or rests
pub sweeps_on : (p : Progress) (n : ℕ) (old new : ClusterView) → cleans_at n old ≡ true → p ≡ Moved → Works p n old new → Sweeps n new
sweeps_on p n old new up moved works = (subst (λ p. Works p n old new) moved works).1 up

pub still_awake : (p : Progress) (n : ℕ) (old new : ClusterView) → p ≡ Moved → Hears p n old new → asleep new.ledger.history n ≡ false
still_awake p n old new moved hears = (subst (λ p. Hears p n old new) moved hears).1

-- where the queue is worked off, it rests
pub swept : (n : ℕ) (c : ClusterView) → cleans_at n c ≡ false → Sweeps n c → rests_at n c ≡ true
swept n c clean sweeps = elim sweeps [
  | inl up ↦ (let clash : true ≡ false = sym up ∙ clean in cc)
  | inr rests ↦ rests
]

-- Asking

pub asked_on : (a b c : ClusterView) → Asked a b → Asked b c → Asked a c
asked_on a b c one two = record { agents = two.agents ∙ one.agents; whole = two.whole; waits = λ end runs. one.waits end (two.waits end runs) }

settled_next : (l : Ledger) (i : ℕ) → all_stuck l i ≡ true → ended l i ≡ true → all_stuck l (i + 1) ≡ true
settled_next l i all end =
    let next : suc i ≡ i + 1 = omega arith in
    ap (all_stuck l) (sym next) ∙ rw (end, all) refl

ended_next : (l : Ledger) (i : ℕ) → all_ended l i ≡ true → ended l i ≡ true → all_ended l (i + 1) ≡ true
ended_next l i all end =
    let next : suc i ≡ i + 1 = omega arith in
    ap (all_ended l) (sym next) ∙ rw (end, all) refl

-- a turn of one that waits or sleeps, among moves
waits_or_lies : (i : ℕ) (mid new : ClusterView) → Turned Waiting i mid new → all_stuck mid.ledger.history i ≡ true
    → (asleep new.ledger.history i ≡ asleep mid.ledger.history i) ⊎ (BeginsToSleep i mid new × (all_stuck mid.ledger.history i ≡ true → mover mid ≡ Some i)) → (end : ClusterView) → RunsOut new end → RunsOut mid end
waits_or_lies i mid new t settled heard end runs = elim heard [
  | inl same ↦ waits i t same runs
  | inr lies ↦ moves i (lies.1 settled) (inr lies.0) runs
]

waited : (i : ℕ) (old mid new : ClusterView) → AskedUpTo i old mid → Turned Waiting i mid new → Hears Waiting i mid new → AskedUpTo (i + 1) old new
waited i old mid new before t heard = record {
  asked = record { agents = heard.0 ∙ before.asked.agents; whole = t.whole.1; waits = λ end runs. before.asked.waits end (waits_or_lies i mid new t before.settled heard.4 end runs) };
  number = heard.1 ∙ before.number;
  settled = heard.2 before.settled;
  again = λ all. (let was = before.again all in absurd (heard.3 (ap (λ c. all_stuck c.ledger.history c.ledger.agents) was.0 ∙ all) was.1));
}

had_ended : (i : ℕ) (old mid new : ClusterView) → AskedUpTo i old mid → Hears Ended i mid new → AskedUpTo (i + 1) old new
had_ended i old mid new before heard = subst (AskedUpTo (i + 1) old) (sym heard.0) (record {
  asked = before.asked;
  number = before.number;
  settled = settled_next mid.ledger.history i before.settled heard.1;
  again = λ all. (let was = before.again all in (was.0, ended_next mid.ledger.history i was.1 heard.1));
})

pub asked_next : (p : Progress) (i : ℕ) (old mid new : ClusterView) → AskedUpTo i old mid → (p ≡ Waiting) ⊎ (p ≡ Ended) → Turned p i mid new → Hears p i mid new → AskedUpTo (i + 1) old new
asked_next Moved i old mid new before is t heard = absurd (elim is [
  | inl e ↦ (let clash : Moved ≡ Waiting = e in cc)
  | inr e ↦ (let clash : Moved ≡ Ended = e in cc)
])
asked_next Waiting i old mid new before is t heard = waited i old mid new before t heard
asked_next Ended i old mid new before is t heard = had_ended i old mid new before heard

pub asked_all : (n : ℕ) (old new : ClusterView) → n ≡ old.ledger.agents → AskedUpTo n old new → AskedEach None old new
asked_all n old new size asked = (
  asked.asked,
  ap (all_stuck new.ledger.history) (asked.number ∙ sym size) ∙ asked.settled,
  λ all. ap (all_ended new.ledger.history) (asked.number ∙ sym size) ∙ (asked.again all).1,
)

pub asked_mover : (p : Progress) (i : ℕ) (b : Begun) (old mid new : ClusterView) → AskedUpTo i old mid → b.agent ≡ i → b.cleans ≡ cleans_at i mid → p ≡ Moved → Turned p i mid new → Hears p i mid new → Works p i mid new → FirstTurn b old new
asked_mover p i b old mid new before agent cleans is t heard works =
    let turned = subst (λ p. Turned p i mid new) is t in
    let hears = subst (λ p. Hears p i mid new) is heard in
    let less = subst (λ p. Works p i mid new) is works in
    record {
      mid = mid;
      asked = before.asked;
      moves = hears.0 before.settled ∙ ap (λ i. Some i) (sym agent);
      turned = subst (λ i. Turned Moved i mid new) (sym agent) turned;
      cleans = cleans ∙ ap (λ i. cleans_at i mid) (sym agent);
      less = subst (λ i. IsLess b.cleans i mid new) (sym agent) (subst (λ c. IsLess c i mid new) (sym cleans) less.0);
      awake = ap (asleep new.ledger.history) agent ∙ hears.1;
      swept = λ up. subst (λ i. Sweeps i new) (sym agent) (less.1 (sym cleans ∙ up));
    }

pub begins_again : (r : Option Begun) (old mid new : ClusterView) → AskedEach None old mid → AskedEach r mid new → BeginsMove r old new
begins_again (Some b) old mid new first again = record {
  mid = again.mid;
  asked = asked_on old mid again.mid first.0 again.asked;
  moves = again.moves;
  turned = again.turned;
  cleans = again.cleans;
  less = again.less;
  awake = again.awake;
  swept = again.swept;
}
begins_again None old mid new first again = (asked_on old mid new first.0 again.0, again.2 first.1)

pub begins_all : (r : Result (Option Begun) NoMemory) (old mid new : ClusterView) → AskedEach None old mid → IfOk r (λ r. AskedEach r mid new) → IfOk r (λ r. BeginsMove r old new)
begins_all (Ok r) old mid new first again = begins_again r old mid new first again
begins_all (Err e) old mid new first again = tt

-- The work of all agents

sum_set : (f : AgentView → ℕ) (xs : List AgentView) (n : ℕ) (x y : AgentView) → slice_get xs n ≡ Some x → f y < f x → sum_by f (slice_set xs n y) < sum_by f xs
sum_set f [] n x y is less = cc
sum_set f (z ∷ xs) zero x y is less =
    let same : z ≡ x = cc in
    let mine : f y < f z = subst (λ x. f y < f x) (sym same) less in
    let new = sum_by-cons f y xs in
    let old = sum_by-cons f z xs in
    omega (arith, mine, new, old)
sum_set f (z ∷ xs) (suc n) x y is less =
    let rest = sum_set f xs n x y is less in
    let new = sum_by-cons f z (slice_set xs n y) in
    let old = sum_by-cons f z xs in
    omega (arith, rest, new, old)

sum_kept : (f : AgentView → ℕ) (xs : List AgentView) (n : ℕ) (x y : AgentView) → slice_get xs n ≡ Some x → f y ≡ f x → sum_by f (slice_set xs n y) ≡ sum_by f xs
sum_kept f [] n x y is same = cc
sum_kept f (z ∷ xs) zero x y is same =
    let here : z ≡ x = cc in
    let mine : f y ≡ f z = same ∙ ap f (sym here) in
    let new = sum_by-cons f y xs in
    let old = sum_by-cons f z xs in
    omega (arith, mine, new, old)
sum_kept f (z ∷ xs) (suc n) x y is same =
    let rest = sum_kept f xs n x y is same in
    let new = sum_by-cons f z (slice_set xs n y) in
    let old = sum_by-cons f z xs in
    omega (arith, rest, new, old)

set_twice : (xs : List AgentView) (n : ℕ) (x y : AgentView) → slice_set (slice_set xs n x) n y ≡ slice_set xs n y
set_twice [] n x y = refl
set_twice (z ∷ xs) zero x y = refl
set_twice (z ∷ xs) (suc n) x y = ap (λ ys. z ∷ ys) (set_twice xs n x y)

-- the rest of a move changes its agent alone
rest_only : (n : ℕ) (c end : ClusterView) → Rest n c end → (b : AgentView) → slice_get c.agents n ≡ Some b → (y : AgentView) × (end.agents ≡ slice_set c.agents n y)
rest_only n c _ (rested is) b at = (b, sym (set_same c.agents n b at))
rest_only n c end (slept is begins) b at = (b, same_agents Waiting n c end begins.0 begins.0.turn.1 ∙ sym (set_same c.agents n b at))
rest_only n c end (turned {mid = mid} is t rest) b at =
    let next = rest_only n mid end rest t.after (ap (λ bs. slice_get bs n) t.agents ∙ set_here c.agents n t.after (within c.agents n b at)) in
    (next.0, next.1 ∙ ap (λ bs. slice_set bs n next.0) t.agents ∙ set_twice c.agents n t.after next.0)

-- so does the whole move, and what is left to its agent before and after it is told by its place
record WholeMove (b : Begun) (old end : ClusterView) : Type 0 where
  before : AgentView
  after : AgentView
  at : slice_get old.agents b.agent ≡ Some before
  agents : end.agents ≡ slice_set old.agents b.agent after
  there : slice_get end.agents b.agent ≡ Some after

whole_move : (b : Begun) (old next end : ClusterView) → (f : FirstTurn b old next) → Rest b.agent next end → WholeMove b old end
whole_move b old next end f rest =
    let n = b.agent in
    let t = f.turned in
    let here = ap (λ bs. slice_get bs n) t.agents ∙ set_here f.mid.agents n t.after (within f.mid.agents n t.before t.agent) in
    let last = rest_only n next end rest t.after here in
    let agents : end.agents ≡ slice_set f.mid.agents n last.0 = last.1 ∙ ap (λ bs. slice_set bs n last.0) t.agents ∙ set_twice f.mid.agents n t.after last.0 in
    record {
      before = t.before;
      after = last.0;
      at = ap (λ bs. slice_get bs n) (sym f.asked.agents) ∙ t.agent;
      agents = agents ∙ ap (λ bs. slice_set bs n last.0) f.asked.agents;
      there = ap (λ bs. slice_get bs n) agents ∙ set_here f.mid.agents n last.0 (within f.mid.agents n t.before t.agent);
    }

plan_at : (n : ℕ) (c : ClusterView) (b : AgentView) → slice_get c.agents n ≡ Some b → plan_left n c ≡ plan_work b.plan b.history
plan_at n c b at = ap (λ o. option_map_or (λ b. plan_work b.plan b.history) o 0) at

cleanup_at : (n : ℕ) (c : ClusterView) (b : AgentView) → slice_get c.agents n ≡ Some b → cleanup_left n c ≡ cleanup_work b.plan b.history
cleanup_at n c b at = ap (λ o. option_map_or (λ b. cleanup_work b.plan b.history) o 0) at

at_mid : (b : Begun) (old next : ClusterView) (x : AgentView) → (f : FirstTurn b old next) → slice_get old.agents b.agent ≡ Some x → slice_get f.mid.agents b.agent ≡ Some x
at_mid b old next x f at = ap (λ bs. slice_get bs b.agent) f.asked.agents ∙ at

-- a move that does not begin at the cleanup queue leaves less of a plan
pub moved_less : (b : Begun) (old next end : ClusterView) → FirstTurn b old next → b.cleans ≡ false → Rest b.agent next end → plan_left b.agent end ≤ plan_left b.agent next → plans_left end < plans_left old
moved_less b old next end f clean rest kept =
    let w = whole_move b old next end f rest in
    let first : plan_left b.agent next < plan_left b.agent f.mid = subst (λ c. IsLess c b.agent f.mid next) clean f.less in
    let middle = plan_at b.agent f.mid w.before (at_mid b old next w.before f w.at) in
    let last = plan_at b.agent end w.after w.there in
    let less : plan_work w.after.plan w.after.history < plan_work w.before.plan w.before.history = omega (arith, first, middle, last, kept) in
    subst (λ bs. sum_by (λ b. plan_work b.plan b.history) bs < plans_left old) (sym w.agents) (sum_set (λ b. plan_work b.plan b.history) old.agents b.agent w.before w.after w.at less)

-- one that does leaves as much of the plans, and less of a cleanup queue
pub cleaned_less : (b : Begun) (old next end : ClusterView) → FirstTurn b old next → b.cleans ≡ true → Rest b.agent next end → plan_left b.agent end ≡ plan_left b.agent next → cleanup_left b.agent end ≤ cleanup_left b.agent next
    → (plans_left end ≡ plans_left old) × (queues_left end < queues_left old)
cleaned_less b old next end f up rest same kept =
    let w = whole_move b old next end f rest in
    let n = b.agent in
    let mid = at_mid b old next w.before f w.at in
    let first = subst (λ c. IsLess c n f.mid next) up f.less in
    let plan : plan_work w.after.plan w.after.history ≡ plan_work w.before.plan w.before.history = sym (plan_at n end w.after w.there) ∙ same ∙ first.0 ∙ plan_at n f.mid w.before mid in
    let busy : rests w.before ≡ false = sym (ap (λ o. option_map_or rests o true) mid) ∙ cleaning_unrested n f.mid (sym f.cleans ∙ up) in
    let unit = ap (λ r. cleanup_work w.before.plan w.before.history + cond r 0 1) busy in
    let most = at_most_one (rests w.after) in
    let less = first.1 in
    let middle = cleanup_at n f.mid w.before mid in
    let last = cleanup_at n end w.after w.there in
    let lower : queue_work w.after < queue_work w.before = omega (arith, unit, most, less, middle, last, kept) in (
      ap (sum_by (λ b. plan_work b.plan b.history)) w.agents ∙ sum_kept (λ b. plan_work b.plan b.history) old.agents n w.before w.after w.at plan,
      subst (λ bs. sum_by queue_work bs < queues_left old) (sym w.agents) (sum_set queue_work old.agents n w.before w.after w.at lower),
    )
  where
    at_most_one : (r : Bool) → cond r 0 1 ≤ 1
    at_most_one true = omega arith
    at_most_one false = omega arith

-- one move more
pub move_on : (b : Begun) (start old next end : ClusterView) → ((last : ClusterView) → RunsOut old last → RunsOut start last) → FirstTurn b old next → Rest b.agent next end → (last : ClusterView) → RunsOut end last → RunsOut start last
move_on b start old next end before f rest last runs = before last (f.asked.waits last (moves b.agent f.moves (inl (next, f.turned, rest)) runs))

pub runs_out : (start old new : ClusterView) → ((last : ClusterView) → RunsOut old last → RunsOut start last) → BeginsMove None old new → (last : ClusterView) → RunsOut new last → RunsOut start last
runs_out start old new before begins last runs = before last (begins.0.waits last runs)

-- The rest of a move at the cleanup queue

pub cleaned_rest : (asleep : Bool) (n : ℕ) (old new : ClusterView) → Sweeps n old → CleansUp asleep n old new → Rest n old new
cleaned_rest true n old new sweeps rest = rest
cleaned_rest false n old new sweeps done = done.0 new (rested (done.3 sweeps))

pub cleaned_busy : (asleep : Bool) (n : ℕ) (old new : ClusterView) → Sweeps n old → CleansUp asleep n old new → cond asleep None (busy n new) ≡ None
cleaned_busy true n old new sweeps rest = refl
cleaned_busy false n old new sweeps done = ap (λ b. cond b None (Some n)) (done.3 sweeps)

pub not_false : (b : Bool) → not b ≡ false → b ≡ true
not_false true is = refl
not_false false is = cc
