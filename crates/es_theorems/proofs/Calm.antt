-- An agent whose plan never sleeps asks for no sleep: it is awake, and waits for messages alone.
use Rattle.std.proofs.Common.{◌≡◌, ℕ, Bool, true, false, if◌then◌else◌, not, sym, ◌∙◌, ap, refl, subst, List, [], ◌∷◌, drop, Option, Some, None, inl, inr}
use Rattle.std.specs.Prelude.{ℤ, is_some, slice_get, unsigned_abs}
use Rattle.std.specs.List.{list_all, list_any}
use Rattle.std.specs.Option.{option_map}
use Rattle.std.proofs.lemmas.Bool.{and_parts, not-true, or_parts}
use Rattle.es_value.specs.declared.value.Value.{Value}
use Rattle.es_value.specs.declared.value.Value.TheVariants.{Object}
use Rattle.es_event.specs.declared.access.Access.{Access}
use Rattle.es_event.specs.declared.access.Task.{Task}
use Rattle.es_event.specs.declared.atomic.AtomicParts.{AtomicParts}
use Rattle.es_event.specs.declared.atomic.Operation.{Operation}
use Rattle.es_event.specs.declared.command.Command.{Command}
use Rattle.es_event.specs.declared.command.Command.TheVariants.{Atomic, Post}
use Rattle.es_event.specs.declared.event.Answer.{Answer}
use Rattle.es_event.specs.declared.event.Event.{Event}
use Rattle.es_event.specs.declared.event.Event.TheVariants.{Did, Refused}
use Rattle.es_event.specs.declared.event.Refusal.{Refusal}
use Rattle.es_event.specs.declared.plan.AgentPlan.{AgentPlan}
use Rattle.es_event.specs.declared.plan.Callback.{Callback}
use Rattle.es_event.specs.declared.plan.Job.{Job}
use Rattle.es_event.specs.declared.plan.Plan.{Plan}
use Rattle.es_event.specs.Access.{given_to, is_of_sleep}
use Rattle.es_event.specs.Commands.{first, reads}
use Rattle.es_event.specs.Follows.{Permits, done_for, refused_now}
use Rattle.es_event.specs.Heard.{a_word, heard_at, silence, word_in}
use Rattle.es_event.specs.History.{History}
use Rattle.es_event.specs.Identities.{object_of}
use Rattle.es_event.specs.Jobs.{Receivers, receivers}
use Rattle.es_event.specs.Ledger.{Ledger}
use Rattle.es_event.specs.Legal.{values_of}
use Rattle.es_event.specs.Numbers.{access_of, index_of, task_by, task_of}
use Rattle.es_event.specs.Order.{Due, due, left, run}
use Rattle.es_event.specs.Rules.{refusal}
use Rattle.es_event.specs.Sharing.{Buffers}
use Rattle.es_event.specs.Waiters.{asleep}
use Rattle.es_event.proofs.Left.{each_of, is_first, left_holds}
use Rattle.es_match.specs.Asks.{Asking, nothing, to_open, to_measure, to_compare, to_access, to_miss, to_sleep, to_notify, to_post, to_receive, to_refuse, to_pass, to_empty, to_close, asks, asks_did, asks_word, given}
use Rattle.es_ledger.specs.LedgerView.{LedgerView}
use Rattle.es_record.specs.AgentView.{AgentView}
use Rattle.es_rules.specs.Needs.{Need, for_word, asked, asks_ledger, at_word, gives_wait_result, need, posts_to}
use Rattle.es_rules.proofs.Needs.{ledger_due, not_refused}
use Rattle.es_cluster.specs.Midway.{asks_to_sleep}
use Rattle.es_cluster.specs.Tied.{IsTied}
use Rattle.es_cluster.specs.Turned.{WaitsOn, WaitsRightly}
use Rattle.es_cluster.specs.declared.member.Progress.TheVariants.{Waiting}
use Rattle.es_cluster.proofs.Midway.{awake}
use Rattle.es_theorems.specs.Messages.{is_on_word, share_no_word, shares_no_word}
use Rattle.es_theorems.specs.Sleepless.{is_for_sleep, never_sleeps, never_sleeps_in}

-- A command at a word

pub task_is : (o : Operation) (m : Access) (w : ℕ) (vs : List Value) → is_of_sleep o ≡ false → task_by o m w vs ≡ Task.Access m
task_is (Operation.Wait to n) m w vs calm = cc
task_is (Operation.Notify to c) m w vs calm = cc
task_is _ m w vs calm = refl

pub task_access : (c : AtomicParts) (vs : List Value) → is_of_sleep c.operation ≡ false → task_of c vs ≡ Task.Access (access_of c vs)
task_access c vs calm = task_is c.operation _ _ _ calm

pub heard_is : (o : Operation) (a : Answer) → is_of_sleep o ≡ false → heard_at o a ≡ (if is_some (given_to o) then a_word (word_in a) else silence)
heard_is (Operation.Wait to n) a calm = cc
heard_is (Operation.Notify to c) a calm = cc
heard_is _ a calm = refl

-- What the plan says

record IsCalm (plan : AgentPlan) : Type 0 where
  jobs : (i : ℕ) (j : Job) → slice_get plan.jobs i ≡ Some j → list_any is_for_sleep j.run ≡ false
  callbacks : (i : ℕ) (c : Callback) → slice_get plan.callbacks i ≡ Some c → list_any is_for_sleep c.run ≡ false

is_calm : (plan : AgentPlan) → never_sleeps_in plan ≡ true → IsCalm plan
is_calm plan e =
    let runs = and_parts (list_all (λ j. not (list_any is_for_sleep j.run)) plan.jobs) _ e in
    record {
      jobs = λ i j is. not-true (list_any is_for_sleep j.run) (each_of (λ j. not (list_any is_for_sleep j.run)) plan.jobs i j runs.0 is);
      callbacks = λ i c is. not-true (list_any is_for_sleep c.run) (each_of (λ c. not (list_any is_for_sleep c.run)) plan.callbacks i c runs.1 is);
    }

abbrev AreCalm : List Command → Type 0
AreCalm cs = list_any is_for_sleep cs ≡ false

rest_calm : (cs : List Command) → AreCalm cs → AreCalm (drop 1 cs)
rest_calm [] e = refl
rest_calm (c ∷ cs) e = (or_parts (is_for_sleep c) (list_any is_for_sleep cs) e).1

left_calm : (plan : AgentPlan) → IsCalm plan → (h : History) → AreCalm (left plan h)
left_calm plan calm h = left_holds AreCalm plan (record { none = refl; rest = rest_calm; jobs = calm.jobs; callbacks = calm.callbacks }) h

-- the due command is for no sleep, nor is what is done in its place
pub due_calm : (plan : AgentPlan) (h : History) (x : Option (List ℕ)) (c : Command) → never_sleeps_in plan ≡ true → due plan h ≡ run x c → is_for_sleep c ≡ false
due_calm plan h x c calm is =
    let first = is_first plan h x c is in
    (or_parts (is_for_sleep c) (list_any is_for_sleep first.others) (subst AreCalm first.is_left (left_calm plan (is_calm plan calm) h))).0

pub done_calm : (o : Option Refusal) (x : Option (List ℕ)) (c : Command) → is_for_sleep c ≡ false → is_for_sleep (done_for o x c) ≡ false
done_calm (Some code) (Some x) c calm = refl
done_calm (Some code) None c calm = calm
done_calm None x c calm = calm

-- a plan that shares no word never sleeps
none_shared : (cs : List Command) → list_any is_on_word cs ≡ false → list_any is_for_sleep cs ≡ false
none_shared [] e = refl
none_shared (c ∷ cs) e = let parts = or_parts (is_on_word c) (list_any is_on_word cs) e in by c parts.0 (none_shared cs parts.1)
  where
    by : (c : Command) → is_on_word c ≡ false → list_any is_for_sleep cs ≡ false → list_any is_for_sleep (c ∷ cs) ≡ false
    by (Atomic a) off rest = cc
    by _ off rest = rest

each_too : {A : Type 0} (f g : A → List Command) (xs : List A) → ((x : A) → f x ≡ g x) → list_all (λ x. not (list_any is_on_word (f x))) xs ≡ true → list_all (λ x. not (list_any is_for_sleep (g x))) xs ≡ true
each_too f g [] same e = refl
each_too f g (x ∷ xs) same e =
    let parts = and_parts (not (list_any is_on_word (f x))) (list_all (λ x. not (list_any is_on_word (f x))) xs) e in
    rw (none_shared (g x) (ap (list_any is_on_word) (sym (same x)) ∙ not-true _ parts.0), each_too f g xs same parts.1) refl

shares_calm : (plan : AgentPlan) → shares_no_word plan ≡ true → never_sleeps_in plan ≡ true
shares_calm plan e =
    let parts = and_parts (list_all (λ j. not (list_any is_on_word j.run)) plan.jobs) _ e in
    rw (each_too (λ j. j.run) (λ j. j.run) plan.jobs (λ j. refl) parts.0, each_too (λ c. c.run) (λ c. c.run) plan.callbacks (λ c. refl) parts.1) refl

all_calm : (plans : List AgentPlan) → list_all shares_no_word plans ≡ true → list_all never_sleeps_in plans ≡ true
all_calm [] e = refl
all_calm (p ∷ ps) e = let parts = and_parts (shares_no_word p) (list_all shares_no_word ps) e in rw (shares_calm p parts.0, all_calm ps parts.1) refl

pub wordless_calm : (p : Plan) → share_no_word p ≡ true → never_sleeps p ≡ true
wordless_calm p e = all_calm p.agents e

-- What it asks of its deeds

abbrev pub is_about_sleep : Asking → Bool
is_about_sleep nothing = false
is_about_sleep (to_open n v) = false
is_about_sleep (to_measure b v) = false
is_about_sleep (to_compare b c v) = false
is_about_sleep (to_access b i m v) = false
is_about_sleep (to_miss b i w) = false
is_about_sleep (to_sleep b i w r) = true
is_about_sleep (to_notify b i n v) = true
is_about_sleep (to_post a v) = false
is_about_sleep (to_receive s v) = false
is_about_sleep to_refuse = false
is_about_sleep (to_pass s) = false
is_about_sleep (to_empty ids) = false
is_about_sleep to_close = false

pub did_calm : (c : Command) (vs : List Value) (a : Answer) → is_for_sleep c ≡ false → is_about_sleep (asks_did c vs a) ≡ false
did_calm (Atomic c) vs a calm = ap (λ t. is_about_sleep (asks_word (first vs) (index_of c vs) t (given a))) (task_access c vs calm)
did_calm _ vs a calm = refl

refused_calm : (t : Bool) → is_about_sleep (if t then to_refuse else nothing) ≡ false
refused_calm true = refl
refused_calm false = refl

-- a command that is done is the one that is due, or stands in its place
did_due : (over : Buffers) (into : Receivers) (h : History) (d : Due) (c : Command) (vs : List Value) (a : Answer) → ((x : Option (List ℕ)) (k : Command) → d ≡ run x k → is_for_sleep k ≡ false) → Permits over into h d (Did (c, vs, a)) → is_for_sleep c ≡ false
did_due over into h (run x k) c vs a calm may = ap is_for_sleep may ∙ done_calm (refused_now over into h k) x k (calm x k refl)
did_due over into h _ c vs a calm may = absurd may

pub did_is_calm : (over : Buffers) (plan : AgentPlan) (h : History) (c : Command) (vs : List Value) (a : Answer) → never_sleeps_in plan ≡ true → Permits over (receivers plan.jobs) h (due plan h) (Did (c, vs, a)) → is_for_sleep c ≡ false
did_is_calm over plan h c vs a calm may = did_due over (receivers plan.jobs) h (due plan h) c vs a (λ x k is. due_calm plan h x k calm is) may

pub event_calm : (over : Buffers) (plan : AgentPlan) (h : History) (t : Bool) (e : Event) → never_sleeps_in plan ≡ true → Permits over (receivers plan.jobs) h (due plan h) e → is_about_sleep (asks t e) ≡ false
event_calm over plan h t (Did (c, vs, a)) calm may = did_calm c vs a (did_is_calm over plan h c vs a calm may)
event_calm over plan h t (Refused code) calm may = refused_calm _
event_calm over plan h t _ calm may = refl

-- What it asks for

pub word_asked : (v : Value) (j : ℤ) (t u : Task) (o i : ℕ) → at_word v j t ≡ Some (for_word o i u) → t ≡ u
word_asked v j t u o i is = by (object_of v) is
  where
    by : (q : Option ℕ) → option_map (λ o. for_word o (unsigned_abs j) t) q ≡ Some (for_word o i u) → t ≡ u
    by None is = cc
    by (Some p) is = cc

pub post_no_word : (r : ℕ) (v : Value) (o i : ℕ) (t : Task) → Some (posts_to r v) ≡ Some (for_word o i t) → ⊥
post_no_word r (Object p) o i t is = cc
post_no_word r v o i t is = cc

asked_calm : (c : Command) (vs : List Value) (o i : ℕ) (t : Task) → is_for_sleep c ≡ false → asked c vs ≡ Some (for_word o i t) → (m : Access) × (t ≡ Task.Access m)
asked_calm (Atomic c) vs o i t calm is = (access_of c vs, sym (word_asked (first vs) (index_of c vs) (task_of c vs) t o i is) ∙ task_access c vs calm)
asked_calm (Post q y) vs o i t calm is = absurd (post_no_word q (first vs) o i t is)
asked_calm _ vs o i t calm is = cc

-- at a word it asks for an access
pub calm_task : (b : AgentView) (o i : ℕ) (t : Task) → never_sleeps_in b.plan ≡ true → need b ≡ asks_ledger (for_word o i t) → (m : Access) × (t ≡ Task.Access m)
calm_task b o i t calm is =
    let at = ledger_due b (due b.plan b.history) (for_word o i t) is in
    let vs = values_of (receivers b.plan.jobs) b.history (reads at.0) in
    asked_calm at.0 vs o i t (due_calm b.plan b.history at.1.0 at.0 calm at.1.1) (not_refused (refusal b.over b.history at.0 vs) (asked at.0 vs) (for_word o i t) at.3).1

pub calm_need : (b : AgentView) → never_sleeps_in b.plan ≡ true → asks_to_sleep (need b) ≡ false
calm_need b calm = by (need b) refl
  where
    by : (d : Need) → need b ≡ d → asks_to_sleep d ≡ false
    by (asks_ledger (for_word o i t)) is = ap gives_wait_result (calm_task b o i t calm is).1
    by _ is = refl

pub calm_awake : (b : AgentView) (l : Ledger) → never_sleeps_in b.plan ≡ true → IsTied b l → asleep l b.number ≡ false
calm_awake b l calm tied = awake b l tied (calm_need b calm)

no_sleep : (b : AgentView) (o i w : ℕ) → never_sleeps_in b.plan ≡ true → need b ≡ asks_ledger (for_word o i (Task.Sleep w)) → ⊥
no_sleep b o i w calm is = let clash : true ≡ false = sym (ap asks_to_sleep is) ∙ calm_need b calm in cc

-- where it waits on, it does for a message
pub waits_on : (b : AgentView) (old new : LedgerView) → never_sleeps_in b.plan ≡ true → WaitsRightly Waiting b old new → WaitsOn b old new
waits_on b old new calm (inl on) = on
waits_on b old new calm (inr on) = absurd (no_sleep b on.0 on.1 on.2 calm on.4)
