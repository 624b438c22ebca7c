-- The plan of an agent that stays alone has one whole run: it hears nothing of others, and no rule that it meets asks the table of
-- buffers.
use Rattle.std.proofs.Common.{◌≡◌, ℕ, ◌+◌, ◌-◌, ◌≤◌, not, true, false, sym, ◌∙◌, ap, refl, subst, arith, List, [], ◌∷◌, ◌++◌, drop, length, Option, Some, None, inl, inr}
use Rattle.std.specs.Prelude.{is_none, is_some, slice_get}
use Rattle.std.specs.List.{list_all, list_any}
use Rattle.std.proofs.lemmas.Bool.{and_parts, or_parts, not-true, cases_lt}
use Rattle.std.proofs.lemmas.List.{append-nil}
use Rattle.es_value.specs.declared.value.Value.{Value}
use Rattle.es_event.specs.declared.event.Answer.{Answer}
use Rattle.es_event.specs.declared.event.Event.{Event}
use Rattle.es_event.specs.declared.event.Event.TheVariants.{JobBegun, CleanupBegun, Did, Refused, Emptied, Taken, JobEnded, Closed}
use Rattle.es_event.specs.declared.event.Refusal.{Refusal}
use Rattle.es_event.specs.declared.command.Command.{Command}
use Rattle.es_event.specs.declared.command.Command.TheVariants.{SharedArrayBuffer, Length, SameBlock, Atomic, Post}
use Rattle.es_event.specs.declared.plan.AgentPlan.{AgentPlan}
use Rattle.es_event.specs.declared.plan.Callback.{Callback}
use Rattle.es_event.specs.declared.plan.Job.{Job}
use Rattle.es_event.specs.Commands.{reads, is_shared, opens_words}
use Rattle.es_event.specs.History.{History}
use Rattle.es_event.specs.Identities.{made}
use Rattle.es_event.specs.Jobs.{Receivers, receivers, job, stays_alone}
use Rattle.es_event.specs.Sharing.{Buffers}
use Rattle.es_event.specs.Rules.{refusal, completion}
use Rattle.es_event.specs.Legal.{HasWords, Lawful, values_of}
use Rattle.es_event.specs.Order.{Phase, ended, phase, left, Due, run, RunsNow, due_at, due}
use Rattle.es_event.specs.Follows.{Permits, Follows, done_for}
use Rattle.es_event.specs.Heard.{Heard, heard_by, silence}
use Rattle.es_event.specs.Runs.{ComesNext, heard, IsRunOver, IsWholeRunOver}
use Rattle.es_event.proofs.Coming.{Comes, begins_job, begins_handed, receives, skips, refuses_message, begins_cleanup, does, refuses, empties_dead, takes, ends, stops, finishes, finishes_stopped, closes, comes, of_done}
use Rattle.es_event.proofs.Left.{each_of, is_first, left_holds}
use Rattle.es_event.proofs.Next.{one_next}

-- What the plan says

record IsAlone (plan : AgentPlan) : Type 0 where
  jobs : (i : ℕ) (j : Job) → slice_get plan.jobs i ≡ Some j → (is_none j.on ≡ true) × (list_any is_shared j.run ≡ false)
  callbacks : (i : ℕ) (c : Callback) → slice_get plan.callbacks i ≡ Some c → list_any is_shared c.run ≡ false

is_alone : (plan : AgentPlan) → stays_alone plan ≡ true → IsAlone plan
is_alone plan e =
    let waits = and_parts (list_all (λ j. is_none j.on) plan.jobs) _ e in
    let runs = and_parts (list_all (λ j. not (list_any is_shared j.run)) plan.jobs) _ waits.1 in
    record {
      jobs = λ i j is. (each_of (λ j. is_none j.on) plan.jobs i j waits.0 is, not-true (list_any is_shared j.run) (each_of (λ j. not (list_any is_shared j.run)) plan.jobs i j runs.0 is));
      callbacks = λ i c is. not-true (list_any is_shared c.run) (each_of (λ c. not (list_any is_shared c.run)) plan.callbacks i c runs.1 is);
    }

-- No command is left that is one on buffers or messages

abbrev IsLocal : List Command → Type 0
IsLocal cs = list_any is_shared cs ≡ false

rest_local : (cs : List Command) → IsLocal cs → IsLocal (drop 1 cs)
rest_local [] e = refl
rest_local (c ∷ cs) e = (or_parts (is_shared c) (list_any is_shared cs) e).1

no_wait : (plan : AgentPlan) → IsAlone plan → (i : ℕ) (j : Job) → slice_get plan.jobs i ≡ Some j → is_some j.on ≡ true → ⊥
no_wait plan alone i j is on = waits_not j.on (alone.jobs i j is).0 on
  where
    waits_not : {A : Type 0} (o : Option A) → is_none o ≡ true → is_some o ≡ true → ⊥
    waits_not None e f = cc
    waits_not (Some x) e f = cc

left_local : (plan : AgentPlan) → IsAlone plan → (h : History) → IsLocal (left plan h)
left_local plan alone h = left_holds IsLocal plan (record { none = refl; rest = rest_local; jobs = λ i j is. (alone.jobs i j is).1; callbacks = alone.callbacks }) h

-- So an event that comes next is one of the agent alone

data IsOwn : Event → Type 0 where
  own_command : (c : Command) (vs : List Value) (r : Answer) → is_shared c ≡ false → IsOwn (Did (c, vs, r))
  own_refusal : (code : Refusal) → IsOwn (Refused code)
  own_other : (e : Event) → heard e ≡ silence → ((over other : Buffers) (into : Receivers) (h : History) → Lawful over into h e → Lawful other into h e) → IsOwn e

head_local : (plan : AgentPlan) (h : History) (c : Command) (cs : List Command) → left plan h ≡ c ∷ cs → IsLocal (left plan h) → is_shared c ≡ false
head_local plan h c cs is before = (or_parts (is_shared c) (list_any is_shared cs) (ap (list_any is_shared) (sym is) ∙ before)).0

own_next : (over : Buffers) (plan : AgentPlan) → IsAlone plan → (h : History) (at : Phase) (e : Event) → Comes over (receivers plan.jobs) plan h at e → IsLocal (left plan h) → IsOwn e
own_next over plan alone h at _ (begins_job k j b none is same) before = own_other (JobBegun k) refl (λ over other into h l. l)
own_next over plan alone h at _ (begins_handed k i same) before = own_other (JobBegun k) refl (λ over other into h l. l)
own_next over plan alone h at _ (receives j s v b none is on room) before = absurd (no_wait plan alone (job h - 1) j is on)
own_next over plan alone h at _ (skips k j s b none is on same) before = absurd (no_wait plan alone (job h - 1) j is on)
own_next over plan alone h at _ (refuses_message j code b none is on same) before = own_refusal code
own_next over plan alone h at _ (begins_cleanup r rs b is) before = own_other (CleanupBegun r) refl (λ over other into h l. l)
own_next over plan alone h at _ (does b d cs vs r i is by) before = own_command d vs r (of_done (λ d. is_shared d ≡ false) b d by (head_local plan h b cs is before) (λ x t. refl))
own_next over plan alone h at _ (refuses d cs code i is) before = own_refusal code
own_next over plan alone h at _ (empties_dead d cs ids i is co dead) before = own_other (Emptied ids) refl (λ over other into h l. l)
own_next over plan alone h at _ (takes m v i is next) before = own_other (Taken m v) refl (λ over other into h l. l)
own_next over plan alone h at _ (ends i is none shut) before = own_other JobEnded refl (λ over other into h l. l)
own_next over plan alone h at _ (finishes ids i is next fin) before = own_other (Emptied ids) refl (λ over other into h l. l)
own_next over plan alone h at _ (finishes_stopped ids s fin) before = own_other (Emptied ids) refl (λ over other into h l. l)
own_next over plan alone h at _ (stops s shut) before = own_other JobEnded refl (λ over other into h l. l)
own_next over plan alone h at _ (closes b none) before = own_other Closed refl (λ over other into h l. l)

own : (over : Buffers) (plan : AgentPlan) → IsAlone plan → (h : History) (e : Event) → Follows over plan h → Permits over (receivers plan.jobs) h (due plan h) e → IsOwn e
own over plan alone h e f p = own_next over plan alone h (phase h) e (comes over plan h e p) (left_local plan alone h)

silent_by : (c : Command) (r : Answer) → is_shared c ≡ false → heard_by c r ≡ silence
silent_by (Atomic a) r e = cc
silent_by _ r e = refl

silent : (e : Event) → IsOwn e → heard e ≡ silence
silent _ (own_command c vs r local) = silent_by c r local
silent _ (own_refusal code) = refl
silent _ (own_other e is l) = is

-- A command that is none on buffers or messages asks no table

pub local_completion : (over other : Buffers) (h : History) (c : Command) (vs : List Value) (v w : Heard) → is_shared c ≡ false → completion other h c vs v ≡ completion over h c vs w
local_completion over other h (SharedArrayBuffer to n) vs v w e = cc
local_completion over other h (Length to b) vs v w e = cc
local_completion over other h (SameBlock to b c) vs v w e = cc
local_completion over other h (Atomic a) vs v w e = cc
local_completion over other h (Post a y) vs v w e = cc
local_completion over other h _ vs v w e = refl

pub local_refusal : (over other : Buffers) (h : History) (c : Command) (vs : List Value) → is_shared c ≡ false → refusal other h c vs ≡ refusal over h c vs
local_refusal over other h (SharedArrayBuffer to n) vs e = cc
local_refusal over other h (Length to b) vs e = cc
local_refusal over other h (SameBlock to b c) vs e = cc
local_refusal over other h (Atomic a) vs e = cc
local_refusal over other h (Post a y) vs e = cc
local_refusal over other h _ vs e = refl

pub opens_none : (over : Buffers) (o : ℕ) (c : Command) → is_shared c ≡ false → HasWords over o (opens_words c)
opens_none over o (SharedArrayBuffer to n) e = cc
opens_none over o _ e = tt

lawful_too : (over other : Buffers) (into : Receivers) (h : History) (e : Event) → IsOwn e → Lawful over into h e → Lawful other into h e
lawful_too over other into h _ (own_command c vs r local) l = (l.0, local_completion over other h c vs (heard_by c r) (heard_by c r) local ∙ l.1, l.2, opens_none other (made h + 1) c local)
lawful_too over other into h _ (own_refusal code) l = tt
lawful_too over other into h _ (own_other e is too) l = too over other into h l

-- what is due is a command that is left
permits_too : (over other : Buffers) (into : Receivers) (h : History) (d : Due) (e : Event) → ((c : Command) → RunsNow d c → is_shared c ≡ false) → Permits over into h d e → Permits other into h d e
permits_too over other into h (run x c) (Did (d, vs, r)) local p = p ∙ ap (λ o. done_for o x c) (sym (local_refusal over other h c (values_of into h (reads c)) (local c (x, refl))))
permits_too over other into h (run x c) (Refused code) local p = (p.0, local_refusal over other h c (values_of into h (reads c)) (local c (x, refl)) ∙ p.1)
permits_too over other into h d e local p = p

due_local : (plan : AgentPlan) → IsAlone plan → (h : History) (c : Command) → RunsNow (due plan h) c → is_shared c ≡ false
due_local plan alone h c is =
    let first = is_first plan h is.0 c is.1 in
    head_local plan h c first.others first.is_left (left_local plan alone h)

-- for users of a plan's test

-- Over any other table

legal_too : (over other : Buffers) (plan : AgentPlan) → IsAlone plan → (h : History) → IsRunOver over plan h → IsRunOver other plan h
legal_too over other plan alone [] r = (tt, tt)
legal_too over other plan alone (e ∷ h) r =
    let before = legal_too over other plan alone h (r.0.1, r.1.1) in (
      (lawful_too over other (receivers plan.jobs) h e (own over plan alone h e r.1.1 r.1.0) r.0.0, before.0),
      (permits_too over other (receivers plan.jobs) h (due plan h) e (due_local plan alone h) r.1.0, before.1),
    )

whole_too : (over other : Buffers) (plan : AgentPlan) → IsAlone plan → (h : History) → IsWholeRunOver over plan h → IsWholeRunOver other plan h
whole_too over other plan alone h w = let run = legal_too over other plan alone h (w.0, w.1.0) in (run.0, (run.1, w.1.1))

-- One whole run

-- the event of a longer run that comes next after h
pub record Later (over : Buffers) (plan : AgentPlan) (h g : History) : Type 0 where
  pub next : Event
  pub rest : History
  pub is : g ≡ rest ++ (next ∷ h)
  pub comes : ComesNext over plan h next

later : (over : Buffers) (plan : AgentPlan) (h : History) (x : Event) (f : History) → IsRunOver over plan ((x ∷ f) ++ h) → Later over plan h ((x ∷ f) ++ h)
later over plan h x [] r = record { next = x; rest = []; is = refl; comes = (r.0.0, r.1.0) }
later over plan h x (y ∷ f) r =
    let l : Later over plan h ((y ∷ f) ++ h) = later over plan h y f (r.0.1, r.1.1) in
    record { next = l.next; rest = x ∷ l.rest; is = ap (λ g. x ∷ g) l.is; comes = l.comes }

one_more : (over : Buffers) (plan : AgentPlan) → IsAlone plan → (e : Event) (h g : History) → IsRunOver over plan (e ∷ h) → IsRunOver over plan g → length (e ∷ h) ≤ length g → (f : History) → g ≡ f ++ h
    → (f : History) × (g ≡ f ++ (e ∷ h))
one_more over plan alone e h g r s le [] is = let same : length g ≡ length h = ap length is in absurd (omega arith)
one_more over plan alone e h g r s le (x ∷ f) is =
    let l : Later over plan h ((x ∷ f) ++ h) = later over plan h x f (subst (IsRunOver over plan) is s) in
    let one : l.next ≡ e = one_next over plan h l.next e l.comes (r.0.0, r.1.0) (silent l.next (own over plan alone h l.next r.1.1 l.comes.1) ∙ sym (silent e (own over plan alone h e r.1.1 r.1.0))) in
    (l.rest, is ∙ (l.is ∙ ap (λ n. l.rest ++ (n ∷ h)) one))

-- of two runs the longer begins with the other
begins_with : (over : Buffers) (plan : AgentPlan) → IsAlone plan → (h g : History) → IsRunOver over plan h → IsRunOver over plan g → length h ≤ length g → (f : History) × (g ≡ f ++ h)
begins_with over plan alone [] g r s le = (g, sym (append-nil g))
begins_with over plan alone (e ∷ h) g r s le =
    let before = begins_with over plan alone h g (r.0.1, r.1.1) s (omega arith) in
    one_more over plan alone e h g r s le before.0 before.1

nothing_later : (over : Buffers) (plan : AgentPlan) (h : History) (e : Event) → phase h ≡ ended → ComesNext over plan h e → ⊥
nothing_later over plan h e end comes = subst (λ at. Permits over (receivers plan.jobs) h (due_at plan h at) e) end comes.1

same_whole : (over : Buffers) (plan : AgentPlan) (h g : History) → IsWholeRunOver over plan h → IsWholeRunOver over plan g → (f : History) → g ≡ f ++ h → g ≡ h
same_whole over plan h g a b [] is = is
same_whole over plan h g a b (x ∷ f) is =
    let l : Later over plan h ((x ∷ f) ++ h) = later over plan h x f (subst (IsRunOver over plan) is (b.0, b.1.0)) in
    absurd (nothing_later over plan h l.next a.1.1 l.comes)

one_whole : (over : Buffers) (plan : AgentPlan) → IsAlone plan → (h g : History) → IsWholeRunOver over plan h → IsWholeRunOver over plan g → h ≡ g
one_whole over plan alone h g a b =
    elim (cases_lt (length h) (length g)) [
      | inl less ↦ let front = begins_with over plan alone h g (a.0, a.1.0) (b.0, b.1.0) (omega arith) in sym (same_whole over plan h g a b front.0 front.1)
      | inr most ↦ let front = begins_with over plan alone g h (b.0, b.1.0) (a.0, a.1.0) most in same_whole over plan g h b a front.0 front.1
    ]

pub one_whole_run : (over other : Buffers) (plan : AgentPlan) (g h : History) → stays_alone plan ≡ true → IsWholeRunOver over plan g → IsWholeRunOver other plan h → g ≡ h
one_whole_run over other plan g h e a b = let alone = is_alone plan e in one_whole over plan alone g h a (whole_too other over plan alone h b)
