-- In a run each registration that awaits its cleanup is of a registry that is queued, or that is being cleaned.
use Rattle.std.proofs.Common.{◌≡◌, ℕ, ◌-◌, ◌<◌, ◌≤◌, ◌==◌, ◌&&◌, not, Bool, true, false, cond, sym, ◌∙◌, ap, refl, subst, arith, List, [], ◌∷◌, ◌++◌, drop, Option, Some, None, ◌⊎◌, inl, inr}
use Rattle.std.specs.Prelude.{is_some, slice_get}
use Rattle.std.specs.List.{filter, range_with_len}
use Rattle.std.specs.Option.{option_map_or, option_and_then, option_to_list}
use Rattle.std.proofs.lemmas.Bool.{and_parts, cases_Bool, eqb-true, eq-eqb, false≢true, and_from, or_cases, or_left, or_right}
use Rattle.es_event.specs.declared.event.Event.{Event}
use Rattle.es_event.specs.declared.event.Event.TheVariants.{JobBegun, CleanupBegun, Received, Did, Refused, Emptied, Taken, JobEnded, Skipped, Closed}
use Rattle.es_event.specs.declared.plan.AgentPlan.{AgentPlan}
use Rattle.es_event.specs.declared.plan.Job.{Job}
use Rattle.es_event.specs.Commands.{second, reads}
use Rattle.es_event.specs.History.{History}
use Rattle.es_event.specs.Identities.{is_in, made, is_gone, empties}
use Rattle.es_event.specs.Jobs.{Receivers, receivers, job, cleaning}
use Rattle.es_event.specs.Registrations.{Cell, Fate, registers, registered, cell, live, awaiting, same_fate, fate, is_of, registrations, first_awaiting, tally}
use Rattle.es_event.specs.Sharing.{Buffers}
use Rattle.es_event.specs.Legal.{Lawful, LegalBy}
use Rattle.es_event.specs.Order.{Phase, between, handed, inside, stopped, ended, phase, loses, queues, is_stopped, queues_again, queue}
use Rattle.es_event.specs.Follows.{Follows}
use Rattle.es_event.specs.Runs.{IsWholeRunOver}
use Rattle.es_event.proofs.Alive.{Alive, alive_at, stays_along}
use Rattle.es_event.proofs.Cells.{made_by, cell_within, fate_emptied}
use Rattle.es_event.proofs.Coming.{next_cell, Comes, begins_job, begins_handed, receives, skips, refuses_message, begins_cleanup, does, refuses, empties_dead, takes, ends, stops, finishes, finishes_stopped, closes, comes}
use Rattle.es_event.proofs.Counting.{is_found, any_from}
use Rattle.es_event.proofs.Fates.{same_from, Awaits, awaited, AwaitedBefore, none_awaits}
use Rattle.es_event.proofs.Holds.{second_of}
use Rattle.es_event.proofs.Lists.{in_both}
use Rattle.es_event.proofs.Registries.{registry_within}
use Rattle.es_event.proofs.Rising.{in_filter, in_numbers}

-- What is registered

-- the target of what is registered is not emptied then, over whatever table the event is lawful
fresh_alive : (over other : Buffers) (plan : AgentPlan) (e : Event) (h : History) → Lawful other (receivers plan.jobs) h e → LegalBy over (receivers plan.jobs) h → Follows over plan h
    → (d : Cell) → registers e ≡ Some d → is_gone h d.target ≡ false
fresh_alive over other plan (Did (c, vs, r)) h now l f d is =
    let read : Alive h (second vs) = subst (Alive h) (ap second (sym now.0)) (second_of (Alive h) (receivers plan.jobs) h (reads c) (stays_along over plan h l f).held) in
    alive_at h (second vs) d.target read (made_by c vs r d is).target
fresh_alive over other plan _ h now l f d is = cc

-- only an emptying makes a registration await its cleanup
pub awaited_before : (over other : Buffers) (plan : AgentPlan) (e : Event) (h : History) → Lawful other (receivers plan.jobs) h e → LegalBy over (receivers plan.jobs) h → Follows over plan h
    → empties e ≡ [] → AwaitedBefore e h
awaited_before over other plan e h now l f none n c a = awaited e h n c (ap (λ ids. is_in ids c.target) none) (fresh_alive over other plan e h now l f) a

-- Where the agent is

-- between two jobs no cleanup job runs
pub between_clean : (h : History) → phase h ≡ between → cleaning h ≡ None
between_clean [] e = refl
between_clean (JobBegun j ∷ h) e = cc
between_clean (CleanupBegun q ∷ h) e = cc
between_clean (Received t v ∷ h) e = cc
between_clean (Did (c, vs, r) ∷ h) e = between_clean h e
between_clean (Refused code ∷ h) e = cc
between_clean (Emptied ids ∷ h) e = between_clean h e
between_clean (Taken n held ∷ h) e = between_clean h e
between_clean (JobEnded ∷ h) e = refl
between_clean (Skipped j t ∷ h) e = between_clean h e
between_clean (Closed ∷ h) e = cc

-- before a job whose message it was handed there is that job, and no cleanup job is queued or runs
pub record Handed (plan : AgentPlan) (h : History) : Type 0 where
  pub job_there : (j : Job) × (slice_get plan.jobs (job h - 1) ≡ Some j)
  pub none_queued : queue h ≡ []
  pub clean : cleaning h ≡ None

handed_next : (over : Buffers) (plan : AgentPlan) (h : History) (at : Phase) (e : Event) → Comes over (receivers plan.jobs) plan h at e → phase h ≡ at → phase (e ∷ h) ≡ handed → Handed plan (e ∷ h)
handed_next over plan h at _ (begins_job k j b none is same) here end = cc
handed_next over plan h at _ (begins_handed k i same) here end = cc
handed_next over plan h at _ (receives j s v b none is on room) here end =
    let same : job (Received s v ∷ h) ≡ job h = omega arith in
    record { job_there = (j, ap (λ n. slice_get plan.jobs (n - 1)) same ∙ is); none_queued = none; clean = between_clean h (here ∙ b) }
handed_next over plan h at _ (skips k j s b none is on same) here end = let now : between ≡ handed = sym (here ∙ b) ∙ end in cc
handed_next over plan h at _ (refuses_message j code b none is on same) here end = cc
handed_next over plan h at _ (begins_cleanup r rs b is) here end = cc
handed_next over plan h at _ (does b d cs vs r i is by) here end = let now : inside ≡ handed = sym (here ∙ i) ∙ end in cc
handed_next over plan h at _ (refuses d cs code i is) here end = cc
handed_next over plan h at _ (empties_dead d cs ids i is co dead) here end = let now : inside ≡ handed = sym (here ∙ i) ∙ end in cc
handed_next over plan h at _ (takes m v i is next) here end = let now : inside ≡ handed = sym (here ∙ i) ∙ end in cc
handed_next over plan h at _ (ends i is none shut) here end = cc
handed_next over plan h at _ (finishes ids i is none fin) here end = let now : inside ≡ handed = sym (here ∙ i) ∙ end in cc
handed_next over plan h at _ (finishes_stopped ids s fin) here end = let now : stopped ≡ handed = sym (here ∙ s) ∙ end in cc
handed_next over plan h at _ (stops s shut) here end = cc
handed_next over plan h at _ (closes b none) here end = cc

pub handed_at : (over : Buffers) (plan : AgentPlan) (h : History) → Follows over plan h → phase h ≡ handed → Handed plan h
handed_at over plan [] f end = cc
handed_at over plan (e ∷ h) f end = handed_next over plan h (phase h) e (comes over plan h e f.0) refl end

-- Served

-- the registry is queued, or is being cleaned
abbrev IsServed : History → ℕ → Type 0
IsServed h r = (is_in (queue h) r ≡ true) ⊎ (cleaning h ≡ Some r)

abbrev Served : History → Type 0
Served h = (n : ℕ) (c : Cell) → Awaits h n c → IsServed h c.registry

served_begun : (r : ℕ) (rs : List ℕ) (h : History) (q : ℕ) → phase h ≡ between → queue h ≡ r ∷ rs → IsServed h q → IsServed (CleanupBegun r ∷ h) q
served_begun r rs h q at is (inl m) =
    elim (or_cases (r == q) (is_in rs q) (subst (λ queue. is_in queue q ≡ true) is m)) [
      | inl s ↦ inr (ap Some (eqb-true r q s))
      | inr t ↦ inl (subst (λ queue. is_in (drop 1 queue) q ≡ true) (sym is) t)
    ]
served_begun r rs h q at is (inr c) = let none : cleaning h ≡ None = between_clean h at in cc

-- An emptying

still_served : (ids : List ℕ) (h : History) (q : ℕ) → IsServed h q → IsServed (Emptied ids ∷ h) q
still_served ids h q (inl m) = inl (in_both (queue h) (queues h ids (queue h)) q ∙ or_left (is_in (queue h) q) (is_in (queues h ids (queue h)) q) m)
still_served ids h q (inr c) = inr c

is_of_cell : (h : History) (n : ℕ) (c : Cell) → cell h n ≡ Some c → option_map_or (λ d. d.registry == c.registry) (cell h n) false ≡ true
is_of_cell h n c is = ap (λ o. option_map_or (λ d. d.registry == c.registry) o false) is ∙ eq-eqb c.registry c.registry refl

it_loses : (h : History) (ids : List ℕ) (n : ℕ) (c : Cell) → cell h n ≡ Some c → same_fate (fate h n) live ≡ true → is_in ids c.target ≡ true → loses h ids c.registry ≡ true
it_loses h ids n c is alive m =
    let within = cell_within h n c is in
    let of_registry : is_of h c.registry live n ≡ true =
    and_from (option_map_or (λ d. d.registry == c.registry) (cell h n) false) (same_fate (fate h n) live) (is_of_cell h n c is) alive in
    let emptied : option_map_or (λ c. is_in ids c.target) (cell h n) false ≡ true = ap (λ o. option_map_or (λ c. is_in ids c.target) o false) is ∙ m in
    any_from (λ n. is_of h c.registry live n && option_map_or (λ c. is_in ids c.target) (cell h n) false) (registrations h) n
    (in_numbers 1 (registered h) n (omega (arith, within.0)) (omega (arith, within.1)))
    (and_from (is_of h c.registry live n) (option_map_or (λ c. is_in ids c.target) (cell h n) false) of_registry emptied)

now_queued : (h : History) (ids : List ℕ) (r : ℕ) → (0 < r) × (r ≤ made h) → loses h ids r ≡ true → is_in (queue h ++ queues h ids (queue h)) r ≡ true
now_queued h ids r within lost =
    elim (cases_Bool (is_in (queue h) r)) [
      | inl queued ↦ in_both (queue h) (queues h ids (queue h)) r ∙ or_left (is_in (queue h) r) (is_in (queues h ids (queue h)) r) queued
      | inr not_yet ↦
          let passes : (loses h ids r && not (is_in (queue h) r)) ≡ true = and_from (loses h ids r) (not (is_in (queue h) r)) lost (ap not not_yet) in
          let added : is_in (queues h ids (queue h)) r ≡ true =
          in_filter (λ r. loses h ids r && not (is_in (queue h) r)) (range_with_len 1 (made h)) r
          ∙ and_from (loses h ids r && not (is_in (queue h) r)) (is_in (range_with_len 1 (made h)) r) passes (in_numbers 1 (made h) r (omega (arith, within.0)) (omega (arith, within.1))) in
          in_both (queue h) (queues h ids (queue h)) r ∙ or_right (is_in (queue h) r) (is_in (queues h ids (queue h)) r) added
    ]

became : (b : Bool) (f : Fate) → cond b awaiting f ≡ awaiting → (b ≡ true) ⊎ (f ≡ awaiting)
became true f e = inl refl
became false f e = inr e

served_emptied : (over : Buffers) (into : Receivers) (ids : List ℕ) (h : History) → LegalBy over into h → Served h → Served (Emptied ids ∷ h)
served_emptied over into ids h l served n c a =
    elim (became (same_fate (fate h n) live && is_in ids c.target) (fate h n) (sym (fate_emptied ids h n c a.is) ∙ a.waits)) [
      | inl now ↦
          let parts = and_parts (same_fate (fate h n) live) (is_in ids c.target) now in
          inl (now_queued h ids c.registry (registry_within over into h l n c a.is) (it_loses h ids n c a.is parts.0 parts.1))
      | inr before ↦ still_served ids h c.registry (served n c (record { is = a.is; waits = before }))
    ]

-- The end of a job

awaiting_found : (h : History) (n : ℕ) (c : Cell) → Awaits h n c → is_some (first_awaiting h c.registry) ≡ true
awaiting_found h n c a =
    let within = cell_within h n c a.is in
    is_found (is_of h c.registry awaiting) (registrations h) n (in_numbers 1 (registered h) n (omega (arith, within.0)) (omega (arith, within.1)))
    (and_from (option_map_or (λ d. d.registry == c.registry) (cell h n) false) (same_fate (fate h n) awaiting) (is_of_cell h n c a.is) (same_from (fate h n) a.waits))

stays_queued : (h : History) (r : ℕ) → is_in (queue h) r ≡ true → is_in (queue h ++ queues_again h) r ≡ true
stays_queued h r m = in_both (queue h) (queues_again h) r ∙ or_left (is_in (queue h) r) (is_in (queues_again h) r) m

served_ended : (h : History) → next_cell h ≡ None → Served h → Served (JobEnded ∷ h)
served_ended h none served n c a =
    let was : Awaits h n c = awaited JobEnded h n c refl (λ d e. cc) a in
    elim (served n c was) [
      | inl m ↦ inl (stays_queued h c.registry m)
      | inr cleaned ↦
          let first : first_awaiting h c.registry ≡ None = ap (option_and_then (first_awaiting h)) (sym cleaned) ∙ none in
          absurd (false≢true (sym (ap is_some first) ∙ awaiting_found h n c was))
    ]

queued_again : (h : History) (r : ℕ) → phase h ≡ stopped → cleaning h ≡ Some r → is_some (first_awaiting h r) ≡ true → is_in (queues_again h) r ≡ true
queued_again h r at cleaned waits =
    let p : ℕ → Bool = λ r. is_some (first_awaiting h r) in
    ap (λ s. is_in (cond (is_stopped s) (filter p (option_to_list (cleaning h))) []) r) at
    ∙ (ap (λ o. is_in (filter p (option_to_list o)) r) cleaned ∙ (in_filter p (r ∷ []) r ∙ and_from (p r) (is_in (r ∷ []) r) waits (or_left (r == r) false (eq-eqb r r refl))))

served_stopped : (h : History) → phase h ≡ stopped → Served h → Served (JobEnded ∷ h)
served_stopped h at served n c a =
    let was : Awaits h n c = awaited JobEnded h n c refl (λ d e. cc) a in
    elim (served n c was) [
      | inl m ↦ inl (stays_queued h c.registry m)
      | inr cleaned ↦
          inl (in_both (queue h) (queues_again h) c.registry
          ∙ or_right (is_in (queue h) c.registry) (is_in (queues_again h) c.registry) (queued_again h c.registry at cleaned (awaiting_found h n c was)))
    ]

-- All along

served_next : (over : Buffers) (plan : AgentPlan) (h : History) (at : Phase) (e : Event) → Comes over (receivers plan.jobs) plan h at e → phase h ≡ at
    → LegalBy over (receivers plan.jobs) (e ∷ h) → Follows over plan h → Served h → Served (e ∷ h)
served_next over plan h at _ (begins_job k j b none is same) here l f served n c a = served n c (awaited_before over over plan (JobBegun k) h l.0 l.1 f refl n c a)
served_next over plan h at _ (begins_handed k i same) here l f served n c a = served n c (awaited_before over over plan (JobBegun k) h l.0 l.1 f refl n c a)
served_next over plan h at _ (receives j s v b none is on room) here l f served n c a = served n c (awaited_before over over plan (Received s v) h l.0 l.1 f refl n c a)
served_next over plan h at _ (skips k j s b none is on same) here l f served n c a = served n c (awaited_before over over plan (Skipped k s) h l.0 l.1 f refl n c a)
served_next over plan h at _ (refuses_message j code b none is on same) here l f served n c a = served n c (awaited_before over over plan (Refused code) h l.0 l.1 f refl n c a)
served_next over plan h at _ (begins_cleanup r rs b is) here l f served n c a = served_begun r rs h c.registry (here ∙ b) is (served n c (awaited_before over over plan (CleanupBegun r) h l.0 l.1 f refl n c a))
served_next over plan h at _ (does b d cs vs r i is by) here l f served n c a = served n c (awaited_before over over plan (Did (d, vs, r)) h l.0 l.1 f refl n c a)
served_next over plan h at _ (refuses d cs code i is) here l f served n c a = served n c (awaited_before over over plan (Refused code) h l.0 l.1 f refl n c a)
served_next over plan h at _ (empties_dead d cs ids i is co dead) here l f served n c a = served_emptied over (receivers plan.jobs) ids h l.1 served n c a
served_next over plan h at _ (takes m v i is next) here l f served n c a = served n c (awaited_before over over plan (Taken m v) h l.0 l.1 f refl n c a)
served_next over plan h at _ (ends i is none shut) here l f served n c a = served_ended h none served n c a
served_next over plan h at _ (finishes ids i is none fin) here l f served n c a = served_emptied over (receivers plan.jobs) ids h l.1 served n c a
served_next over plan h at _ (finishes_stopped ids s fin) here l f served n c a = served_emptied over (receivers plan.jobs) ids h l.1 served n c a
served_next over plan h at _ (stops s shut) here l f served n c a = served_stopped h (here ∙ s) served n c a
served_next over plan h at _ (closes b none) here l f served n c a = served n c (awaited_before over over plan Closed h l.0 l.1 f refl n c a)

nothing_made : (c : Cell) → ◌≡◌ {A = Option Cell} None (Some c) → ⊥
nothing_made c e = cc

served_along : (over : Buffers) (plan : AgentPlan) (h : History) → LegalBy over (receivers plan.jobs) h → Follows over plan h → Served h
served_along over plan [] l f n c a = absurd (nothing_made c a.is)
served_along over plan (e ∷ h) l f n c a = served_next over plan h (phase h) e (comes over plan h e f.0) refl l f.1 (served_along over plan h l.1 f.1) n c a

-- No cleanup is lost

closed_next : (over : Buffers) (plan : AgentPlan) (h : History) (at : Phase) (e : Event) → Comes over (receivers plan.jobs) plan h at e → phase h ≡ at → phase (e ∷ h) ≡ ended
    → (queue (e ∷ h) ≡ []) × (cleaning (e ∷ h) ≡ None)
closed_next over plan h at _ (begins_job k j b none is same) here end = cc
closed_next over plan h at _ (begins_handed k i same) here end = cc
closed_next over plan h at _ (receives j s v b none is on room) here end = cc
closed_next over plan h at _ (skips k j s b none is on same) here end = cc
closed_next over plan h at _ (refuses_message j code b none is on same) here end = cc
closed_next over plan h at _ (begins_cleanup r rs b is) here end = cc
closed_next over plan h at _ (does b d cs vs r i is by) here end = cc
closed_next over plan h at _ (refuses d cs code i is) here end = cc
closed_next over plan h at _ (empties_dead d cs ids i is co dead) here end = cc
closed_next over plan h at _ (takes m v i is next) here end = cc
closed_next over plan h at _ (ends i is none shut) here end = cc
closed_next over plan h at _ (finishes ids i is none fin) here end = cc
closed_next over plan h at _ (finishes_stopped ids s fin) here end = cc
closed_next over plan h at _ (stops s shut) here end = cc
closed_next over plan h at _ (closes b none) here end = (none, between_clean h (here ∙ b))

closed_at : (over : Buffers) (plan : AgentPlan) (h : History) → Follows over plan h → phase h ≡ ended → (queue h ≡ []) × (cleaning h ≡ None)
closed_at over plan [] f end = cc
closed_at over plan (e ∷ h) f end = closed_next over plan h (phase h) e (comes over plan h e f.0) refl end

unserved : (h : History) (r : ℕ) → queue h ≡ [] → cleaning h ≡ None → IsServed h r → ⊥
unserved h r none clean (inl m) = false≢true (ap (λ q. is_in q r) (sym none) ∙ m)
unserved h r none clean (inr c) = cc

pub none_lost : (over : Buffers) (plan : AgentPlan) (h : History) → IsWholeRunOver over plan h → tally h awaiting ≡ 0
none_lost over plan h run =
    let end = closed_at over plan h run.1.0 run.1.1 in
    none_awaits h (λ n c a. unserved h c.registry end.0 end.1 (served_along over plan h run.0 run.1.0 n c a))
