-- An agent that asks for a message, or for nothing, rests; each turn leaves less of an agent's work; and one that was at its cleanup queue
-- is still, or rests.
use Rattle.std.proofs.Common.{◌≡◌, ℕ, ◌<◌, Bool, true, false, cond, sym, ◌∙◌, ap, refl, List, [], ◌∷◌, Option, Some, None, ◌⊎◌, inl, inr}
use Rattle.es_event.specs.declared.command.Command.{Command}
use Rattle.es_event.specs.declared.event.Event.{Event}
use Rattle.es_event.specs.declared.event.Event.TheVariants.{Did, Emptied, Refused, Taken}
use Rattle.es_event.specs.declared.plan.AgentPlan.{AgentPlan}
use Rattle.es_event.specs.Later.{snapshot, collects_now}
use Rattle.es_event.specs.Follows.{Follows}
use Rattle.es_event.specs.History.{History}
use Rattle.es_event.specs.Jobs.{receivers, job, cleaning, callbacks_collect_nothing}
use Rattle.es_event.specs.Order.{Phase, between, handed, inside, stopped, ended, phase, left, catching, queue, due_at, due_end, due_job, due_between, due_inside, due_after, cleans_up, is_cleaning_up}
use Rattle.es_event.specs.Runs.{IsRunOver}
use Rattle.es_event.specs.Sharing.{Buffers}
use Rattle.es_event.proofs.Awaiting.{between_clean}
use Rattle.es_event.proofs.Coming.{Comes, begins_job, begins_handed, receives, skips, refuses_message, begins_cleanup, does, refuses, empties_dead, takes, ends, stops, finishes, finishes_stopped, closes, comes, next_cell}
use Rattle.es_event.proofs.Work.{plan_work, cleanup_work, cleanup_less, in_cleanup, not_due, not_handed, plan_less}
use Rattle.es_agent.specs.Tickets.{is_ended}
use Rattle.es_cluster.specs.Turned.{GrowsByOne}
use Rattle.es_record.specs.AgentView.{AgentView, with_row}
use Rattle.es_rules.specs.Needs.{Request, request, Need, asks_nobody, asks_marks, asks_copy, asks_late_marks, asks_ledger, asks_message, asks_closing, asks_nothing, ledger_or_nobody, opens_now, need_of, need}
use Rattle.es_cluster.specs.Moves.{is_between, rests}

-- Outside of all jobs

-- between two jobs, or at its end
abbrev pub is_outside : Phase → Bool
is_outside between = true
is_outside handed = false
is_outside inside = false
is_outside stopped = false
is_outside ended = true

inside_not : {P : Type 0} (h : History) (at : Phase) → phase h ≡ at → at ≡ inside → is_outside (phase h) ≡ true → P
inside_not h at here is out = let clash : false ≡ true = sym (ap is_outside (here ∙ is)) ∙ out in cc

newest_next : (over : Buffers) (plan : AgentPlan) (h : History) (at : Phase) (e : Event) → Comes over (receivers plan.jobs) plan h at e → phase h ≡ at → is_outside (phase (e ∷ h)) ≡ true → is_between (e ∷ h) ≡ true
newest_next over plan h at _ (begins_job k j b none is same) here out = cc
newest_next over plan h at _ (begins_handed k i same) here out = cc
newest_next over plan h at _ (receives j t v b none is on room) here out = cc
newest_next over plan h at _ (skips k j t b none is on same) here out = refl
newest_next over plan h at _ (refuses_message j code b none is on same) here out = cc
newest_next over plan h at _ (begins_cleanup r rs b is) here out = cc
newest_next over plan h at _ (does b d cs vs a i is by) here out = inside_not h at here i out
newest_next over plan h at _ (refuses d cs code i is) here out = cc
newest_next over plan h at _ (empties_dead d cs ids i is co dead) here out = inside_not h at here i out
newest_next over plan h at _ (takes n v i is next) here out = inside_not h at here i out
newest_next over plan h at _ (ends i is none shut) here out = refl
newest_next over plan h at _ (stops s shut) here out = refl
newest_next over plan h at _ (finishes ids i is none f) here out = inside_not h at here i out
newest_next over plan h at _ (finishes_stopped ids s f) here out = let clash : false ≡ true = sym (ap is_outside (here ∙ s)) ∙ out in cc
newest_next over plan h at _ (closes b none) here out = refl

newest : (over : Buffers) (plan : AgentPlan) (h : History) → Follows over plan h → is_outside (phase h) ≡ true → is_between h ≡ true
newest over plan [] follows out = refl
newest over plan (e ∷ h) follows out = newest_next over plan h (phase h) e (comes over plan h e follows.0) refl out

-- an agent that has closed cleans nothing up
clean_next : (over : Buffers) (plan : AgentPlan) (h : History) (at : Phase) (e : Event) → Comes over (receivers plan.jobs) plan h at e → phase h ≡ at → phase (e ∷ h) ≡ ended → cleaning (e ∷ h) ≡ None
clean_next over plan h at _ (begins_job k j b none is same) here e = cc
clean_next over plan h at _ (begins_handed k i same) here e = cc
clean_next over plan h at _ (receives j t v b none is on room) here e = cc
clean_next over plan h at _ (skips k j t b none is on same) here e = let f : between ≡ ended = sym (here ∙ b) ∙ e in cc
clean_next over plan h at _ (refuses_message j code b none is on same) here e = cc
clean_next over plan h at _ (begins_cleanup r rs b is) here e = cc
clean_next over plan h at _ (does b d cs vs a i is by) here e = let f : inside ≡ ended = sym (here ∙ i) ∙ e in cc
clean_next over plan h at _ (refuses d cs code i is) here e = cc
clean_next over plan h at _ (empties_dead d cs ids i is co dead) here e = let f : inside ≡ ended = sym (here ∙ i) ∙ e in cc
clean_next over plan h at _ (takes n v i is next) here e = let f : inside ≡ ended = sym (here ∙ i) ∙ e in cc
clean_next over plan h at _ (ends i is none shut) here e = refl
clean_next over plan h at _ (stops s shut) here e = refl
clean_next over plan h at _ (finishes ids i is none f) here e = let g : inside ≡ ended = sym (here ∙ i) ∙ e in cc
clean_next over plan h at _ (finishes_stopped ids s f) here e = let g : stopped ≡ ended = sym (here ∙ s) ∙ e in cc
clean_next over plan h at _ (closes b none) here e = between_clean h (here ∙ b)

ended_clean : (over : Buffers) (plan : AgentPlan) (h : History) → Follows over plan h → phase h ≡ ended → cleaning h ≡ None
ended_clean over plan [] follows e = refl
ended_clean over plan (x ∷ h) follows e = clean_next over plan h (phase h) x (comes over plan h x follows.0) refl e

-- An agent that asks for a message, or for nothing

abbrev pub is_idle : Need → Bool
is_idle asks_nobody = false
is_idle asks_marks = false
is_idle asks_copy = false
is_idle asks_late_marks = false
is_idle (asks_ledger r) = false
is_idle (asks_message s) = true
is_idle asks_closing = false
is_idle asks_nothing = true

idle_command : {P : Type 0} (collects opens : Bool) (q : Option Request) → is_idle (cond collects asks_marks (cond opens asks_copy (ledger_or_nobody q))) ≡ true → P
idle_command true opens q idle = cc
idle_command false true q idle = cc
idle_command false false None idle = cc
idle_command false false (Some r) idle = cc

idle_end : {P : Type 0} (b : AgentView) (o : Option History) → is_idle (need_of b (due_end o)) ≡ true → P
idle_end b None idle = cc
idle_end b (Some p) idle = cc

idle_after : {P : Type 0} (b : AgentView) (h : History) (o : Option ℕ) → is_idle (need_of b (due_after h o)) ≡ true → P
idle_after b h None idle = idle_end b (snapshot h) idle
idle_after b h (Some n) idle = cc

idle_inside : {P : Type 0} (b : AgentView) (h : History) (x : Option (List ℕ)) (cs : List Command) → is_idle (need_of b (due_inside h x cs)) ≡ true → P
idle_inside b h x [] idle = idle_after b h (next_cell h) idle
idle_inside b h x (c ∷ cs) idle = idle_command (collects_now b.history c) (opens_now b.history c) (request b c) idle

resting : (h : History) (at : Phase) (q : List ℕ) → phase h ≡ at → queue h ≡ q → is_outside at ≡ true → is_between h ≡ true → cleans_up None at q ≡ false → cleaning h ≡ None → (b : AgentView) → b.history ≡ h → rests b ≡ true
resting h at q here queued out newest none clean b is = rw (is, newest, here, queued, clean, none) refl

idle_between : (b : AgentView) (q : List ℕ) → IsRunOver b.over b.plan b.history → phase b.history ≡ between → queue b.history ≡ q → is_idle (need_of b (due_between b.plan b.history q)) ≡ true → rests b ≡ true
idle_between b [] run here queued idle =
    resting b.history between [] here queued refl (newest b.over b.plan b.history run.1 (ap is_outside here)) refl (between_clean b.history here) b refl
idle_between b (r ∷ rs) run here queued idle = cc

idle_at : (b : AgentView) (at : Phase) → IsRunOver b.over b.plan b.history → phase b.history ≡ at → is_idle (need_of b (due_at b.plan b.history at)) ≡ true → rests b ≡ true
idle_at b between run here idle = idle_between b (queue b.history) run here refl idle
idle_at b handed run here idle = cc
idle_at b inside run here idle = idle_inside b b.history (catching b.plan b.history) (left b.plan b.history) idle
idle_at b stopped run here idle = idle_end b (snapshot b.history) idle
idle_at b ended run here idle =
    resting b.history ended (queue b.history) here refl refl (newest b.over b.plan b.history run.1 (ap is_outside here)) refl (ended_clean b.over b.plan b.history run.1 here) b refl

-- it rests
pub idle_rests : (b : AgentView) → IsRunOver b.over b.plan b.history → is_idle (need b) ≡ true → rests b ≡ true
idle_rests b run idle = idle_at b (phase b.history) run refl idle

-- one that asks for nothing has ended

job_asks : {P : Type 0} (b : AgentView) (n : ℕ) (o : Option (Option (ℕ × List ℕ))) → need_of b (due_job n o) ≡ asks_nothing → P
job_asks b n None is = cc
job_asks b n (Some None) is = cc
job_asks b n (Some (Some on)) is = cc

between_asks : {P : Type 0} (b : AgentView) (q : List ℕ) → need_of b (due_between b.plan b.history q) ≡ asks_nothing → P
between_asks b [] is = job_asks b (job b.history) _ is
between_asks b (r ∷ rs) is = cc

nothing_at : (b : AgentView) (at : Phase) → need_of b (due_at b.plan b.history at) ≡ asks_nothing → is_ended at ≡ true
nothing_at b between is = between_asks b (queue b.history) is
nothing_at b handed is = cc
nothing_at b inside is = idle_inside b b.history (catching b.plan b.history) (left b.plan b.history) (ap is_idle is)
nothing_at b stopped is = idle_end b (snapshot b.history) (ap is_idle is)
nothing_at b ended is = refl

pub nothing_over : (b : AgentView) → need b ≡ asks_nothing → is_ended (phase b.history) ≡ true
nothing_over b is = nothing_at b (phase b.history) is

-- A turn leaves less

pub less_cleaning : (old new : AgentView) → callbacks_collect_nothing old.plan ≡ true → IsRunOver old.over old.plan old.history → is_cleaning_up old.history ≡ true → GrowsByOne old new
    → (plan_work new.plan new.history ≡ plan_work old.plan old.history) × (cleanup_work new.plan new.history < cleanup_work old.plan old.history)
less_cleaning old new quiet run up step =
    let less = cleanup_less old.over (with_row step.1 old).over old.plan old.history step.0 quiet run.0 run.1 up (step.2.lawful, step.2.permitted) in
    rw step.3 (less.1, less.0)

pub less_next : (old new : AgentView) → IsRunOver old.over old.plan old.history → is_cleaning_up old.history ≡ false → GrowsByOne old new → plan_work new.plan new.history < plan_work old.plan old.history
less_next old new run still step = rw step.3 (plan_less old.over (with_row step.1 old).over old.plan old.history step.0 run.1 still (step.2.lawful, step.2.permitted))

-- One that was at its cleanup queue is still, or rests

kept_cleaning : (h : History) (e : Event) (at : Phase) → is_cleaning_up h ≡ true → phase h ≡ at → (at ≡ between → ⊥) → cleaning (e ∷ h) ≡ cleaning h → is_cleaning_up (e ∷ h) ≡ true
kept_cleaning h e at up here busy same = let clean = in_cleanup h at up here busy in ap (λ o. cleans_up o (phase (e ∷ h)) (queue (e ∷ h))) (same ∙ clean.1)

sweep_next : (over other : Buffers) (plan : AgentPlan) (h : History) (at : Phase) (e : Event) → Comes other (receivers plan.jobs) plan h at e → phase h ≡ at → Follows over plan h → is_cleaning_up h ≡ true → (is_cleaning_up (e ∷ h) ≡ true) ⊎ (is_between (e ∷ h) ≡ true)
sweep_next over other plan h at _ (begins_job k j b none is same) here f up = absurd (not_due h (here ∙ b) none up)
sweep_next over other plan h at _ (begins_handed k i same) here f up = absurd (not_handed over plan h f (here ∙ i) up)
sweep_next over other plan h at _ (receives j s v b none is on room) here f up = absurd (not_due h (here ∙ b) none up)
sweep_next over other plan h at _ (skips k j s b none is on same) here f up = absurd (not_due h (here ∙ b) none up)
sweep_next over other plan h at _ (refuses_message j code b none is on same) here f up = absurd (not_due h (here ∙ b) none up)
sweep_next over other plan h at _ (begins_cleanup r rs b is) here f up = inl refl
sweep_next over other plan h at _ (does b c cs vs a i is by) here f up = inl (kept_cleaning h (Did (c, vs, a)) inside up (here ∙ i) (λ e. cc) refl)
sweep_next over other plan h at _ (refuses c cs code i is) here f up = inl (kept_cleaning h (Refused code) inside up (here ∙ i) (λ e. cc) refl)
sweep_next over other plan h at _ (empties_dead c cs ids i is co dead) here f up = inl (kept_cleaning h (Emptied ids) inside up (here ∙ i) (λ e. cc) refl)
sweep_next over other plan h at _ (takes n v i is next) here f up = inl (kept_cleaning h (Taken n v) inside up (here ∙ i) (λ e. cc) refl)
sweep_next over other plan h at _ (ends i is none shut) here f up = inr refl
sweep_next over other plan h at _ (stops s shut) here f up = inr refl
sweep_next over other plan h at _ (finishes ids i is none fin) here f up = inl (kept_cleaning h (Emptied ids) inside up (here ∙ i) (λ e. cc) refl)
sweep_next over other plan h at _ (finishes_stopped ids s fin) here f up = inl (kept_cleaning h (Emptied ids) stopped up (here ∙ s) (λ e. cc) refl)
sweep_next over other plan h at _ (closes b none) here f up = absurd (not_due h (here ∙ b) none up)

pub sweeps : (old new : AgentView) → IsRunOver old.over old.plan old.history → is_cleaning_up old.history ≡ true → GrowsByOne old new → (is_cleaning_up new.history ≡ true) ⊎ (rests new ≡ true)
sweeps old new run up step = by (is_cleaning_up new.history) refl
  where
    e : Event
    e = step.0

    next : (is_cleaning_up (e ∷ old.history) ≡ true) ⊎ (is_between (e ∷ old.history) ≡ true)
    next = sweep_next old.over (with_row step.1 old).over old.plan old.history (phase old.history) e (comes (with_row step.1 old).over old.plan old.history e step.2.permitted) refl run.1 up

    grown : new.history ≡ e ∷ old.history
    grown = ap (λ b. b.history) step.3

    by : (c : Bool) → is_cleaning_up new.history ≡ c → (is_cleaning_up new.history ≡ true) ⊎ (rests new ≡ true)
    by true c = inl c
    by false c = elim next [
      | inl again ↦ (let clash : true ≡ false = sym again ∙ ap is_cleaning_up (sym grown) ∙ c in cc)
      | inr over ↦ inr (rw (ap is_between grown ∙ over, c) refl)
    ]
