-- How much work is left to an agent, in the jobs of its plan and on the cleanup queue; and that each event leaves less.
use Rattle.std.proofs.Common.{◌≡◌, ℕ, zero, suc, ◌+◌, ◌-◌, ◌*◌, ◌<◌, ◌≤◌, not, Bool, true, false, cond, sym, ◌∙◌, ap, refl, subst, arith, List, [], ◌∷◌, drop, length, length-append, Option, Some, None}
use Rattle.std.specs.Prelude.{unwrap_or, slice_get, is_some, is_none}
use Rattle.std.specs.List.{list_all, list_any, filter}
use Rattle.std.specs.Option.{option_map_or, option_and_then, option_to_list}
use Rattle.std.proofs.lemmas.Bool.{and_parts, or_parts, not-true, false≢true}
use Rattle.std.proofs.lemmas.Nat.{mul-le, row_fits}
use Rattle.std.proofs.lemmas.Option.{slice_get_within, get_or_from_slice_get}
use Rattle.std.proofs.Math.Seq.{drop-cons}
use Rattle.es_value.specs.declared.value.Value.{Value}
use Rattle.es_event.specs.declared.event.Answer.{Answer}
use Rattle.es_event.specs.declared.event.Event.{Event}
use Rattle.es_event.specs.declared.event.Event.TheVariants.{JobBegun, CleanupBegun, Received, Did, Refused, Emptied, Taken, JobEnded, Skipped, Closed}
use Rattle.es_event.specs.declared.event.Refusal.{Refusal}
use Rattle.es_event.specs.declared.command.Command.{Command}
use Rattle.es_event.specs.declared.plan.AgentPlan.{AgentPlan}
use Rattle.es_event.specs.declared.plan.Callback.{Callback}
use Rattle.es_event.specs.declared.plan.Job.{Job}
use Rattle.es_event.specs.Commands.{collects, opens_or_collects}
use Rattle.es_event.specs.declared.command.Command.TheVariants.{Collect, CollectLater}
use Rattle.es_event.specs.Later.{snapshot}
use Rattle.es_event.specs.History.{History}
use Rattle.es_event.specs.Jobs.{receivers, job, cleans, cleaning, callbacks_collect_nothing}
use Rattle.es_event.specs.Registrations.{awaiting, fate, tally, first_awaiting}
use Rattle.es_event.specs.Sharing.{Buffers}
use Rattle.es_event.specs.Legal.{Lawful, LegalBy}
use Rattle.es_event.specs.Order.{Phase, between, handed, inside, stopped, ended, phase_after, phase, left, job_commands, cleanup_commands, is_stopped, queues_again, queue, cleans_up, is_cleaning_up}
use Rattle.es_event.specs.Follows.{Follows}
use Rattle.es_event.specs.Runs.{ComesNext}
use Rattle.es_event.proofs.Awaiting.{awaited_before, between_clean, handed_at}
use Rattle.es_event.proofs.Coming.{next_cell, Comes, begins_job, begins_handed, receives, skips, refuses_message, begins_cleanup, does, refuses, empties_dead, takes, ends, stops, finishes, finishes_stopped, closes, comes, of_done}
use Rattle.es_event.proofs.Fates.{AwaitedBefore, no_more, fewer}
use Rattle.es_event.proofs.Left.{of_cleanup}

-- The work in the jobs of the plan

abbrev pub cost : List Job → ℕ
cost [] = 0
cost (j ∷ js) = (2 * length j.run + 4) + cost js

cost_at : (jobs : List Job) (n : ℕ) (j : Job) → slice_get jobs n ≡ Some j → cost (drop n jobs) ≡ (2 * length j.run + 4) + cost (drop (n + 1) jobs)
cost_at jobs n j e =
    let next : suc n ≡ n + 1 = omega arith in
    ap cost (drop-cons jobs n j (slice_get_within jobs n j e))
    ∙ (ap (λ x. (2 * length x.run + 4) + cost (drop (suc n) jobs)) (get_or_from_slice_get jobs n j j e)
    ∙ ap (λ m. (2 * length j.run + 4) + cost (drop m jobs)) next)

-- an open later collection is to be finished
abbrev pub open_work : History → ℕ
open_work h = cond (is_none (snapshot h)) 0 1

open_most : (h : History) → open_work h ≤ 1
open_most h = elim (is_none (snapshot h)) as (λ b. cond b 0 1 ≤ 1) [ true ↦ omega arith | false ↦ omega arith ]

abbrev pub job_work : AgentPlan → History → Phase → ℕ
job_work plan h between = 1 + cost (drop (job h - 1) plan.jobs)
job_work plan h handed = cost (drop (job h - 1) plan.jobs)
job_work plan h inside = (2 + (2 * length (left plan h) + open_work h)) + cost (drop (job h) plan.jobs)
job_work plan h stopped = (2 + open_work h) + cost (drop (job h) plan.jobs)
job_work plan h ended = 0

-- in a cleanup job the same jobs are ahead as between the two that it stands between
abbrev pub plan_work_at : AgentPlan → History → Option ℕ → Phase → ℕ
plan_work_at plan h None at = job_work plan h at
plan_work_at plan h (Some r) at = job_work plan h between

abbrev pub plan_work : AgentPlan → History → ℕ
plan_work plan h = plan_work_at plan h (cleaning h) (phase h)

-- The work on the cleanup queue

abbrev pub most_commands : List Callback → ℕ
most_commands [] = 0
most_commands (c ∷ cs) = length c.run + most_commands cs

-- a cell that is taken leaves the commands of one callback at most
abbrev pub cell_cost : AgentPlan → ℕ
cell_cost plan = 4 * most_commands plan.callbacks + 1

abbrev pub cells_work : AgentPlan → History → ℕ
cells_work plan h = tally h awaiting * cell_cost plan + 2 * length (queue h)

abbrev pub cleanup_work_at : AgentPlan → History → Phase → ℕ
cleanup_work_at plan h between = cells_work plan h
cleanup_work_at plan h handed = cells_work plan h
cleanup_work_at plan h inside = (1 + 4 * length (left plan h)) + cells_work plan h
cleanup_work_at plan h stopped = 4 + cells_work plan h
cleanup_work_at plan h ended = 0

abbrev pub cleanup_work : AgentPlan → History → ℕ
cleanup_work plan h = cleanup_work_at plan h (phase h)

-- Callbacks that collect nothing

callback_quiet : (cs : List Callback) (i : ℕ) (c : Callback) → list_all (λ c. not (list_any opens_or_collects c.run)) cs ≡ true → slice_get cs i ≡ Some c → list_any opens_or_collects c.run ≡ false
callback_quiet [] i c all e = cc
callback_quiet (x ∷ xs) zero c all e =
    let same : x ≡ c = cc in
    subst (λ (c : Callback). list_any opens_or_collects c.run ≡ false) same
    (not-true (list_any opens_or_collects x.run) (and_parts (not (list_any opens_or_collects x.run)) (list_all (λ c. not (list_any opens_or_collects c.run)) xs) all).0)
callback_quiet (x ∷ xs) (suc i) c all e = callback_quiet xs i c (and_parts (not (list_any opens_or_collects x.run)) (list_all (λ c. not (list_any opens_or_collects c.run)) xs) all).1 e

callback_short : (cs : List Callback) (i : ℕ) (c : Callback) → slice_get cs i ≡ Some c → length c.run ≤ most_commands cs
callback_short [] i c e = cc
callback_short (x ∷ xs) zero c e = let same : x ≡ c = cc in subst (λ (c : Callback). length c.run ≤ most_commands (x ∷ xs)) same (omega arith)
callback_short (x ∷ xs) (suc i) c e = omega (arith, callback_short xs i c e)

collects_opens : (c : Command) → collects c ≡ true → opens_or_collects c ≡ true
collects_opens Collect e = refl
collects_opens _ e = cc

rest_quiet : (cs : List Command) → list_any opens_or_collects cs ≡ false → list_any opens_or_collects (drop 1 cs) ≡ false
rest_quiet [] e = refl
rest_quiet (c ∷ cs) e = (or_parts (opens_or_collects c) (list_any opens_or_collects cs) e).1

quiet_next : (over : Buffers) (plan : AgentPlan) (h : History) (at : Phase) (e : Event) → Comes over (receivers plan.jobs) plan h at e → phase h ≡ at
    → Follows over plan h → list_all (λ c. not (list_any opens_or_collects c.run)) plan.callbacks ≡ true → ((r : ℕ) → cleaning h ≡ Some r → list_any opens_or_collects (left plan h) ≡ false)
    → (r : ℕ) → cleaning (e ∷ h) ≡ Some r → list_any opens_or_collects (left plan (e ∷ h)) ≡ false
quiet_next over plan h at _ (begins_job k j b none is same) here f all before r e = let clean : cleaning h ≡ None = between_clean h (here ∙ b) in cc
quiet_next over plan h at _ (begins_handed k i same) here f all before r e = let clean : cleaning h ≡ None = (handed_at over plan h f (here ∙ i)).clean in cc
quiet_next over plan h at _ (receives j s v b none is on room) here f all before r e = refl
quiet_next over plan h at _ (skips k j s b none is on same) here f all before r e = refl
quiet_next over plan h at _ (refuses_message j code b none is on same) here f all before r e = refl
quiet_next over plan h at _ (begins_cleanup q rs b is) here f all before r e = refl
quiet_next over plan h at _ (does b d cs vs a i is by) here f all before r e = rest_quiet (left plan h) (before r e)
quiet_next over plan h at _ (refuses d cs code i is) here f all before r e = refl
quiet_next over plan h at _ (empties_dead d cs ids i is co dead) here f all before r e = rest_quiet (left plan h) (before r e)
quiet_next over plan h at _ (takes m v i is next) here f all before r e = of_cleanup (λ cs. list_any opens_or_collects cs ≡ false) plan h refl (λ i c is. callback_quiet plan.callbacks i c all is)
quiet_next over plan h at _ (ends i is none shut) here f all before r e = cc
quiet_next over plan h at _ (finishes ids i is none fin) here f all before r e = rest_quiet (left plan h) (before r e)
quiet_next over plan h at _ (finishes_stopped ids s fin) here f all before r e = rest_quiet (left plan h) (before r e)
quiet_next over plan h at _ (stops s shut) here f all before r e = cc
quiet_next over plan h at _ (closes b none) here f all before r e = refl

-- in a cleanup job no command is left that collects
pub quiet : (over : Buffers) (plan : AgentPlan) (h : History) → callbacks_collect_nothing plan ≡ true → Follows over plan h → (r : ℕ) → cleaning h ≡ Some r → list_any opens_or_collects (left plan h) ≡ false
quiet over plan [] all f r e = cc
quiet over plan (e ∷ h) all f r is = quiet_next over plan h (phase h) e (comes over plan h e f.0) refl f.1 all (quiet over plan h all f.1) r is

-- No later collection is open between two jobs, before a job that was handed its message, and in a cleanup job

pub record Shut (h : History) : Type 0 where
  pub at_between : phase h ≡ between → snapshot h ≡ None
  pub at_handed : phase h ≡ handed → snapshot h ≡ None
  pub in_cleaning : (r : ℕ) → cleaning h ≡ Some r → snapshot h ≡ None

not_opened : (c : Command) (vs : List Value) (a : Answer) (h : History) → opens_or_collects c ≡ false → snapshot (Did (c, vs, a) ∷ h) ≡ snapshot h
not_opened CollectLater vs a h e = cc
not_opened _ vs a h e = refl

all_shut : (h : History) → snapshot h ≡ None → Shut h
all_shut h e = record { at_between = λ _. e; at_handed = λ _. e; in_cleaning = λ _ _. e }

shut_next : (over : Buffers) (plan : AgentPlan) (h : History) (at : Phase) (e : Event) → Comes over (receivers plan.jobs) plan h at e → phase h ≡ at → Shut h
    → ((r : ℕ) → cleaning h ≡ Some r → list_any opens_or_collects (left plan h) ≡ false) → Shut (e ∷ h)
shut_next over plan h at _ (begins_job k j b none is same) here s q = record { at_between = λ e. cc; at_handed = λ e. cc; in_cleaning = λ r e. s.at_between (here ∙ b) }
shut_next over plan h at _ (begins_handed k i same) here s q = record { at_between = λ e. cc; at_handed = λ e. cc; in_cleaning = λ r e. s.at_handed (here ∙ i) }
shut_next over plan h at (Received t v) (receives j _ _ b none is on room) here s q = all_shut (Received t v ∷ h) (s.at_between (here ∙ b))
shut_next over plan h at (Skipped k t) (skips _ j _ b none is on same) here s q = all_shut (Skipped k t ∷ h) (s.at_between (here ∙ b))
shut_next over plan h at (Refused code) (refuses_message j _ b none is on same) here s q = all_shut (Refused code ∷ h) (s.at_between (here ∙ b))
shut_next over plan h at (CleanupBegun r) (begins_cleanup _ rs b is) here s q = all_shut (CleanupBegun r ∷ h) (s.at_between (here ∙ b))
shut_next over plan h at (Did (d, vs, a)) (does b _ cs _ _ i is by) here s q = record {
  at_between = λ e. let now : inside ≡ between = sym (here ∙ i) ∙ e in cc;
  at_handed = λ e. let now : inside ≡ handed = sym (here ∙ i) ∙ e in cc;
  in_cleaning = λ r e.
      let none : list_any opens_or_collects (b ∷ cs) ≡ false = ap (list_any opens_or_collects) (sym is) ∙ q r e in
      let quiet : opens_or_collects d ≡ false = of_done (λ d. opens_or_collects d ≡ false) b d by (or_parts (opens_or_collects b) (list_any opens_or_collects cs) none).0 (λ x t. refl) in
      not_opened d vs a h quiet ∙ s.in_cleaning r e;
}
shut_next over plan h at _ (refuses d cs code i is) here s q = record { at_between = λ e. cc; at_handed = λ e. cc; in_cleaning = s.in_cleaning }
shut_next over plan h at (Emptied ids) (empties_dead d cs _ i is co dead) here s q = all_shut (Emptied ids ∷ h) refl
shut_next over plan h at (Emptied ids) (finishes _ i is none fin) here s q = all_shut (Emptied ids ∷ h) refl
shut_next over plan h at (Emptied ids) (finishes_stopped _ t fin) here s q = all_shut (Emptied ids ∷ h) refl
shut_next over plan h at _ (takes m v i is next) here s q = record { at_between = s.at_between; at_handed = s.at_handed; in_cleaning = s.in_cleaning }
shut_next over plan h at JobEnded (ends i is none shut) here s q = all_shut (JobEnded ∷ h) shut
shut_next over plan h at JobEnded (stops t shut) here s q = all_shut (JobEnded ∷ h) shut
shut_next over plan h at Closed (closes b none) here s q = all_shut (Closed ∷ h) (s.at_between (here ∙ b))

shut_along : (over : Buffers) (plan : AgentPlan) (h : History) → callbacks_collect_nothing plan ≡ true → Follows over plan h → Shut h
shut_along over plan [] all f = all_shut [] refl
shut_along over plan (e ∷ h) all f = shut_next over plan h (phase h) e (comes over plan h e f.0) refl (shut_along over plan h all f.1) (quiet over plan h all f.1)

-- so nothing is finished in a cleanup job
never_finishes : (over : Buffers) (plan : AgentPlan) (h p : History) (r : ℕ) → callbacks_collect_nothing plan ≡ true → Follows over plan h → cleaning h ≡ Some r → snapshot h ≡ Some p → ⊥
never_finishes over plan h p r all f clean at = let none = (shut_along over plan h all f).in_cleaning r clean in cc

-- An event of a cleanup job leaves less on the queue, and the jobs of the plan as they are

abbrev Falls : AgentPlan → History → Event → Option ℕ → Phase → Type 0
Falls plan h e clean at =
    (cleanup_work_at plan (e ∷ h) (unwrap_or (phase_after e) at) < cleanup_work_at plan h at)
    × (plan_work_at plan (e ∷ h) (unwrap_or (cleans e) clean) (unwrap_or (phase_after e) at) ≡ plan_work_at plan h clean at)

same_work : (plan : AgentPlan) (g h : History) → job g ≡ job h → job_work plan g between ≡ job_work plan h between
same_work plan g h e = ap (λ n. 1 + cost (drop (n - 1) plan.jobs)) e

-- what no event but an emptying makes more
abbrev CellsFall : AgentPlan → Event → History → Type 0
CellsFall plan e h = tally (e ∷ h) awaiting * cell_cost plan ≤ tally h awaiting * cell_cost plan

cells_fall : (plan : AgentPlan) (e : Event) (h : History) → AwaitedBefore e h → CellsFall plan e h
cells_fall plan e h before = mul-le (tally (e ∷ h) awaiting) (cell_cost plan) (tally h awaiting) (cell_cost plan) (no_more e h before) (omega arith)

falls_begun : (plan : AgentPlan) (h : History) (r : ℕ) (rs : List ℕ) → queue h ≡ r ∷ rs → CellsFall plan (CleanupBegun r) h → Falls plan h (CleanupBegun r) None between
falls_begun plan h r rs is cells =
    let before : length (queue h) ≡ suc (length rs) = ap length is in
    let after : length (drop 1 (queue h)) ≡ length rs = ap (λ q. length (drop 1 q)) is in
    (omega (arith, before, after, cells), same_work plan (CleanupBegun r ∷ h) h (omega arith))

falls_did : (plan : AgentPlan) (h : History) (q : ℕ) (d c : Command) (cs : List Command) (vs : List Value) (r : Answer) → left plan h ≡ c ∷ cs → CellsFall plan (Did (d, vs, r)) h → Falls plan h (Did (d, vs, r)) (Some q) inside
falls_did plan h q d c cs vs r is cells =
    let before : length (left plan h) ≡ suc (length cs) = ap length is in
    let after : length (drop 1 (left plan h)) ≡ length cs = ap (λ l. length (drop 1 l)) is in
    (omega (arith, before, after, cells), same_work plan (Did (d, vs, r) ∷ h) h (omega arith))

falls_refused : (plan : AgentPlan) (h : History) (q : ℕ) (c : Command) (cs : List Command) (code : Refusal) → left plan h ≡ c ∷ cs → CellsFall plan (Refused code) h → Falls plan h (Refused code) (Some q) inside
falls_refused plan h q c cs code is cells =
    let before : length (left plan h) ≡ suc (length cs) = ap length is in
    (omega (arith, before, cells), same_work plan (Refused code ∷ h) h (omega arith))

falls_taken : (plan : AgentPlan) (h : History) (q n : ℕ) (v : Value) → left plan h ≡ [] → fate h n ≡ awaiting → Falls plan h (Taken n v) (Some q) inside
falls_taken plan h q n v is waits =
    let before : length (left plan h) ≡ 0 = ap length is in
    let after : length (cleanup_commands plan h) ≤ most_commands plan.callbacks =
    of_cleanup (λ cs. length cs ≤ most_commands plan.callbacks) plan h (omega arith) (callback_short plan.callbacks) in
    let cells : tally (Taken n v ∷ h) awaiting * cell_cost plan + cell_cost plan ≤ tally h awaiting * cell_cost plan =
    row_fits (tally (Taken n v ∷ h) awaiting) (cell_cost plan) (tally h awaiting) (cell_cost plan) (fewer n v h waits) (omega arith) in
    (omega (arith, before, after, cells), same_work plan (Taken n v ∷ h) h (omega arith))

job_after_cleanup : (h : History) (q : ℕ) → cleaning h ≡ Some q → job (JobEnded ∷ h) ≡ job h
job_after_cleanup h q clean = let none : ◌≡◌ {A = ℕ} (cond (is_some (cleaning h)) 0 1) 0 = ap (λ o. cond (is_some o) 0 1) clean in omega (arith, none)

falls_ended : (plan : AgentPlan) (h : History) (q : ℕ) → cleaning h ≡ Some q → phase h ≡ inside → CellsFall plan JobEnded h → Falls plan h JobEnded (Some q) inside
falls_ended plan h q clean at cells =
    let none : length (queues_again h) ≡ 0 = ap (λ s. length (cond (is_stopped s) (filter (λ r. is_some (first_awaiting h r)) (option_to_list (cleaning h))) [])) at in
    (omega (arith, none, length-append (queue h) (queues_again h), cells), same_work plan (JobEnded ∷ h) h (job_after_cleanup h q clean))

one_again : (p : ℕ → Bool) (b : Bool) (o : Option ℕ) → length (cond b (filter p (option_to_list o)) []) ≤ 1
one_again p false o = omega arith
one_again p true None = omega arith
one_again p true (Some r) = elim (p r) as (λ b. length (cond b (r ∷ []) []) ≤ 1) [ true ↦ omega arith | false ↦ omega arith ]

falls_stopped : (plan : AgentPlan) (h : History) (q : ℕ) → cleaning h ≡ Some q → CellsFall plan JobEnded h → Falls plan h JobEnded (Some q) stopped
falls_stopped plan h q clean cells =
    let one : length (queues_again h) ≤ 1 = one_again (λ r. is_some (first_awaiting h r)) (is_stopped (phase h)) (cleaning h) in
    (omega (arith, one, length-append (queue h) (queues_again h), cells), same_work plan (JobEnded ∷ h) h (job_after_cleanup h q clean))

cleaned : (o : Option ℕ) (at : Phase) (rs : List ℕ) → cleans_up o at rs ≡ true → (at ≡ between → ⊥) → (q : ℕ) × (o ≡ Some q)
cleaned (Some q) at rs e un = (q, refl)
cleaned None between rs e un = absurd (un refl)
cleaned None handed rs e un = cc
cleaned None inside rs e un = cc
cleaned None stopped rs e un = cc
cleaned None ended rs e un = cc

pub not_due : (h : History) → phase h ≡ between → queue h ≡ [] → is_cleaning_up h ≡ true → ⊥
not_due h at none e =
    let no : is_cleaning_up h ≡ false = ap (λ o. cleans_up o (phase h) (queue h)) (between_clean h at) ∙ (ap (λ at. cleans_up None at (queue h)) at ∙ ap (cleans_up None between) none) in
    false≢true (sym no ∙ e)

-- nor before a job whose message it was handed
pub not_handed : (over : Buffers) (plan : AgentPlan) (h : History) → Follows over plan h → phase h ≡ handed → is_cleaning_up h ≡ true → ⊥
not_handed over plan h f at e =
    let no : is_cleaning_up h ≡ false = ap (λ o. cleans_up o (phase h) (queue h)) (handed_at over plan h f at).clean ∙ ap (λ at. cleans_up None at (queue h)) at in
    false≢true (sym no ∙ e)

-- where the agent is
moved : (plan : AgentPlan) (h : History) (e : Event) (clean : Option ℕ) (at : Phase) → cleaning h ≡ clean → phase h ≡ at → Falls plan h e clean at → Falls plan h e (cleaning h) (phase h)
moved plan h e clean at c p falls = subst (λ o. Falls plan h e o (phase h)) (sym c) (subst (λ s. Falls plan h e clean s) (sym p) falls)

pub in_cleanup : (h : History) (at : Phase) → is_cleaning_up h ≡ true → phase h ≡ at → (at ≡ between → ⊥) → (q : ℕ) × (cleaning h ≡ Some q)
in_cleanup h at up p un = cleaned (cleaning h) (phase h) (queue h) up (λ b. un (sym p ∙ b))

falls_next : (over other : Buffers) (plan : AgentPlan) (h : History) (at : Phase) (e : Event) → Comes other (receivers plan.jobs) plan h at e → phase h ≡ at → callbacks_collect_nothing plan ≡ true
    → Lawful other (receivers plan.jobs) h e → LegalBy over (receivers plan.jobs) h → Follows over plan h → is_cleaning_up h ≡ true → Falls plan h e (cleaning h) (phase h)
falls_next over other plan h at _ (begins_job k j b none is same) here all now l f up = absurd (not_due h (here ∙ b) none up)
falls_next over other plan h at _ (begins_handed k i same) here all now l f up = absurd (not_handed over plan h f (here ∙ i) up)
falls_next over other plan h at _ (receives j s v b none is on room) here all now l f up = absurd (not_due h (here ∙ b) none up)
falls_next over other plan h at _ (skips k j s b none is on same) here all now l f up = absurd (not_due h (here ∙ b) none up)
falls_next over other plan h at _ (refuses_message j code b none is on same) here all now l f up = absurd (not_due h (here ∙ b) none up)
falls_next over other plan h at _ (begins_cleanup r rs b is) here all now l f up =
    moved plan h (CleanupBegun r) None between (between_clean h (here ∙ b)) (here ∙ b)
    (falls_begun plan h r rs is (cells_fall plan (CleanupBegun r) h (awaited_before over other plan (CleanupBegun r) h now l f refl)))
falls_next over other plan h at _ (does b c cs vs r i is by) here all now l f up =
    let clean = in_cleanup h inside up (here ∙ i) (λ e. cc) in
    moved plan h (Did (c, vs, r)) (Some clean.0) inside clean.1 (here ∙ i)
    (falls_did plan h clean.0 c b cs vs r is (cells_fall plan (Did (c, vs, r)) h (awaited_before over other plan (Did (c, vs, r)) h now l f refl)))
falls_next over other plan h at _ (refuses c cs code i is) here all now l f up =
    let clean = in_cleanup h inside up (here ∙ i) (λ e. cc) in
    moved plan h (Refused code) (Some clean.0) inside clean.1 (here ∙ i)
    (falls_refused plan h clean.0 c cs code is (cells_fall plan (Refused code) h (awaited_before over other plan (Refused code) h now l f refl)))
falls_next over other plan h at _ (empties_dead c cs ids i is co dead) here all now l f up =
    let clean = in_cleanup h inside up (here ∙ i) (λ e. cc) in
    let none : list_any opens_or_collects (c ∷ cs) ≡ false = ap (list_any opens_or_collects) (sym is) ∙ quiet over plan h all f clean.0 clean.1 in
    absurd (false≢true (sym (or_parts (opens_or_collects c) (list_any opens_or_collects cs) none).0 ∙ collects_opens c (and_parts (collects c) (is_none (snapshot h)) co).0))
falls_next over other plan h at _ (takes n v i is next) here all now l f up =
    let clean = in_cleanup h inside up (here ∙ i) (λ e. cc) in
    moved plan h (Taken n v) (Some clean.0) inside clean.1 (here ∙ i) (falls_taken plan h clean.0 n v is now.1)
falls_next over other plan h at _ (ends i is none shut) here all now l f up =
    let clean = in_cleanup h inside up (here ∙ i) (λ e. cc) in
    moved plan h JobEnded (Some clean.0) inside clean.1 (here ∙ i)
    (falls_ended plan h clean.0 clean.1 (here ∙ i) (cells_fall plan JobEnded h (awaited_before over other plan JobEnded h now l f refl)))
falls_next over other plan h at _ (finishes ids i is none fin) here all now l f up =
    let clean = in_cleanup h inside up (here ∙ i) (λ e. cc) in absurd (never_finishes over plan h fin.copy clean.0 all f clean.1 fin.open_at)
falls_next over other plan h at _ (finishes_stopped ids s fin) here all now l f up =
    let clean = in_cleanup h stopped up (here ∙ s) (λ e. cc) in absurd (never_finishes over plan h fin.copy clean.0 all f clean.1 fin.open_at)
falls_next over other plan h at _ (stops s shut) here all now l f up =
    let clean = in_cleanup h stopped up (here ∙ s) (λ e. cc) in
    moved plan h JobEnded (Some clean.0) stopped clean.1 (here ∙ s)
    (falls_stopped plan h clean.0 clean.1 (cells_fall plan JobEnded h (awaited_before over other plan JobEnded h now l f refl)))
falls_next over other plan h at _ (closes b none) here all now l f up = absurd (not_due h (here ∙ b) none up)

-- while an agent cleans up, an event leaves less on the cleanup queue, and the jobs of the plan as they are; over whatever
-- table it comes next
pub cleanup_less : (over other : Buffers) (plan : AgentPlan) (h : History) (e : Event) → callbacks_collect_nothing plan ≡ true → LegalBy over (receivers plan.jobs) h → Follows over plan h
    → is_cleaning_up h ≡ true → ComesNext other plan h e → (cleanup_work plan (e ∷ h) < cleanup_work plan h) × (plan_work plan (e ∷ h) ≡ plan_work plan h)
cleanup_less over other plan h e all l f up next = falls_next over other plan h (phase h) e (comes other plan h e next.1) refl all next.0 l f up

-- An event of a job of the plan leaves less of the jobs

abbrev Drops : AgentPlan → History → Event → Option ℕ → Phase → Type 0
Drops plan h e clean at = plan_work_at plan (e ∷ h) (unwrap_or (cleans e) clean) (unwrap_or (phase_after e) at) < plan_work_at plan h clean at

-- what job j leaves where it comes next, and where it has begun
job_cost : (plan : AgentPlan) (h : History) (j : Job) → slice_get plan.jobs (job h - 1) ≡ Some j → cost (drop (job h - 1) plan.jobs) ≡ (2 * length j.run + 4) + cost (drop (job h) plan.jobs)
job_cost plan h j at =
    let positive : (job h - 1) + 1 ≡ job h = omega arith in
    cost_at plan.jobs (job h - 1) j at ∙ ap (λ m. (2 * length j.run + 4) + cost (drop m plan.jobs)) positive

begun_work : (plan : AgentPlan) (h : History) (k : ℕ) (j : Job) → slice_get plan.jobs (job h - 1) ≡ Some j → k ≡ job h → job_work plan (JobBegun k ∷ h) inside ≡ (2 + (2 * length j.run + open_work h)) + cost (drop (job h) plan.jobs)
begun_work plan h k j at e =
    let same : job (JobBegun k ∷ h) ≡ job h = omega arith in
    let run : job_commands plan k ≡ j.run = ap (job_commands plan) e ∙ ap (λ o. option_map_or (λ j. j.run) o []) at in
    ap (λ cs. (2 + (2 * length cs + open_work h)) + cost (drop (job (JobBegun k ∷ h)) plan.jobs)) run ∙ ap (λ m. (2 + (2 * length j.run + open_work h)) + cost (drop m plan.jobs)) same

drops_begun : (plan : AgentPlan) (h : History) (k : ℕ) (j : Job) → slice_get plan.jobs (job h - 1) ≡ Some j → k ≡ job h → Drops plan h (JobBegun k) None between
drops_begun plan h k j at e = omega (arith, job_cost plan h j at, begun_work plan h k j at e, open_most h)

-- the job after it was handed a message
drops_handed : (plan : AgentPlan) (h : History) (k : ℕ) (j : Job) → slice_get plan.jobs (job h - 1) ≡ Some j → k ≡ job h → Drops plan h (JobBegun k) None handed
drops_handed plan h k j at e = omega (arith, job_cost plan h j at, begun_work plan h k j at e, open_most h)

drops_received : (plan : AgentPlan) (h : History) (s : ℕ) (v : Value) → Drops plan h (Received s v) None between
drops_received plan h s v =
    let same : job (Received s v ∷ h) ≡ job h = omega arith in
    let jobs : cost (drop (job (Received s v ∷ h) - 1) plan.jobs) ≡ cost (drop (job h - 1) plan.jobs) = ap (λ n. cost (drop (n - 1) plan.jobs)) same in
    omega (arith, jobs)

drops_skipped : (plan : AgentPlan) (h : History) (k s : ℕ) (j : Job) → slice_get plan.jobs (job h - 1) ≡ Some j → Drops plan h (Skipped k s) None between
drops_skipped plan h k s j at =
    let next : job (Skipped k s ∷ h) - 1 ≡ job h = omega arith in
    let before = job_cost plan h j at in
    let after : cost (drop (job (Skipped k s ∷ h) - 1) plan.jobs) ≡ cost (drop (job h) plan.jobs) = ap (λ n. cost (drop n plan.jobs)) next in
    omega (arith, before, after)

drops_unreceived : (plan : AgentPlan) (h : History) (code : Refusal) (j : Job) → slice_get plan.jobs (job h - 1) ≡ Some j → Drops plan h (Refused code) None between
drops_unreceived plan h code j at =
    let same : job (Refused code ∷ h) ≡ job h = omega arith in
    let before = job_cost plan h j at in
    let after : cost (drop (job (Refused code ∷ h)) plan.jobs) ≡ cost (drop (job h) plan.jobs) = ap (λ n. cost (drop n plan.jobs)) same in
    omega (arith, before, after, open_most (Refused code ∷ h))

-- the job's number stays
same_cost : (plan : AgentPlan) (g h : History) → job g ≡ job h → cost (drop (job g) plan.jobs) ≡ cost (drop (job h) plan.jobs)
same_cost plan g h e = ap (λ n. cost (drop n plan.jobs)) e

drops_did : (plan : AgentPlan) (h : History) (d c : Command) (cs : List Command) (vs : List Value) (r : Answer) → left plan h ≡ c ∷ cs → Drops plan h (Did (d, vs, r)) None inside
drops_did plan h d c cs vs r is =
    let jobs = same_cost plan (Did (d, vs, r) ∷ h) h (omega arith) in
    let before : length (left plan h) ≡ suc (length cs) = ap length is in
    let after : length (drop 1 (left plan h)) ≡ length cs = ap (λ l. length (drop 1 l)) is in
    omega (arith, jobs, before, after, open_most (Did (d, vs, r) ∷ h))

drops_emptied : (plan : AgentPlan) (h : History) (ids : List ℕ) (c : Command) (cs : List Command) → left plan h ≡ c ∷ cs → Drops plan h (Emptied ids) None inside
drops_emptied plan h ids c cs is =
    let jobs = same_cost plan (Emptied ids ∷ h) h (omega arith) in
    let before : length (left plan h) ≡ suc (length cs) = ap length is in
    let after : length (drop 1 (left plan h)) ≡ length cs = ap (λ l. length (drop 1 l)) is in
    omega (arith, jobs, before, after)

drops_finished : (plan : AgentPlan) (h p : History) (ids : List ℕ) → left plan h ≡ [] → snapshot h ≡ Some p → Drops plan h (Emptied ids) None inside
drops_finished plan h p ids is at =
    let jobs = same_cost plan (Emptied ids ∷ h) h (omega arith) in
    let before : length (left plan h) ≡ 0 = ap length is in
    let after : length (drop 1 (left plan h)) ≡ 0 = ap (λ l. length (drop 1 l)) is in
    let one : open_work h ≡ 1 = ap (λ o. cond (is_none o) 0 1) at in
    omega (arith, jobs, before, after, one)

drops_finished_stopped : (plan : AgentPlan) (h p : History) (ids : List ℕ) → snapshot h ≡ Some p → Drops plan h (Emptied ids) None stopped
drops_finished_stopped plan h p ids at =
    let jobs = same_cost plan (Emptied ids ∷ h) h (omega arith) in
    let one : open_work h ≡ 1 = ap (λ o. cond (is_none o) 0 1) at in
    omega (arith, jobs, one)

drops_refused : (plan : AgentPlan) (h : History) (code : Refusal) (c : Command) (cs : List Command) → left plan h ≡ c ∷ cs → Drops plan h (Refused code) None inside
drops_refused plan h code c cs is =
    let jobs = same_cost plan (Refused code ∷ h) h (omega arith) in
    let before : length (left plan h) ≡ suc (length cs) = ap length is in
    omega (arith, jobs, before)

ended_cost : (plan : AgentPlan) (h : History) → cleaning h ≡ None → cost (drop (job (JobEnded ∷ h) - 1) plan.jobs) ≡ cost (drop (job h) plan.jobs)
ended_cost plan h clean =
    let one : ◌≡◌ {A = ℕ} (cond (is_some (cleaning h)) 0 1) 1 = ap (λ o. cond (is_some o) 0 1) clean in
    let next : job (JobEnded ∷ h) - 1 ≡ job h = omega (arith, one) in
    ap (λ n. cost (drop n plan.jobs)) next

no_cleanup : (o : Option ℕ) (at : Phase) (rs : List ℕ) → cleans_up o at rs ≡ false → o ≡ None
no_cleanup None at rs e = refl
no_cleanup (Some q) at rs e = cc

settled : (plan : AgentPlan) (h : History) (e : Event) (at : Phase) → cleaning h ≡ None → phase h ≡ at → Drops plan h e None at → Drops plan h e (cleaning h) (phase h)
settled plan h e at c p drops = subst (λ o. Drops plan h e o (phase h)) (sym c) (subst (λ s. Drops plan h e None s) (sym p) drops)

taken_none : (n : ℕ) → ◌≡◌ {A = Option ℕ} None (Some n) → ⊥
taken_none n e = cc

drops_next : (over other : Buffers) (plan : AgentPlan) (h : History) (at : Phase) (e : Event) → Comes other (receivers plan.jobs) plan h at e → phase h ≡ at
    → Follows over plan h → cleaning h ≡ None → is_cleaning_up h ≡ false → Drops plan h e (cleaning h) (phase h)
drops_next over other plan h at _ (begins_job k j b none is same) here f clean up = settled plan h (JobBegun k) between clean (here ∙ b) (drops_begun plan h k j is same)
drops_next over other plan h at _ (begins_handed k i same) here f clean up =
    let j = (handed_at over plan h f (here ∙ i)).job_there in
    settled plan h (JobBegun k) handed clean (here ∙ i) (drops_handed plan h k j.0 j.1 same)
drops_next over other plan h at _ (receives j s v b none is on room) here f clean up = settled plan h (Received s v) between clean (here ∙ b) (drops_received plan h s v)
drops_next over other plan h at _ (skips k j s b none is on same) here f clean up = settled plan h (Skipped k s) between clean (here ∙ b) (drops_skipped plan h k s j is)
drops_next over other plan h at _ (refuses_message j code b none is on same) here f clean up = settled plan h (Refused code) between clean (here ∙ b) (drops_unreceived plan h code j is)
drops_next over other plan h at _ (begins_cleanup r rs b is) here f clean up =
    let due : is_cleaning_up h ≡ true = ap (λ o. cleans_up o (phase h) (queue h)) clean ∙ (ap (λ at. cleans_up None at (queue h)) (here ∙ b) ∙ ap (cleans_up None between) is) in
    absurd (false≢true (sym up ∙ due))
drops_next over other plan h at _ (does b c cs vs r i is by) here f clean up = settled plan h (Did (c, vs, r)) inside clean (here ∙ i) (drops_did plan h c b cs vs r is)
drops_next over other plan h at _ (refuses c cs code i is) here f clean up = settled plan h (Refused code) inside clean (here ∙ i) (drops_refused plan h code c cs is)
drops_next over other plan h at _ (empties_dead c cs ids i is co dead) here f clean up = settled plan h (Emptied ids) inside clean (here ∙ i) (drops_emptied plan h ids c cs is)
drops_next over other plan h at _ (takes n v i is next) here f clean up = let none : next_cell h ≡ None = ap (option_and_then (first_awaiting h)) clean in absurd (taken_none n (sym none ∙ next))
drops_next over other plan h at _ (ends i is none shut) here f clean up = settled plan h JobEnded inside clean (here ∙ i) (omega (arith, ended_cost plan h clean))
drops_next over other plan h at _ (finishes ids i is none fin) here f clean up = settled plan h (Emptied ids) inside clean (here ∙ i) (drops_finished plan h fin.copy ids is fin.open_at)
drops_next over other plan h at _ (finishes_stopped ids s fin) here f clean up = settled plan h (Emptied ids) stopped clean (here ∙ s) (drops_finished_stopped plan h fin.copy ids fin.open_at)
drops_next over other plan h at _ (stops s shut) here f clean up = settled plan h JobEnded stopped clean (here ∙ s) (omega (arith, ended_cost plan h clean))
drops_next over other plan h at _ (closes b none) here f clean up = settled plan h Closed between clean (here ∙ b) (omega arith)

-- while it does not, an event leaves less of the jobs of the plan
pub plan_less : (over other : Buffers) (plan : AgentPlan) (h : History) (e : Event) → Follows over plan h → is_cleaning_up h ≡ false → ComesNext other plan h e → plan_work plan (e ∷ h) < plan_work plan h
plan_less over other plan h e f up next = drops_next over other plan h (phase h) e (comes other plan h e next.1) refl f (no_cleanup (cleaning h) (phase h) (queue h) up) up
