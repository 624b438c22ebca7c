-- An agent of a plan that shares no word accesses none.
use Rattle.std.proofs.Common.{◌≡◌, ℕ, true, false, not, refl, subst, List, [], ◌∷◌, drop, Some, None}
use Rattle.std.specs.Prelude.{slice_get}
use Rattle.std.specs.List.{list_all, list_any}
use Rattle.std.proofs.lemmas.Bool.{and_parts, not-true, or_parts}
use Rattle.es_event.specs.declared.command.Command.{Command}
use Rattle.es_event.specs.declared.command.Command.TheVariants.{Atomic}
use Rattle.es_event.specs.declared.plan.AgentPlan.{AgentPlan}
use Rattle.es_event.specs.declared.plan.Callback.{Callback}
use Rattle.es_event.specs.declared.plan.Job.{Job}
use Rattle.es_event.specs.Follows.{Follows}
use Rattle.es_event.specs.History.{History}
use Rattle.es_event.specs.Jobs.{Receivers, receivers}
use Rattle.es_event.specs.Order.{Due, due, left, run, RunsNow}
use Rattle.es_event.specs.Sharing.{Buffers}
use Rattle.es_event.proofs.Left.{each_of, is_first, left_holds}
use Rattle.es_theorems.specs.Messages.{is_on_word, shares_no_word}
use Rattle.es_theorems.proofs.Pending.{command_touch, due_touch}

-- What the plan says

record IsWordless (plan : AgentPlan) : Type 0 where
  jobs : (i : ℕ) (j : Job) → slice_get plan.jobs i ≡ Some j → list_any is_on_word j.run ≡ false
  callbacks : (i : ℕ) (c : Callback) → slice_get plan.callbacks i ≡ Some c → list_any is_on_word c.run ≡ false

is_wordless : (plan : AgentPlan) → shares_no_word plan ≡ true → IsWordless plan
is_wordless plan e =
    let runs = and_parts (list_all (λ j. not (list_any is_on_word j.run)) plan.jobs) _ e in
    record {
      jobs = λ i j is. not-true (list_any is_on_word j.run) (each_of (λ j. not (list_any is_on_word j.run)) plan.jobs i j runs.0 is);
      callbacks = λ i c is. not-true (list_any is_on_word c.run) (each_of (λ c. not (list_any is_on_word c.run)) plan.callbacks i c runs.1 is);
    }

-- No command is left that is on a word

abbrev IsFree : List Command → Type 0
IsFree cs = list_any is_on_word cs ≡ false

rest_local : (cs : List Command) → IsFree cs → IsFree (drop 1 cs)
rest_local [] e = refl
rest_local (c ∷ cs) e = (or_parts (is_on_word c) (list_any is_on_word cs) e).1

left_local : (plan : AgentPlan) → IsWordless plan → (h : History) → IsFree (left plan h)
left_local plan wordless h = left_holds IsFree plan (record { none = refl; rest = rest_local; jobs = wordless.jobs; callbacks = wordless.callbacks }) h

due_local : (plan : AgentPlan) → IsWordless plan → (h : History) (c : Command) → RunsNow (due plan h) c → is_on_word c ≡ false
due_local plan wordless h c is =
    let first = is_first plan h is.0 c is.1 in
    (or_parts (is_on_word c) (list_any is_on_word first.others) (subst IsFree first.is_left (left_local plan wordless h))).0

-- So it accesses none

none_by : (over : Buffers) (into : Receivers) (h : History) (c : Command) → is_on_word c ≡ false → command_touch over into h c ≡ None
none_by over into h (Atomic a) off = cc
none_by over into h _ off = refl

none_due : (over : Buffers) (into : Receivers) (h : History) (d : Due) → ((c : Command) → RunsNow d c → is_on_word c ≡ false) → due_touch over into h d ≡ None
none_due over into h (run x c) off = none_by over into h c (off c (x, refl))
none_due over into h _ off = refl

pub touches_none : (over : Buffers) (plan : AgentPlan) (h : History) → shares_no_word plan ≡ true → Follows over plan h → due_touch over (receivers plan.jobs) h (due plan h) ≡ None
touches_none over plan h shares follows = none_due over (receivers plan.jobs) h (due plan h) (due_local plan (is_wordless plan shares) h)
