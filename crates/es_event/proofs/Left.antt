-- The commands that are left are of the plan, and where a command is due, it is the first of them.
use Rattle.std.proofs.Common.{◌≡◌, ℕ, zero, suc, ◌-◌, Bool, true, ap, refl, subst, List, [], ◌∷◌, drop, Option, Some, None}
use Rattle.std.specs.Prelude.{slice_get}
use Rattle.std.specs.List.{list_all}
use Rattle.std.specs.Option.{option_map_or, option_and_then}
use Rattle.std.proofs.lemmas.Bool.{and_parts}
use Rattle.es_event.specs.declared.command.Command.{Command}
use Rattle.es_event.specs.declared.event.Event.TheVariants.{JobBegun, CleanupBegun, Received, Did, Refused, Emptied, Taken, JobEnded, Skipped, Closed}
use Rattle.es_event.specs.declared.plan.AgentPlan.{AgentPlan}
use Rattle.es_event.specs.declared.plan.Callback.{Callback}
use Rattle.es_event.specs.declared.plan.Job.{Job}
use Rattle.es_event.specs.History.{History}
use Rattle.es_event.specs.Jobs.{cleaning, job}
use Rattle.es_event.specs.Later.{snapshot}
use Rattle.es_event.specs.Order.{Phase, between, handed, inside, stopped, ended, phase, callback_commands, cleanup_commands, left, catching, queue, run, due_end, due_after, due_inside, due_job, due_between, due_at, due}
use Rattle.es_event.specs.Registrations.{callback, first_awaiting}

-- what all pass, each passes
pub each_of : {A : Type 0} (p : A → Bool) (xs : List A) (i : ℕ) (x : A) → list_all p xs ≡ true → slice_get xs i ≡ Some x → p x ≡ true
each_of p [] i x all e = cc
each_of p (y ∷ ys) zero x all e = let same : y ≡ x = cc in subst (λ z. p z ≡ true) same (and_parts (p y) (list_all p ys) all).0
each_of p (y ∷ ys) (suc i) x all e = each_of p ys i x (and_parts (p y) (list_all p ys) all).1 e

-- what holds of no commands, and of each callback's, holds of those of a cell that is taken
of_callback : (P : List Command → Type 0) (o : Option Callback) → P [] → ((c : Callback) → o ≡ Some c → P c.run) → P (option_map_or (λ c. c.run) o [])
of_callback P None none each = none
of_callback P (Some c) none each = each c refl

of_number : (P : List Command → Type 0) (plan : AgentPlan) (o : Option ℕ) → P [] → ((i : ℕ) (c : Callback) → slice_get plan.callbacks i ≡ Some c → P c.run) → P (option_map_or (callback_commands plan) o [])
of_number P plan None none each = none
of_number P plan (Some n) none each = of_callback P (slice_get plan.callbacks (n - 1)) none (each (n - 1))

pub of_cleanup : (P : List Command → Type 0) (plan : AgentPlan) (h : History) → P [] → ((i : ℕ) (c : Callback) → slice_get plan.callbacks i ≡ Some c → P c.run) → P (cleanup_commands plan h)
of_cleanup P plan h none each = of_number P plan (option_and_then (callback h) (cleaning h)) none each

-- What holds of the commands of each job and of each callback, and of what is left of commands of which it holds

pub record HoldsOf (P : List Command → Type 0) (plan : AgentPlan) : Type 0 where
  pub none : P []
  pub rest : (cs : List Command) → P cs → P (drop 1 cs)
  pub jobs : (i : ℕ) (j : Job) → slice_get plan.jobs i ≡ Some j → P j.run
  pub callbacks : (i : ℕ) (c : Callback) → slice_get plan.callbacks i ≡ Some c → P c.run

of_job : (P : List Command → Type 0) (o : Option Job) → P [] → ((j : Job) → o ≡ Some j → P j.run) → P (option_map_or (λ j. j.run) o [])
of_job P None none each = none
of_job P (Some j) none each = each j refl

pub left_holds : (P : List Command → Type 0) (plan : AgentPlan) → HoldsOf P plan → (h : History) → P (left plan h)
left_holds P plan holds [] = holds.none
left_holds P plan holds (JobBegun j ∷ h) = of_job P (slice_get plan.jobs (j - 1)) holds.none (holds.jobs (j - 1))
left_holds P plan holds (CleanupBegun q ∷ h) = holds.none
left_holds P plan holds (Received t v ∷ h) = holds.none
left_holds P plan holds (Did (c, vs, r) ∷ h) = holds.rest (left plan h) (left_holds P plan holds h)
left_holds P plan holds (Refused code ∷ h) = holds.none
left_holds P plan holds (Emptied ids ∷ h) = holds.rest (left plan h) (left_holds P plan holds h)
left_holds P plan holds (Taken n held ∷ h) = of_cleanup P plan h holds.none holds.callbacks
left_holds P plan holds (JobEnded ∷ h) = holds.none
left_holds P plan holds (Skipped j t ∷ h) = holds.none
left_holds P plan holds (Closed ∷ h) = holds.none

-- The command that is due

pub record IsFirst (plan : AgentPlan) (h : History) (c : Command) : Type 0 where
  pub others : List Command
  pub at_inside : phase h ≡ inside
  pub is_left : left plan h ≡ c ∷ others

no_job : (n : ℕ) (o : Option (Option (ℕ × List ℕ))) (x : Option (List ℕ)) (c : Command) → due_job n o ≡ run x c → ⊥
no_job n None x c is = cc
no_job n (Some None) x c is = cc
no_job n (Some (Some on)) x c is = cc

no_end : (o : Option History) (x : Option (List ℕ)) (c : Command) → due_end o ≡ run x c → ⊥
no_end None x c is = cc
no_end (Some p) x c is = cc

no_cell : (h : History) (o : Option ℕ) (x : Option (List ℕ)) (c : Command) → due_after h o ≡ run x c → ⊥
no_cell h None x c is = no_end (snapshot h) x c is
no_cell h (Some n) x c is = cc

of_queue : (plan : AgentPlan) (h : History) (rs : List ℕ) (x : Option (List ℕ)) (c : Command) → due_between plan h rs ≡ run x c → ⊥
of_queue plan h [] x c is = no_job (job h) _ x c is
of_queue plan h (r ∷ rs) x c is = cc

of_inside : (h : History) (y : Option (List ℕ)) (cs : List Command) (x : Option (List ℕ)) (c : Command) → due_inside h y cs ≡ run x c → (others : List Command) × (cs ≡ c ∷ others)
of_inside h y [] x c is = absurd (no_cell h (option_and_then (first_awaiting h) (cleaning h)) x c is)
of_inside h y (b ∷ cs) x c is = let same : b ≡ c = cc in (cs, ap (λ b. b ∷ cs) same)

first_at : (plan : AgentPlan) (h : History) (p : Phase) (x : Option (List ℕ)) (c : Command) → phase h ≡ p → due_at plan h p ≡ run x c → IsFirst plan h c
first_at plan h between x c here is = absurd (of_queue plan h (queue h) x c is)
first_at plan h handed x c here is = cc
first_at plan h inside x c here is = let rest = of_inside h (catching plan h) (left plan h) x c is in record { others = rest.0; at_inside = here; is_left = rest.1 }
first_at plan h stopped x c here is = absurd (no_end (snapshot h) x c is)
first_at plan h ended x c here is = cc

pub is_first : (plan : AgentPlan) (h : History) (x : Option (List ℕ)) (c : Command) → due plan h ≡ run x c → IsFirst plan h c
is_first plan h x c is = first_at plan h (phase h) x c refl is
