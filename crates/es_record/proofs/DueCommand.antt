-- What is due, and the due command, where the cursor stands inside a job.
use Rattle.std.proofs.Common.{◌≡◌, ℕ, zero, suc, ap, sym, ◌∙◌, refl, List, [], ◌∷◌, Option, Some, None, Result, Ok, Err, ◌<◌, arith, length}
use Rattle.std.specs.Option.{option_and_then}
use Rattle.std.specs.Prelude.{drop, slice_get, unwrap_or, IfOk}
use Rattle.es_event.specs.declared.command.Command.{Command}
use Rattle.es_event.specs.declared.plan.AgentPlan.{AgentPlan}
use Rattle.es_event.specs.Cursor.{Catches}
use Rattle.es_event.proofs.Left.{is_first}
use Rattle.es_event.specs.Due.{due_of}
use Rattle.es_event.specs.Registrations.{first_awaiting}
use Rattle.es_event.specs.History.{History}
use Rattle.es_event.specs.Jobs.{cleaning}
use Rattle.es_event.specs.Later.{snapshot}
use Rattle.es_event.specs.Order.{inside, phase, left, catching, run, due, due_at, due_after, due_inside}

first_left : {A : Type 0} (xs : List A) (n : ℕ) → slice_get (drop n xs) 0 ≡ slice_get xs n
first_left [] zero = refl
first_left [] (suc n) = refl
first_left (x ∷ xs) zero = refl
first_left (x ∷ xs) (suc n) = first_left xs n

-- inside a job, of whose commands those from the k-th on are left, the k-th is due
pub is_due_at : (plan : AgentPlan) (h : History) (cs : List Command) (k : ℕ) → phase h ≡ inside → left plan h ≡ drop k cs → (c : Command) (x : Option (List ℕ)) → due plan h ≡ run x c → slice_get cs k ≡ Some c
is_due_at plan h cs k at is c x e = sym (first_left cs k) ∙ ap (λ l. slice_get l 0) (sym is) ∙ ap (λ l. slice_get l 0) (is_first plan h x c e).is_left

-- so an answer that is the k-th command is the due one
pub answers_due : {E : Type 0} (plan : AgentPlan) (h : History) (cs : List Command) (k : ℕ) → phase h ≡ inside → left plan h ≡ drop k cs
    → (r : Result (Option Command) E) → IfOk r (λ o. o ≡ slice_get cs k) → IfOk r (λ o. (c : Command) (x : Option (List ℕ)) → due plan h ≡ run x c → o ≡ Some c)
answers_due plan h cs k at is (Ok o) same = λ c x e. same ∙ is_due_at plan h cs k at is c x e
answers_due plan h cs k at is (Err e) same = same

-- the command that is first of those that are left is due, and caught as the one at its place
pub due_here : (plan : AgentPlan) (h : History) (c : Command) (cs : List Command) (k : ℕ) (xs : List (Option (List ℕ))) → phase h ≡ inside → left plan h ≡ c ∷ cs → Catches plan h (drop k xs)
    → run (unwrap_or (slice_get xs k) None) c ≡ due plan h
due_here plan h c cs k xs at is all =
    let here : catching plan h ≡ unwrap_or (slice_get xs k) None = ap (λ l. unwrap_or (slice_get l 0) None) (all c cs is) ∙ ap (λ o. unwrap_or o None) (first_left xs k) in
    ap (λ x. run x c) (sym here) ∙ ap (due_inside h (catching plan h)) (sym is) ∙ ap (due_at plan h) (sym at)

-- some are left where fewer were done
some_left : {A : Type 0} (xs : List A) (n : ℕ) → n < length xs → drop n xs ≡ [] → ⊥
some_left [] n less none = omega (arith, less)
some_left (x ∷ xs) zero less none = cc
some_left (x ∷ xs) (suc n) less none = some_left xs n (omega (arith, less)) none

-- in a callback, of whose commands some are left
pub due_callback : (plan : AgentPlan) (h : History) (k : ℕ) (all : List Command) (xs : List (Option (List ℕ))) → k < length all → phase h ≡ inside → left plan h ≡ drop k all → Catches plan h (drop k xs)
    → due_of (snapshot h) (unwrap_or (slice_get xs k) None) (drop k all) ≡ due plan h
due_callback plan h k all xs few at is catches = of_left (drop k all) refl
  where
    of_left : (l : List Command) → drop k all ≡ l → due_of (snapshot h) (unwrap_or (slice_get xs k) None) l ≡ due plan h
    of_left [] none = absurd (some_left all k few none)
    of_left (c ∷ cs) first = due_here plan h c cs k xs at (is ∙ first) catches

-- in a job of the plan
pub due_place : (plan : AgentPlan) (h : History) (k : ℕ) (xs : List (Option (List ℕ))) (l : List Command) → phase h ≡ inside → cleaning h ≡ None → left plan h ≡ l → Catches plan h (drop k xs)
    → due_of (snapshot h) (unwrap_or (slice_get xs k) None) l ≡ due plan h
due_place plan h k xs [] at none is all =
    ap (λ q. due_after h (option_and_then (first_awaiting h) q)) (sym none) ∙ ap (due_inside h (catching plan h)) (sym is) ∙ ap (due_at plan h) (sym at)
due_place plan h k xs (c ∷ cs) at none is all = due_here plan h c cs k xs at is all
