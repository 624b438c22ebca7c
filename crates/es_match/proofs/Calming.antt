-- Histories that ask the ledger for nothing.
use Rattle.std.proofs.Common.{◌≡◌, ℕ, suc, ◌-◌, Bool, true, List, [], ◌∷◌, ◌++◌, length, take, drop, Option, refl, sym, subst, ◌∙◌, ap, arith}
use Rattle.std.specs.Prelude.{reverse, ⊤}
use Rattle.std.specs.Option.{option_and_then}
use Rattle.std.proofs.lemmas.List.{reverse-append}
use Rattle.es_event.specs.declared.event.Event.{Event}
use Rattle.es_event.specs.History.{History}
use Rattle.es_match.specs.Deeds.{Deed}
use Rattle.es_match.specs.Asks.{Asking, nothing, to_empty, asks, between_jobs, ends_job}
use Rattle.es_match.specs.Calm.{IsCalm, IsCalmBefore, is_calm}
use Rattle.es_match.specs.Goes.{asked, goes}
use Rattle.es_match.specs.Meets.{Came, came_after, nothing_came}

-- To go through a history whose events but the last ask for nothing

less_one : (n : ℕ) → suc n - 1 ≡ n
less_one n = omega arith

-- what the rest comes to, after what this event asks for
abbrev rest_after : Event → List Event → List Deed → Asking → Option Came
rest_after e es ds w = option_and_then (λ d. goes (ends_job e) d es (drop (asked [] w) ds)) (came_after nothing_came w (take (asked [] w) ds))

passed : (e : Event) (es : List Event) (ds : List Deed) (w : Asking) → is_calm w ≡ true → rest_after e es ds w ≡ goes (ends_job e) nothing_came es ds
passed e es ds nothing calm = refl
passed e es ds (to_empty ids) calm = refl
passed e es ds _ calm = absurd (cc)

pub goes_by_the_last : (between : Bool) (es : List Event) (ds : List Deed) → IsCalmBefore between es
    → goes between nothing_came es ds ≡ goes true nothing_came (drop (length es - 1) es) ds
goes_by_the_last between [] ds calm = refl
goes_by_the_last between (e ∷ []) ds calm = ap (rest_after e [] ds) calm
goes_by_the_last between (e ∷ f ∷ es) ds calm =
    passed e (f ∷ es) ds (asks between e) calm.0 ∙ goes_by_the_last (ends_job e) (f ∷ es) ds calm.1
    ∙ ap (λ n. goes true nothing_came (drop n (f ∷ es)) ds) (less_one (length es))
    ∙ ap (λ n. goes true nothing_came (drop n (e ∷ f ∷ es)) ds) (sym (less_one (suc (length es))))

-- From the newest event to the oldest, and back

-- whether no job is under way after the events
abbrev after_all : Bool → List Event → Bool
after_all between [] = between
after_all between (e ∷ es) = after_all (ends_job e) es

abbrev AreCalm : Bool → List Event → Type 0
AreCalm between [] = ⊤
AreCalm between (e ∷ es) = (is_calm (asks between e) ≡ true) × AreCalm (ends_job e) es

calm_more : (between : Bool) (es : List Event) (e : Event) → AreCalm between es → is_calm (asks (after_all between es) e) ≡ true → AreCalm between (es ++ e ∷ [])
calm_more between [] e calm more = (more, tt)
calm_more between (f ∷ es) e calm more = (calm.0, calm_more (ends_job f) es e calm.1 more)

after_more : (between : Bool) (es : List Event) (e : Event) → after_all between (es ++ e ∷ []) ≡ ends_job e
after_more between [] e = refl
after_more between (f ∷ es) e = after_more (ends_job f) es e

oldest_last : (e : Event) (h : History) → reverse (e ∷ h) ≡ reverse h ++ e ∷ []
oldest_last e h = reverse-append (e ∷ []) h

after_history : (h : History) → after_all true (reverse h) ≡ between_jobs h
after_history [] = refl
after_history (e ∷ h) = ap (after_all true) (oldest_last e h) ∙ after_more true (reverse h) e

are_calm : (h : History) → IsCalm h → AreCalm true (reverse h)
are_calm [] calm = tt
are_calm (e ∷ h) calm = subst (AreCalm true) (sym (oldest_last e h))
    (calm_more true (reverse h) e (are_calm h calm.1) (ap (λ b. is_calm (asks b e)) (after_history h) ∙ calm.0))

calm_before : (between : Bool) (es : List Event) (e : Event) → ((b : Bool) → asks b e ≡ asks true e) → AreCalm between es → IsCalmBefore between (es ++ e ∷ [])
calm_before between [] e same calm = same between
calm_before between (f ∷ []) e same calm = (calm.0, same (ends_job f))
calm_before between (f ∷ g ∷ es) e same calm = (calm.0, calm_before (ends_job f) (g ∷ es) e same calm.1)

pub is_calm_before : (h : History) (e : Event) → ((b : Bool) → asks b e ≡ asks true e) → IsCalm h → IsCalmBefore true (reverse (e ∷ h))
is_calm_before h e same calm = subst (IsCalmBefore true) (sym (oldest_last e h)) (calm_before true (reverse h) e same (are_calm h calm))
