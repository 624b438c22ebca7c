-- What comes to an agent by the deeds of its newest event.
use Rattle.std.proofs.Common.{◌≡◌, ℕ, true, sym, ◌∙◌, ap, refl, List, [], ◌∷◌, ◌++◌, append-nil, take, drop, Option, Some, None}
use Rattle.std.specs.Option.{option_and_then}
use Rattle.std.proofs.lemmas.List.{reverse-append, take-append-drop}
use Rattle.es_event.specs.declared.event.Event.{Event}
use Rattle.es_event.specs.History.{History}
use Rattle.es_match.specs.Asks.{Asking, asks, between_jobs}
use Rattle.es_match.specs.Cluster.{DeedsMeet}
use Rattle.es_match.specs.Deeds.{Deed}
use Rattle.es_match.specs.Goes.{asked, goes}
use Rattle.es_match.specs.Meets.{Came, came_after, no_more, nothing_came, some_if}
use Rattle.es_match.proofs.Bridge.{ties-go, ties_mean_goes}
use Rattle.es_theorems.proofs.Commands.{none_more, some_if_true}

-- the deeds that are left to it are its own
pub came_next : (h : History) (p now : List Deed) (c d : Came) (e : Event) → DeedsMeet h p c → DeedsMeet (e ∷ h) (p ++ now) d → came_after c (asks (between_jobs h) e) now ≡ Some d
came_next h p now c d e before all = by_met (came_after c q (take k now)) refl goes_on
  where
    q : Asking
    q = asks (between_jobs h) e

    k : ℕ
    k = asked c.tickets q

    goes_on : option_and_then (λ d. some_if (no_more (drop k now)) d) (came_after c q (take k now)) ≡ Some d
    goes_on =
        sym (ties-go h p c before (e ∷ []) now)
        ∙ ap (λ es. goes true nothing_came es (p ++ now)) (sym (reverse-append (e ∷ []) h))
        ∙ ties_mean_goes (e ∷ h) (p ++ now) d all

    at_end : (x : Came) → some_if (no_more (drop k now)) x ≡ Some d → (take k now ≡ now) × (x ≡ d)
    at_end x is =
        let none = none_more (drop k now) (some_if_true _ x d is) in
        let whole : take k now ≡ now = sym (append-nil (take k now)) ∙ ap (λ r. take k now ++ r) (sym none) ∙ take-append-drop k now in
        (whole, (let here : Some x ≡ Some d = ap (λ b. some_if b x) (sym (some_if_true _ x d is)) ∙ is in cc))

    by_met : (o : Option Came) → came_after c q (take k now) ≡ o → option_and_then (λ d. some_if (no_more (drop k now)) d) o ≡ Some d → came_after c q now ≡ Some d
    by_met None met is = cc
    by_met (Some x) met is =
        let end = at_end x is in
        ap (came_after c q) (sym end.0) ∙ met ∙ ap Some end.1
