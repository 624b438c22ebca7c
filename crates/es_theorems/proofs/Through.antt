-- Turn after turn, until nothing follows that an agent does.
use Rattle.std.proofs.Common.{◌≡◌, ℕ, zero, suc, ◌<◌, Bool, true, false, sym, ◌∙◌, ap, refl, subst, arith, List, [], ◌∷◌, ◌++◌, length, Some, None, inl, inr}
use Rattle.es_event.specs.declared.ledger_event.LedgerEvent.{LedgerEvent}
use Rattle.es_event.specs.declared.ledger_event.LedgerEvent.TheVariants.{Acted}
use Rattle.es_event.specs.declared.ledger_event.Act.TheVariants.{Waiting as WaitingEvent, Slept}
use Rattle.es_event.specs.LegalLedger.{ComesNext}
use Rattle.es_match.specs.Deeds.{Deed, Owned, deed, is_wait}
use Rattle.es_match.specs.Cluster.{Account, account_of}
use Rattle.es_cluster.specs.Ends.{IsWhole}
use Rattle.es_cluster.specs.State.{ClusterView}
use Rattle.es_theorems.specs.Doing.{event_of}
use Rattle.es_theorems.proofs.Doing.{meant}
use Rattle.es_theorems.specs.Through.{Through}
use Rattle.es_theorems.specs.Ahead.{played}
use Rattle.es_theorems.specs.Underway.{Stepped, Underway}
use Rattle.es_theorems.proofs.Gathering.{begins}
use Rattle.es_theorems.proofs.Hearing.{wait_step}
use Rattle.es_theorems.proofs.Resting.{sleep_step}
use Rattle.es_theorems.proofs.Liking.{like, like_through}
use Rattle.es_theorems.proofs.Stepping.{deed_step, turns_append}

step : (n : ℕ) (all : List Account) (c : ClusterView) (x : LedgerEvent) (es : List LedgerEvent) (i : ℕ) (d : Deed) → ((i : ℕ) → i < n → IsWhole (account_of all i)) → (u : Underway n all c (x ∷ es)) → deed c.ledger.history x ≡ Some (i, d) → Stepped n all c (x ∷ es)
step n all c x es i d wholes u mine = at (is_wait d) refl
  where
    at : (w : Bool) → is_wait d ≡ w → Stepped n all c (x ∷ es)
    at false quick = deed_step n all c x es i d wholes u mine quick
    at true w =
        let its = (meant n c.ledger.history x i d (subst (ComesNext n c.ledger.history x) u.stands.undrained u.steps.0.legal) mine).event in
        elim (begins d w) [
          | inl b ↦ begun (Acted i (WaitingEvent b.0)) (its ∙ ap (event_of i) b.1) (wait_step n all c es i b.0 wholes)
          | inr b ↦ begun (Acted i (Slept b.0 b.1 b.2)) (its ∙ ap (event_of i) b.3) (sleep_step n all c es i b.0 b.1 b.2 wholes)
        ]
      where
        begun : (y : LedgerEvent) → x ≡ y → (Underway n all c (y ∷ es) → Stepped n all c (y ∷ es)) → Stepped n all c (x ∷ es)
        begun y is next = subst (λ x. Stepped n all c (x ∷ es)) (sym is) (next (subst (λ x. Underway n all c (x ∷ es)) is u))

pub through : (fuel n : ℕ) (all : List Account) (c : ClusterView) (es : List LedgerEvent) → ((i : ℕ) → i < n → IsWhole (account_of all i)) → Underway n all c es → length es < suc fuel → Through n all c es
through fuel n all c [] wholes u less = record { turns = []; after = c; turned = refl; behind = []; on = u; idle = tt; like = like c.ledger.history; parts = λ a. refl }
through zero n all c (x ∷ es) wholes u less = absurd (omega (arith, less))
through (suc fuel) n all c (x ∷ es) wholes u less = at (deed c.ledger.history x) refl (λ d es' on few. through fuel n all d es' wholes on few)
  where
    at : (o : Owned) → deed c.ledger.history x ≡ o → ((d : ClusterView) (es' : List LedgerEvent) → Underway n all d es' → length es' < suc fuel → Through n all d es') → Through n all c (x ∷ es)
    at None is more = record { turns = []; after = c; turned = refl; behind = x ∷ es; on = u; idle = is; like = like (played (x ∷ es) c.ledger.history); parts = λ a. refl }
    at (Some p) is more =
        let s = step n all c x es p.0 p.1 wholes u is in
        let r = more s.after s.behind s.on (let fewer = s.less in omega (arith, fewer, less)) in
        record {
          turns = s.turns ++ r.turns;
          after = r.after;
          turned = turns_append s.turns r.turns c s.after r.after s.turned r.turned;
          behind = r.behind;
          on = r.on;
          idle = r.idle;
          like = like_through (played (x ∷ es) c.ledger.history) (played s.behind s.after.ledger.history) (played r.behind r.after.ledger.history) s.like r.like;
          parts = λ a. s.parts a ∙ r.parts a;
        }
