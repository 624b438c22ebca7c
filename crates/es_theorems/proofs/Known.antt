-- Whom an agent waits for is another agent that is there.
use Rattle.std.proofs.Common.{◌≡◌, ◌≢◌, ℕ, ◌<◌, ◌==◌, Bool, true, false, cond, refl, subst, [], ◌∷◌, Option, Some, None}
use Rattle.std.proofs.lemmas.Bool.{eqb-true}
use Rattle.es_event.specs.declared.ledger_event.LedgerEvent.TheVariants.{Taken, Acted}
use Rattle.es_event.specs.declared.ledger_event.Act.TheVariants.{Waiting, Passed}
use Rattle.es_event.specs.Ledger.{Ledger, waits}
use Rattle.es_event.specs.LegalLedger.{ComesNext, LegalSoFar, owed}

may_wait : (n : ℕ) (l : Ledger) (a s : ℕ) (o : Option ℕ) → ComesNext n l (Acted a (Waiting s)) o → (s < n) × (a ≢ s)
may_wait n l a s None may = (may.1, may.2)
may_wait n l a s (Some k) may = cc

by_end : (n a s : ℕ) (t : Bool) (before : Option ℕ) → (before ≡ Some s → (s < n) × (a ≢ s)) → cond t None before ≡ Some s → (s < n) × (a ≢ s)
by_end n a s true before rest is = cc
by_end n a s false before rest is = rest is

by_wait : (n a s b u : ℕ) (t : Bool) (before : Option ℕ) → (b == a) ≡ t → (u < n) × (b ≢ u) → (before ≡ Some s → (s < n) × (a ≢ s)) → cond t (Some u) before ≡ Some s → (s < n) × (a ≢ s)
by_wait n a s b u true before here may rest is =
    let same : u ≡ s = cc in
    (subst (λ u. u < n) same may.0, subst (λ u. a ≢ u) same (subst (λ b. b ≢ u) (eqb-true b a here) may.1))
by_wait n a s b u false before here may rest is = rest is

pub waits_known : (n : ℕ) (l : Ledger) → LegalSoFar n l → (a s : ℕ) → waits l a ≡ Some s → (s < n) × (a ≢ s)
waits_known n [] legal a s is = cc
waits_known n (Acted b (Waiting u) ∷ l) legal a s is = by_wait n a s b u (b == a) (waits l a) refl (may_wait n l b u (owed l) legal.0) (waits_known n l legal.1 a s) is
waits_known n (Taken t r ∷ l) legal a s is = by_end n a s (r == a) (waits l a) (waits_known n l legal.1 a s) is
waits_known n (Acted b (Passed u) ∷ l) legal a s is = by_end n a s (b == a) (waits l a) (waits_known n l legal.1 a s) is
waits_known n (_ ∷ l) legal a s is = waits_known n l legal.1 a s is
