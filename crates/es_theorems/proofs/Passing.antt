-- Who skips a job that waits for another agent: that one is another, and is there.
use Rattle.std.proofs.Common.{◌≡◌, ◌≢◌, ℕ, ◌<◌, ◌==◌, ◌&&◌, Bool, true, false, cond, refl, subst, List, [], ◌∷◌, ◌++◌, Option, Some, None}
use Rattle.es_event.specs.declared.ledger_event.LedgerEvent.{LedgerEvent}
use Rattle.es_event.specs.declared.ledger_event.LedgerEvent.TheVariants.{Acted}
use Rattle.es_event.specs.declared.ledger_event.Act.TheVariants.{Passed}
use Rattle.es_event.specs.Ledger.{Ledger}
use Rattle.es_event.specs.LegalLedger.{ComesNext, LegalSoFar, owed}
use Rattle.es_match.specs.Deeds.{Deed, Owned, Passes, deed, part, part_of}
use Rattle.std.proofs.lemmas.Bool.{and_parts, eqb-true}
use Rattle.es_theorems.proofs.Doing.{event_is}
use Rattle.es_theorems.proofs.Known.{waits_known}

-- a skip is of a job that waits for another of n agents
abbrev Aims : ℕ → ℕ → Deed → Type 0
Aims n a (Passes s) = (s < n) × (a ≢ s)
Aims n a _ = Unit {0}

abbrev AllAim : ℕ → ℕ → List Deed → Type 0
AllAim n a [] = Unit {0}
AllAim n a (d ∷ ds) = Aims n a d × AllAim n a ds

both_aim : (n a : ℕ) (ds es : List Deed) → AllAim n a ds → AllAim n a es → AllAim n a (ds ++ es)
both_aim n a [] es x y = y
both_aim n a (d ∷ ds) es x y = (x.0, both_aim n a ds es x.1 y)

last_aims : (n a : ℕ) (ds : List Deed) (d : Deed) → AllAim n a (ds ++ d ∷ []) → Aims n a d
last_aims n a [] d all = all.0
last_aims n a (c ∷ ds) d all = last_aims n a ds d all.1

aim_if : (n a : ℕ) (t : Bool) (d : Deed) → (t ≡ true → Aims n a d) → AllAim n a (cond t (d ∷ []) [])
aim_if n a true d is = (is refl, tt)
aim_if n a false d is = tt

-- it waited for it
may_pass : (n : ℕ) (l : Ledger) (b s : ℕ) (o : Option ℕ) → LegalSoFar n l → ComesNext n l (Acted b (Passed s)) o → (s < n) × (b ≢ s)
may_pass n l b s None legal may = waits_known n l legal b s may.0
may_pass n l b s (Some k) legal may = cc

newest_aims : (n : ℕ) (l : Ledger) (e : LedgerEvent) (a : ℕ) → LegalSoFar n (e ∷ l) → AllAim n a (part_of a (deed l e))
newest_aims n l e a legal = by (deed l e) refl
  where
    aims : (b : ℕ) (d : Deed) → deed l e ≡ Some (b, d) → (b == a) ≡ true → Aims n a d
    aims b (Passes s) is same = subst (λ a. (s < n) × (a ≢ s)) (eqb-true b a same) (may_pass n l b s (owed l) legal.1 (subst (λ e. ComesNext n l e (owed l)) (event_is l e b (Passes s) is) legal.0))
    aims b _ is same = tt

    by : (o : Owned) → deed l e ≡ o → AllAim n a (part_of a o)
    by None is = tt
    by (Some p) is = aim_if n a _ p.1 (λ t. aims p.0 p.1 is (and_parts (p.0 == a) _ t).0)

all_aim : (n : ℕ) (l : Ledger) → LegalSoFar n l → (a : ℕ) → AllAim n a (part l a)
all_aim n [] legal a = tt
all_aim n (e ∷ l) legal a = both_aim n a (part l a) (part_of a (deed l e)) (all_aim n l legal.1 a) (newest_aims n l e a legal)

pub passes_known : (n : ℕ) (l : Ledger) (a s : ℕ) (ds : List Deed) → LegalSoFar n l → part l a ≡ ds ++ Passes s ∷ [] → (s < n) × (a ≢ s)
passes_known n l a s ds legal is = last_aims n a ds (Passes s) (subst (AllAim n a) is (all_aim n l legal a))
