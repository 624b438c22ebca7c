-- An agent's tickets: each is the agent's in the ledger, no two have one serial, and so they can be spent.
use Rattle.std.proofs.Common.{◌≡◌, ℕ, Bool, true, false, cond, sym, ◌∙◌, ap, refl, subst, List, [], ◌∷◌, ◌++◌, map, Some, None}
use Rattle.std.specs.Prelude.{is_some}
use Rattle.std.specs.List.{filter}
use Rattle.es_event.specs.declared.ledger_event.LedgerEvent.{LedgerEvent}
use Rattle.es_event.specs.declared.ledger_event.LedgerEvent.TheVariants.{Spent}
use Rattle.es_event.specs.declared.row.Row.{Row}
use Rattle.es_event.specs.Ledger.{Ledger, holder_of}
use Rattle.es_event.specs.LegalLedger.{ComesNext, LegalSoFar, owed}
use Rattle.es_event.proofs.Entries.{inner}
use Rattle.es_match.specs.Deeds.{Deed, Spends, deed}
use Rattle.es_match.specs.Meets.{Tickets}
use Rattle.es_cluster.specs.Tied.{AreDeedsOf, GrowsBy}
use Rattle.es_cluster.specs.Turned.{spent}
use Rattle.es_cluster.proofs.Growing.{by_ticket}
use Rattle.es_theorems.specs.Going.{AllHeld, Apart, OtherThan}
use Rattle.es_theorems.proofs.Holding.{held_on}

-- Lists

other_if : (k : ℕ) (b : Bool) (t : ℕ × Row) (ts : Tickets) → (t.1.serial ≡ k → ⊥) → OtherThan k ts → OtherThan k (cond b (t ∷ ts) ts)
other_if k true t ts here rest = (here, rest)
other_if k false t ts here rest = rest

pub other_picked : (p : ℕ × Row → Bool) (k : ℕ) (ts : Tickets) → OtherThan k ts → OtherThan k (filter p ts)
other_picked p k [] other = tt
other_picked p k (t ∷ ts) other = other_if k (p t) t (filter p ts) other.0 (other_picked p k ts other.1)

pub apart_picked : (p : ℕ × Row → Bool) (ts : Tickets) → Apart ts → Apart (filter p ts)
apart_picked p [] apart = tt
apart_picked p (t ∷ ts) apart = step (p t) (apart_picked p ts apart.1)
  where
    step : (b : Bool) → Apart (filter p ts) → Apart (cond b (t ∷ filter p ts) (filter p ts))
    step true ih = (other_picked p t.1.serial ts apart.0, ih)
    step false ih = ih

pub held_picked : (p : ℕ × Row → Bool) (n : ℕ) (l : Ledger) (ts : Tickets) → AllHeld n l ts → AllHeld n l (filter p ts)
held_picked p n l [] held = tt
held_picked p n l (t ∷ ts) held = step (p t) (held_picked p n l ts held.1)
  where
    step : (b : Bool) → AllHeld n l (filter p ts) → AllHeld n l (cond b (t ∷ filter p ts) (filter p ts))
    step true ih = (held.0, ih)
    step false ih = ih

pub other_more : (k : ℕ) (ts : Tickets) (t : ℕ × Row) → OtherThan k ts → (t.1.serial ≡ k → ⊥) → OtherThan k (ts ++ t ∷ [])
other_more k [] t other here = (here, tt)
other_more k (x ∷ ts) t other here = (other.0, other_more k ts t other.1 here)

pub apart_more : (ts : Tickets) (t : ℕ × Row) → Apart ts → OtherThan t.1.serial ts → Apart (ts ++ t ∷ [])
apart_more [] t apart other = (tt, tt)
apart_more (x ∷ ts) t apart other = (other_more x.1.serial ts t apart.0 (λ same. other.0 (sym same)), apart_more ts t apart.1 other.1)

pub held_more : (n : ℕ) (l : Ledger) (ts : Tickets) (t : ℕ × Row) → AllHeld n l ts → holder_of l t.1.serial ≡ Some (n, t.1) → AllHeld n l (ts ++ t ∷ [])
held_more n l [] t held here = (here, tt)
held_more n l (x ∷ ts) t held here = (held.0, held_more n l ts t held.1 here)

-- a serial that the agent does not hold is none of them
pub other_than_held : (n k : ℕ) (l : Ledger) (ts : Tickets) → AllHeld n l ts → ((r : Row) → holder_of l k ≡ Some (n, r) → ⊥) → OtherThan k ts
other_than_held n k l [] held none = tt
other_than_held n k l (t ∷ ts) held none = ((λ same. none t.1 (ap (holder_of l) (sym same) ∙ held.0)), other_than_held n k l ts held.1 none)

-- One event more

pub held_after : (n : ℕ) (l : Ledger) (e : LedgerEvent) (a : ℕ) (ts : Tickets) → LegalSoFar n l → ((k : ℕ) → e ≡ Spent k → ⊥) → AllHeld a l ts → AllHeld a (e ∷ l) ts
held_after n l e a [] legal other held = tt
held_after n l e a (t ∷ ts) legal other held = (held_on n l e t.1.serial a t.1 legal (other t.1.serial) held.0, held_after n l e a ts legal other held.1)

pub held_but : (n : ℕ) (l : Ledger) (k a : ℕ) (ts : Tickets) → LegalSoFar n l → OtherThan k ts → AllHeld a l ts → AllHeld a (Spent k ∷ l) ts
held_but n l k a [] legal other held = tt
held_but n l k a (t ∷ ts) legal other held = (
  held_on n l (Spent k) t.1.serial a t.1 legal (λ e. other.0 (let same : k ≡ t.1.serial = cc in sym same)) held.0,
  held_but n l k a ts legal other.1 held.1,
)

-- what another agent does leaves them
pub held_beside : (m n : ℕ) (l k : Ledger) (a : ℕ) (ts : Tickets) → GrowsBy n l k → LegalSoFar m k → (a ≡ n → ⊥) → AllHeld a l ts → AllHeld a k ts
held_beside m n l k a ts grows legal other held = subst (λ k. AllHeld a k ts) (sym grows.1) (each grows.0 grows.2 (subst (LegalSoFar m) grows.1 legal))
  where
    spender : (g : Ledger) (j : ℕ) (d : Deed) (r : Row) → deed g (Spent j) ≡ Some (n, d) → holder_of g j ≡ Some (a, r) → ⊥
    spender g j d r did mine =
        let both : ◌≡◌ {A = ℕ × Deed} (a, Spends j) (n, d) = inner (sym (by_ticket g j a r (Spends j) mine) ∙ did) in
        other (ap (λ p. p.0) both)

    one : (g : Ledger) (e : LedgerEvent) (d : Deed) (us : Tickets) → LegalSoFar m g → deed g e ≡ Some (n, d) → AllHeld a g us → AllHeld a (e ∷ g) us
    one g e d [] legal did held = tt
    one g e d (t ∷ us) legal did held = (
      held_on m g e t.1.serial a t.1 legal (λ is. spender g t.1.serial d t.1 (ap (deed g) (sym is) ∙ did) held.0) held.0,
      one g e d us legal did held.1,
    )

    each : (es : List LedgerEvent) → AreDeedsOf n es l → LegalSoFar m (es ++ l) → AllHeld a (es ++ l) ts
    each [] are legal = held
    each (e ∷ es) are legal = one (es ++ l) e are.0.0 ts legal.1 are.0.1 (each es are.1 legal.1)

-- Spending

pub record AllSpent (m n : ℕ) (l : Ledger) (ts : Tickets) : Type 0 where
  pub legal : LegalSoFar m (spent ts l)
  pub owes : owed (spent ts l) ≡ None
  pub deeds : AreDeedsOf n (map (λ t. Spent t.1.serial) ts) l
  pub stays : (a k : ℕ) (r : Row) → OtherThan k ts → holder_of l k ≡ Some (a, r) → holder_of (spent ts l) k ≡ Some (a, r)

pub spend_all : (m n : ℕ) (l : Ledger) (ts : Tickets) → LegalSoFar m l → owed l ≡ None → AllHeld n l ts → Apart ts → AllSpent m n l ts
spend_all m n l [] legal owes held apart = record { legal = legal; owes = owes; deeds = tt; stays = λ a k r other is. is }
spend_all m n l (t ∷ ts) legal owes held apart =
    let rest = spend_all m n l ts legal owes held.1 apart.1 in
    let mine : holder_of (spent ts l) t.1.serial ≡ Some (n, t.1) = rest.stays n t.1.serial t.1 apart.0 held.0 in
    record {
      legal = (subst (ComesNext m (spent ts l) (Spent t.1.serial)) (sym rest.owes) (ap is_some mine), rest.legal);
      owes = refl;
      deeds = ((Spends t.1.serial, by_ticket (spent ts l) t.1.serial n t.1 (Spends t.1.serial) mine), rest.deeds);
      stays = λ a k r other is. held_on m (spent ts l) (Spent t.1.serial) k a r rest.legal (λ e. other.0 (let same : t.1.serial ≡ k = cc in same)) (rest.stays a k r other.1 is);
    }
