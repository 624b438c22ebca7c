-- A value in a port has no identity.
use Rattle.std.proofs.Common.{◌≡◌, ℕ, List, [], ◌∷◌, ◌++◌, drop, Bool, true, false, cond, sym, subst, Option, Some, None}
use Rattle.es_value.specs.Values.{identity}
use Rattle.es_event.specs.declared.ledger_event.Body.{Body}
use Rattle.es_event.specs.declared.ledger_event.Body.TheVariants.{Plain, Block}
use Rattle.es_event.specs.declared.ledger_event.LedgerEvent.{LedgerEvent}
use Rattle.es_event.specs.declared.ledger_event.LedgerEvent.TheVariants.{Posted, Taken, Drained}
use Rattle.es_event.specs.Ledger.{Ledger, port_of, is_at}
use Rattle.es_event.specs.LegalLedger.{ComesNext, LegalSoFar, IsPostable, owed}

abbrev pub IsPlain : Body → Type 0
IsPlain (Plain v) = identity v ≡ None
IsPlain (Block b k) = Unit {0}

abbrev pub ArePlain : List Body → Type 0
ArePlain [] = Unit {0}
ArePlain (m ∷ ms) = IsPlain m × ArePlain ms

plain_last : (ms : List Body) (m : Body) → ArePlain ms → IsPlain m → ArePlain (ms ++ m ∷ [])
plain_last [] m are is = (is, tt)
plain_last (n ∷ ms) m are is = (are.0, plain_last ms m are.1 is)

plain_dropped : (ms : List Body) → ArePlain ms → ArePlain (drop 1 ms)
plain_dropped [] are = tt
plain_dropped (m ∷ ms) are = are.1

if_at : (b : Bool) (ms ns : List Body) → ArePlain ms → ArePlain ns → ArePlain (cond b ms ns)
if_at true ms ns a b = a
if_at false ms ns a b = b

postable : (l : Ledger) (a : ℕ) (m : Body) → IsPostable l a m → IsPlain m
postable l a (Plain v) may = may
postable l a (Block b k) may = tt

next : (n : ℕ) (l : Ledger) (e : LedgerEvent) (o : Option ℕ) → ComesNext n l e o → (s r : ℕ) → ArePlain (port_of l s r) → ArePlain (port_of (e ∷ l) s r)
next n l e (Some k) c s r are = subst (λ e. ArePlain (port_of (e ∷ l) s r)) (sym c) are
next n l (Posted t u m) None c s r are = if_at (is_at s r t u) _ _ (plain_last (port_of l s r) m are (postable l t m c.3)) are
next n l (Taken t u) None c s r are = if_at (is_at s r t u) _ _ (plain_dropped (port_of l s r) are) are
next n l (Drained t u) None c s r are = if_at (is_at s r t u) _ _ (plain_dropped (port_of l s r) are) are
next n l _ None c s r are = are

pub all_plain : (n : ℕ) (l : Ledger) → LegalSoFar n l → (s r : ℕ) → ArePlain (port_of l s r)
all_plain n [] legal s r = tt
all_plain n (e ∷ l) legal s r = next n l e (owed l) legal.0 s r (all_plain n l legal.1 s r)
