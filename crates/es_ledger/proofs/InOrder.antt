-- What a port gave, followed by what it still has, is what was posted there.
use Rattle.std.proofs.Common.{◌≡◌, ℕ, List, [], ◌∷◌, ◌++◌, drop, Bool, true, false, cond, refl, sym, ap, ◌∙◌, append_assoc, append-nil}
use Rattle.std.specs.Prelude.{slice_get, option_to_list}
use Rattle.es_event.specs.declared.ledger_event.Body.{Body}
use Rattle.es_event.specs.declared.ledger_event.LedgerEvent.{LedgerEvent}
use Rattle.es_event.specs.declared.ledger_event.LedgerEvent.TheVariants.{Posted, Taken, Drained}
use Rattle.es_event.specs.Ledger.{Ledger, port_of, is_at}
use Rattle.es_ledger.specs.Laws.{posted, given}

-- an event that posts nothing there and takes nothing from there
same : (p g q : List Body) → p ≡ g ++ q → p ++ [] ≡ (g ++ []) ++ q
same p g q is = append-nil p ∙ is ∙ ap (λ x. x ++ q) (sym (append-nil g))

put : (p g q m : List Body) → p ≡ g ++ q → p ++ m ≡ (g ++ []) ++ (q ++ m)
put p g q m is = ap (λ x. x ++ m) is ∙ append_assoc g q m ∙ ap (λ x. x ++ (q ++ m)) (sym (append-nil g))

-- the first is taken, if there is one
first : (q : List Body) → q ≡ option_to_list (slice_get q 0) ++ drop 1 q
first [] = refl
first (x ∷ q) = refl

got : (p g q : List Body) → p ≡ g ++ q → p ++ [] ≡ (g ++ option_to_list (slice_get q 0)) ++ drop 1 q
got p g q is = append-nil p ∙ is ∙ ap (λ x. g ++ x) (first q) ∙ sym (append_assoc g (option_to_list (slice_get q 0)) (drop 1 q))

put_if : (b : Bool) (p g q m : List Body) → p ≡ g ++ q → p ++ cond b m [] ≡ (g ++ []) ++ cond b (q ++ m) q
put_if true p g q m is = put p g q m is
put_if false p g q m is = same p g q is

got_if : (b : Bool) (p g q : List Body) → p ≡ g ++ q → p ++ [] ≡ (g ++ cond b (option_to_list (slice_get q 0)) []) ++ cond b (drop 1 q) q
got_if true p g q is = got p g q is
got_if false p g q is = same p g q is

next : (l : Ledger) (e : LedgerEvent) (s r : ℕ) → posted l s r ≡ given l s r ++ port_of l s r → posted (e ∷ l) s r ≡ given (e ∷ l) s r ++ port_of (e ∷ l) s r
next l (Posted t u m) s r is = put_if (is_at s r t u) (posted l s r) (given l s r) (port_of l s r) (m ∷ []) is
next l (Taken t u) s r is = got_if (is_at s r t u) (posted l s r) (given l s r) (port_of l s r) is
next l (Drained t u) s r is = got_if (is_at s r t u) (posted l s r) (given l s r) (port_of l s r) is
next l _ s r is = same (posted l s r) (given l s r) (port_of l s r) is

pub in_order : (l : Ledger) (s r : ℕ) → posted l s r ≡ given l s r ++ port_of l s r
in_order [] s r = refl
in_order (e ∷ l) s r = next l e s r (in_order l s r)
