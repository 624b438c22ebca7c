-- What a port has after a change of one port.
use Rattle.std.proofs.lemmas.Bool.{and_parts}
use Rattle.std.proofs.Common.{◌≡◌, ℕ, Bool, true, false, cond, ◌&&◌, nat_eq, List, [], ◌∷◌, ◌++◌, Option, Result, Ok, Err, OnOk, Some, refl, sym, ◌∙◌, ap, if◌then◌else◌, eqb-true}
use Rattle.std.specs.Option.{option_map_or}
use Rattle.std.specs.declared.alloc.Global.{Global}
use Rattle.std.specs.declared.collections.VecDeque.{VecDeque}
use denote.Ref.{Bor}
use Rattle.es_event.specs.declared.ledger_event.Body.{Body}
use Rattle.es_match.specs.LedgerPass.{bodies, pair_eq}

abbrev pub Queue : Type 0
Queue = VecDeque (Bor Body) Global

abbrev pub queued_in : Option Queue → List Body
queued_in o = option_map_or (λ q. bodies q.items) o []

pub port_after : (old new : ℕ × ℕ → Option Queue) (a b : ℕ) (v : Queue)
    → ((q : ℕ × ℕ) → new q ≡ cond (pair_eq (a, b) q) (Some v) (old q))
    → (f : ℕ → ℕ → List Body) → bodies v.items ≡ f a b
    → (s r : ℕ) → queued_in (new (s, r)) ≡ (if nat_eq a s && nat_eq b r then f s r else queued_in (old (s, r)))
port_after old new a b v updates f is s r = case-of (nat_eq a s && nat_eq b r) refl
  where
    case-of : (o : Bool) → (nat_eq a s && nat_eq b r) ≡ o
        → queued_in (new (s, r)) ≡ (if nat_eq a s && nat_eq b r then f s r else queued_in (old (s, r)))
    case-of true here =
        let p = and_parts _ _ here in
        let x : a ≡ s = eqb-true a s p.0 in
        let y : b ≡ r = eqb-true b r p.1 in
        ap queued_in (rw here at (updates (s, r))) ∙ is ∙ ap (λ k. f k b) x ∙ ap (f s) y ∙ rw here refl
    case-of false other = ap queued_in (rw other at (updates (s, r))) ∙ rw other refl

pub on_ok : {A E : Type 0} {P Q : Type 0} (r : Result A E) → (P → Q) → OnOk r P → OnOk r Q
on_ok (Ok a) f p = f p
on_ok (Err e) f p = tt

-- a port without messages and a new one
pub first_message : (none some : List Body) (m : Body) → none ≡ [] → some ≡ [] ++ m ∷ [] → some ≡ none ++ m ∷ []
first_message none some m is more = more ∙ ap (λ l. l ++ m ∷ []) (sym is)
