-- What a port has after a change of one port.
use Rattle.std.proofs.Common.{◌≡◌, ℕ, Bool, true, false, cond, ◌&&◌, nat_eq, List, [], Option, Some, refl, ◌∙◌, ap, eqb-true}
use Rattle.std.specs.Option.{option_map_or}
use Rattle.std.proofs.lemmas.Bool.{and_parts}
use Rattle.std.specs.declared.alloc.Global.{Global}
use Rattle.std.specs.declared.collections.VecDeque.{VecDeque}
use Rattle.es_races.specs.declared.ports.Message.{Message}
use Rattle.es_races.specs.Pass.{pair_eq}

abbrev pub Queue : Type 0
Queue = VecDeque Message Global

abbrev pub queued_in : Option Queue → List Message
queued_in o = option_map_or (λ q. q.items) o []

pub port_after : (old new : ℕ × ℕ → Option Queue) (a b : ℕ) (v : Queue) → ((q : ℕ × ℕ) → new q ≡ cond (pair_eq (a, b) q) (Some v) (old q))
    → (f : ℕ → ℕ → List Message) → v.items ≡ f a b
    → (s r : ℕ) → queued_in (new (s, r)) ≡ cond (nat_eq a s && nat_eq b r) (f s r) (queued_in (old (s, r)))
port_after old new a b v updates f is s r = case_of (nat_eq a s && nat_eq b r) refl
  where
    case_of : (o : Bool) → (nat_eq a s && nat_eq b r) ≡ o → queued_in (new (s, r)) ≡ cond (nat_eq a s && nat_eq b r) (f s r) (queued_in (old (s, r)))
    case_of true here =
        let p = and_parts _ _ here in
        let x : a ≡ s = eqb-true a s p.0 in
        let y : b ≡ r = eqb-true b r p.1 in
        ap queued_in (rw here at (updates (s, r))) ∙ is ∙ ap (λ k. f k b) x ∙ ap (f s) y ∙ rw here refl
    case_of false other = ap queued_in (rw other at (updates (s, r))) ∙ rw other refl
