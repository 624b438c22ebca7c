use Rattle.std.proofs.Common.{◌≡◌, ◌⊎◌, ℕ, true, take}
use Rattle.es_value.specs.Ids.{is_in}
use Rattle.es_registry.specs.Places.{waits}
use Rattle.es_registry.specs.Slots.{is_losing, passes_at}
use Rattle.es_registry.proofs.emptying.expect.Given as goal

abbrev pub invariant-loop-place : goal.invariant-loop-place
invariant-loop-place l = record {
  kept : (r k : ℕ) → waits l.fn.waiting r k ≡ true → waits l.waiting r k ≡ true;
  only : (r k : ℕ) → waits l.waiting r k ≡ true → (waits l.fn.waiting r k ≡ true) ⊎ (passes_at (is_losing l.named r) l.slots k ≡ true);
  listed : (r k : ℕ) → is_in (take l.place-index l.places) k ≡ true → passes_at (is_losing l.named r) l.slots k ≡ true → waits l.waiting r k ≡ true;
}
