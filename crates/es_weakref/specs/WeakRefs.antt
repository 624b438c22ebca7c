-- To believe: WeakRefs with their targets, and KeptAlive (WeakRef Objects), as contracts see them.
use Rattle.std.specs.Prelude.{ℕ, ◌≡◌, ◌==◌, List, [], ◌∷◌, Option, Some, None, if◌then◌else◌}
use Rattle.std.specs.Option.{option_and_then}
use Rattle.es_value.specs.Ids.{is_in}

-- each WeakRef with its target, what KeptAlive has, the oldest first, and for how many more of each there is room
pub record WeakRefsView : Type 0 where
  pub targets : List (ℕ × ℕ)
  pub kept : List ℕ
  pub target_room : ℕ
  pub kept_room : ℕ

-- the target of w among these
abbrev pub found : List (ℕ × ℕ) → ℕ → Option ℕ
found [] w = None
found (p ∷ ps) w = if p.0 == w then Some p.1 else found ps w

-- the target of the WeakRef w (WeakRefDeref)
abbrev pub target : WeakRefsView → ℕ → Option ℕ
target t w = found t.targets w

-- none where it is among these
abbrev pub unless_among : List ℕ → ℕ → Option ℕ
unless_among ids t = if is_in ids t then None else Some t

-- w has this target, and every other WeakRef its own
abbrev pub Aims : WeakRefsView → ℕ → ℕ → WeakRefsView → Type 0
Aims old w t new = (v : ℕ) → target new v ≡ (if w == v then Some t else target old v)

-- every WeakRef has the target that it had
abbrev pub SameTargets : WeakRefsView → WeakRefsView → Type 0
SameTargets old new = (v : ℕ) → target new v ≡ target old v

-- targets that are named here are emptied, and so are WeakRefs that are themselves named (Execution)
abbrev pub Empties : WeakRefsView → List ℕ → WeakRefsView → Type 0
Empties old ids new = (v : ℕ) → target new v ≡ (if is_in ids v then None else option_and_then (unless_among ids) (target old v))
