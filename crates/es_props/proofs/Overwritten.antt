-- A value that is written over another.
use Rattle.std.proofs.Common.{Bool, true, false, cond, ◌≡◌, refl, Option, Some}
use Rattle.std.specs.Prelude.{unwrap_or}

-- the value that is written, or what stood before
pub unwrapped : {A : Type 0} (b : Bool) (new : A) (old : Option A) (d : A) → unwrap_or (cond b (Some new) old) d ≡ cond b new (unwrap_or old d)
unwrapped true new old d = refl
unwrapped false new old d = refl
