-- What holds of a step that may have been taken, by whether it was.
use Rattle.std.proofs.Common.{refl, Bool, true, false, ◌≡◌, Result, Ok, Err}
use Rattle.std.specs.Prelude.{◌↔◌, IfOk, OnErr, IsTrue}

-- what holds of a step that was taken
pub taken : {E D P T : Type 0} (r : Result Bool E) → IfOk r (λ done. IsTrue done ↔ D) → IfOk r (λ done. IsTrue done → P) → (D → P → T) → IfOk r (λ done. IsTrue done → T)
taken (Ok b) asks done both = λ is. both (asks.0 is) (done is)
taken (Err e) asks done both = tt

-- what holds whether it was taken or not
pub either : {E D P S T : Type 0} (r : Result Bool E) → IfOk r (λ done. IsTrue done ↔ D) → IfOk r (λ done. IsTrue done → P) → IfOk r (λ done. done ≡ false → S) → OnErr r S → (D → P → T) → (S → T) → T
either (Ok true) asks done left err both same = both (asks.0 refl) (done refl)
either (Ok false) asks done left err both same = same (left refl)
either (Err e) asks done left err both same = same err
