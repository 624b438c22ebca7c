-- When the same becomes of a word.
use Rattle.std.proofs.Common.{◌≡◌, true, refl, sym, ap, eq-eqb}
use Rattle.std.proofs.lemmas.Bool.{eqb-true}
use Rattle.es_event.specs.declared.access.Change.{Change}
use Rattle.es_event.specs.Access.{is_same_change}

pub same_as_itself : (c : Change) → is_same_change c c ≡ true
same_as_itself Change.Keep = refl
same_as_itself (Change.Write w) = eq-eqb w w refl
same_as_itself (Change.Add n) = eq-eqb n n refl

pub same_change : (c other : Change) → is_same_change c other ≡ true → other ≡ c
same_change Change.Keep Change.Keep is = refl
same_change (Change.Write w) (Change.Write v) is = ap Change.Write (sym (eqb-true w v is))
same_change (Change.Add n) (Change.Add k) is = ap Change.Add (sym (eqb-true n k is))
same_change _ _ is = cc
