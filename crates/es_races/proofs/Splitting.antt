-- A history that is read from the oldest event on, parted at one event.
use Rattle.std.proofs.Common.{◌≡◌, ℕ, ◌+◌, ◌<◌, sym, ◌∙◌, ap, List, ◌∷◌, ◌++◌, length, take, drop, get_or, reverse}
use Rattle.std.proofs.lemmas.List.{reverse-append, take-append-drop}
use Rattle.es_report.proofs.Lists.{reversed_more}

pub parted : {X : Type 0} (xs : List X) (i : ℕ) (x : X) → i < length xs → x ≡ get_or xs i x → reverse xs ≡ reverse (drop (i + 1) xs) ++ x ∷ reverse (take i xs)
parted xs i x within is =
    ap reverse (sym (take-append-drop (i + 1) xs)) ∙ reverse-append (take (i + 1) xs) (drop (i + 1) xs)
    ∙ ap (λ l. reverse (drop (i + 1) xs) ++ l) (reversed_more xs i x within is)
