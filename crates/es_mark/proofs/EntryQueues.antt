-- What the definition `waiting_for` finds in the map of lists.
use Rattle.std.proofs.Common.{◌≡◌, ℕ, List, [], ◌∷◌, ◌++◌, map, nat_eq, cond, Option, Some, None, refl, sym, ◌∙◌, ap, inl, inr, arith, Vec}
use Rattle.std.specs.declared.alloc.Global.{Global}
use Rattle.std.proofs.lemmas.Bool.{cases_Bool}
use Rattle.std.proofs.lemmas.Bool.Decides.{nat_tests}
use Rattle.std.specs.Map.{lookup}
use Rattle.std.specs.Option.{option_map, unwrap_or}
use Rattle.es_mark.specs.WaitingEntries.{WaitingEntriesView, waiting_for, Waits}

-- the lists, each under its map
abbrev pub shown : List (ℕ × Vec (ℕ × ℕ) Global) → WaitingEntriesView
shown es = map (λ e. (e.0, e.1.items)) es

pub waiting_of : (es : List (ℕ × Vec (ℕ × ℕ) Global)) (m : ℕ) → waiting_for (shown es) m ≡ unwrap_or (option_map (λ v. v.items) (lookup (nat_eq m) es)) []
waiting_of [] m = refl
waiting_of (e ∷ es) m =
    let rest : waiting_for (shown es) m ≡ unwrap_or (option_map (λ v. v.items) (lookup (nat_eq m) es)) [] = waiting_of es m in
    grind (arith, nat_tests, rest)

items_of : Option (Vec (ℕ × ℕ) Global) → List (ℕ × ℕ)
items_of found = unwrap_or (option_map (λ v. v.items) found) []

-- a list that is found is what waits
pub found_some : (es : List (ℕ × Vec (ℕ × ℕ) Global)) (m : ℕ) (v : Vec (ℕ × ℕ) Global) → Some v ≡ lookup (nat_eq m) es → v.items ≡ waiting_for (shown es) m
unfolding items_of
found_some es m v is = sym (waiting_of es m ∙ ap items_of (sym is))

pub found_none : (es : List (ℕ × Vec (ℕ × ℕ) Global)) (m : ℕ) → None ≡ lookup (nat_eq m) es → [] ≡ waiting_for (shown es) m
unfolding items_of
found_none es m is = sym (waiting_of es m ∙ ap items_of (sym is))

-- a list with one more value in the place of what waited
pub waits_set : (es fs : List (ℕ × Vec (ℕ × ℕ) Global)) (m : ℕ) (v : ℕ × ℕ) (w : Vec (ℕ × ℕ) Global) → w.items ≡ waiting_for (shown es) m ++ v ∷ []
    → ((q : ℕ) → lookup (nat_eq q) fs ≡ cond (nat_eq m q) (Some w) (lookup (nat_eq q) es)) → Waits (shown es) m v (shown fs)
unfolding items_of
waits_set es fs m v w more updates k = elim (cases_Bool (nat_eq m k)) [
  | inl s ↦ rw s (waiting_of fs k ∙ ap items_of (rw s at (updates k)) ∙ more)
  | inr s ↦ rw s (waiting_of fs k ∙ ap items_of (rw s at (updates k)) ∙ sym (waiting_of es k))
]
