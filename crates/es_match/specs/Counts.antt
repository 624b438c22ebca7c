-- Internal: serials that are still to be spent, by how often each is there.
use Rattle.std.specs.Prelude.{ℕ, ◌≡◌, ◌+◌, ◌==◌, Bool, true, false, nat_eq, List, [], ◌∷◌, length, Some, None, unwrap_or, if◌then◌else◌}
use Rattle.std.specs.HashMap.{get}
use Rattle.es_match.specs.declared.spending.Left.{Left}
use Rattle.es_match.specs.Deeds.{Deed}
use Rattle.es_match.specs.Meets.{spends, strike}
use Rattle.es_match.specs.LedgerPass.{Map}

-- how often the serial is in the list
abbrev pub count : ℕ → List ℕ → ℕ
count s [] = 0
count s (n ∷ ns) = (if n == s then 1 else 0) + count s ns

abbrev pub count_in : Map ℕ ℕ → ℕ → ℕ
count_in m s = unwrap_or (get nat_eq m s) 0

-- what is left are these serials, in whatever order
pub record IsLeft (ns : List ℕ) (l : Left) : Type 0 where
  pub counts : (s : ℕ) → count_in l.counts s ≡ count s ns
  pub size : l.size ≡ length ns

-- the serial was struck off, or is not there
abbrev pub Struck : Bool → List ℕ → ℕ → Left → Type 0
Struck true ns s l = (ms : List ℕ) × (strike s ns ≡ Some ms) × IsLeft ms l
Struck false ns s l = strike s ns ≡ None

-- the serials, and then these deeds, are spent as those that are left, and then those deeds
pub record IsSpending (closing : Bool) (ns : List ℕ) (ds : List Deed) (l : Left) (es : List Deed) : Type 0 where
  pub serials : List ℕ
  pub left : IsLeft serials l
  pub same : spends closing ns ds ≡ spends closing serials es
