-- What the heap found.
use Rattle.std.proofs.Common.{◌≡◌, ℕ, ◌+◌, ◌<◌, ◌≤◌, true, sym, subst, arith, List, [], length}
use Rattle.std.specs.List.{AllByRecursion}
use Rattle.es_mark.specs.declared.step.Step.{Step}
use Rattle.es_mark.specs.declared.step.Step.TheVariants.{Entry}
use Rattle.es_mark.specs.declared.way.Way.{Way}
use Rattle.es_mark.specs.Ways.{sources, has_way}
use Rattle.es_mark.specs.Finds.{Finds, FindsEntries, has_pair, IsBound}
use Rattle.es_mark.specs.Added.{AreAdded}
use Rattle.es_mark.specs.Search.{HasRoom, IsLed}
use Rattle.es_mark.proofs.Adding.{added_length}
use Rattle.es_mark.proofs.Lists.{all_mono}

module _ {leads : Step → ℕ → Type 0} {origin : List ℕ} {found : List Way} (f : Finds leads origin [] found) where
  pub found_fit : (size : ℕ) → HasRoom leads size → AllByRecursion (λ (w : Way). w.value < size) found
  found_fit size room =
      subst (λ (l : List Way). AllByRecursion (λ (w : Way). w.value < size) l) (sym f.added)
      (all_mono (λ (w : Way). leads w.step w.value × (sources w.step ≡ origin)) (λ (w : Way). w.value < size) f.ways (λ w is. room w.step w.value is.0) f.only)

  pub found_led : (ws : List Way) → AllByRecursion (λ j. has_way ws j ≡ true) origin → AllByRecursion (IsLed leads ws) found
  found_led ws here =
      subst (λ (l : List Way). AllByRecursion (IsLed leads ws) l) (sym f.added)
      (all_mono (λ (w : Way). leads w.step w.value × (sources w.step ≡ origin)) (IsLed leads ws) f.ways
      (λ w is. (is.0, subst (λ (l : List ℕ). AllByRecursion (λ j. has_way ws j ≡ true) l) (sym is.1) here)) f.only)

  pub found_every : (s : Step) (i : ℕ) → leads s i → sources s ≡ origin → has_way found i ≡ true
  found_every s i led comes = subst (λ (l : List Way). has_way l i ≡ true) (sym f.added) (f.every s i led comes)

module _ {leads : Step → ℕ → Type 0} {k : ℕ} {found : List (ℕ × ℕ)} (g : FindsEntries leads k [] found) where
  pub entries_only : AllByRecursion (λ (e : ℕ × ℕ). leads (Entry e.0 k) e.1) found
  entries_only = subst (λ (l : List (ℕ × ℕ)). AllByRecursion (λ (e : ℕ × ℕ). leads (Entry e.0 k) e.1) l) (sym g.added) g.only

  pub entries_fit : (size : ℕ) → HasRoom leads size → AllByRecursion (λ (e : ℕ × ℕ). e.1 < size) found
  entries_fit size room =
      all_mono (λ (e : ℕ × ℕ). leads (Entry e.0 k) e.1) (λ (e : ℕ × ℕ). e.1 < size) found (λ e led. room (Entry e.0 k) e.1 led) entries_only

  pub entries_every : (m i : ℕ) → leads (Entry m k) i → has_pair found m i ≡ true
  entries_every m i led = subst (λ (l : List (ℕ × ℕ)). has_pair l m i ≡ true) (sym g.added) (g.every m i led)

-- there is room for all up to the number
pub has_room : (leads : Step → ℕ → Type 0) (made size : ℕ) → IsBound leads made → made < size → HasRoom leads size
has_room leads made size bound l s i led = let least : i ≤ made = bound s i led in omega arith

-- the next ways are as many at least
pub next_within : (done : ℕ) (found ws next : List Way) → done < length ws → AreAdded found ws next → done + 1 ≤ length next
next_within done found ws next l a = omega (arith, added_length a)
