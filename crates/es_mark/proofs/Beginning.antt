-- After the roots.
use Rattle.std.proofs.Common.{◌≡◌, ℕ, sym, subst, arith, List, [], take, refl}
use Rattle.std.specs.List.{AllByRecursion}
use Rattle.es_mark.specs.declared.step.Step.{Step}
use Rattle.es_mark.specs.declared.step.Step.TheVariants.{Variable, Kept, Registry, Held, Property, Entry}
use Rattle.es_mark.specs.declared.way.Way.{Way}
use Rattle.es_mark.specs.Finds.{Finds}
use Rattle.es_mark.specs.Added.{AreAdded}
use Rattle.es_mark.specs.WaitingEntries.{WaitingEntriesView, waiting_for}
use Rattle.es_mark.specs.Search.{IsWaiting, Covers, Searching, Sorting}
use Rattle.es_mark.proofs.Adding.{added_has, added_ordered}
use Rattle.es_mark.proofs.Finding.{found_led, found_every}
use Rattle.es_mark.proofs.Sorted.{sorting_added}

module _ (leads : Step → ℕ → Type 0) (found ws : List Way) (f : Finds leads [] [] found) (a : AreAdded found [] ws) where
  covers : (waiting : WaitingEntriesView) (s : Step) (i : ℕ) → leads s i → Covers [] ws waiting s i
  covers waiting (Variable n) i led = added_has a i (found_every f (Variable n) i led refl)
  covers waiting Kept i led = added_has a i (found_every f Kept i led refl)
  covers waiting Registry i led = added_has a i (found_every f Registry i led refl)
  covers waiting (Held n) i led = added_has a i (found_every f (Held n) i led refl)
  covers waiting (Property o n) i led = λ e. cc
  covers waiting (Entry m k) i led = λ e. cc

  pub begins : (waiting : WaitingEntriesView) → ((m : ℕ) → waiting_for waiting m ≡ []) → Searching leads 0 ws waiting
  begins waiting none = record {
    bound = omega arith;
    ordered = added_ordered leads found [] ws a tt (found_led f [] tt);
    covers = covers waiting;
    waits = λ m. subst (λ (l : List (ℕ × ℕ)). AllByRecursion (IsWaiting leads [] m) l) (sym (none m)) tt;
  }

  pub begins_sorted : Sorting leads (take 0 ws) ws
  begins_sorted =
      sorting_added leads [] (λ n. Unit {0}) (λ n j near e. cc) found [] ws a (found_led f [] tt) (λ n i is e. tt) (record { led = tt; sorted = tt; shortest = tt })
