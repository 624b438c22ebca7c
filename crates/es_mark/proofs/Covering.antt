-- Where all that a step comes from is followed, what it leads to has a way.
use Rattle.std.proofs.Common.{◌≡◌, ℕ, true, List}
use Rattle.std.specs.List.{AllByRecursion}
use Rattle.es_mark.specs.declared.step.Step.{Step}
use Rattle.es_mark.specs.declared.step.Step.TheVariants.{Variable, Kept, Registry, Held, Property, Entry}
use Rattle.es_mark.specs.declared.way.Way.{Way}
use Rattle.es_mark.specs.Ways.{sources, has_way}
use Rattle.es_mark.specs.WaitingEntries.{WaitingEntriesView}
use Rattle.es_mark.specs.Search.{Covers}

module _ (leads : Step → ℕ → Type 0) (front ws : List Way) (waiting : WaitingEntriesView) (covers : (s : Step) (i : ℕ) → leads s i → Covers front ws waiting s i) where
  pub covered : (s : Step) (i : ℕ) → leads s i → AllByRecursion (λ j. has_way front j ≡ true) (sources s) → has_way ws i ≡ true
  covered (Variable n) i led comes = covers (Variable n) i led
  covered Kept i led comes = covers Kept i led
  covered Registry i led comes = covers Registry i led
  covered (Held n) i led comes = covers (Held n) i led
  covered (Property o n) i led comes = covers (Property o n) i led comes.0
  covered (Entry m k) i led comes = let e = covers (Entry m k) i led comes.1.0 in rw comes.0 at e
