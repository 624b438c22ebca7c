-- Where all ways are followed, each value that is reached has one.
use Rattle.std.proofs.Common.{ℕ, ◌≤◌, subst, List, [], length}
use Rattle.std.proofs.lemmas.List.{take_all}
use Rattle.es_mark.specs.declared.step.Step.{Step}
use Rattle.es_mark.specs.declared.way.Way.{Way}
use Rattle.es_mark.specs.Ways.{has_way, AreWays}
use Rattle.es_mark.specs.WaitingEntries.{WaitingEntriesView}
use Rattle.es_mark.specs.Search.{Covers, Searching}
use Rattle.es_mark.proofs.Adding.{ordered_within}
use Rattle.es_mark.proofs.Covering.{covered}

module _ (leads : Step → ℕ → Type 0) (done : ℕ) (ws : List Way) (waiting : WaitingEntriesView) (s : Searching leads done ws waiting) (all : length ws ≤ done) where
  covers : (t : Step) (i : ℕ) → leads t i → Covers ws ws waiting t i
  covers t i led = subst (λ (l : List Way). Covers l ws waiting t i) (take_all done ws all) (s.covers t i led)

  pub ends : AreWays leads ws
  ends = record {
    ordered = s.ordered;
    every = λ i reached. reached (has_way ws) (covered leads ws ws waiting covers);
    only = λ i e t is. ordered_within leads t is [] ws (λ j h. cc) s.ordered i e;
  }
