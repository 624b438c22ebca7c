use Rattle.std.proofs.Common.{length, ◌≤◌, ◌-◌, take}
use Rattle.es_match.specs.Words.{AreWordsBy}
use Rattle.es_match.proofs.words.count_words.Given as goal

abbrev pub invariant-loop-count : goal.invariant-loop-count
invariant-loop-count l = record {
  within : l.count ≤ length l.events;
  words : AreWordsBy l.by (take l.count l.events);
}

abbrev pub decreases-loop-count : goal.decreases-loop-count
decreases-loop-count l = length l.events - l.count
