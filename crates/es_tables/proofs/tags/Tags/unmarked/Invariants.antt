use Rattle.std.proofs.Common.{◌≡◌, ◌&&◌, not, is_some, filter}
use Rattle.std.specs.List.{range_with_len}
use Rattle.es_mark.specs.Marks.{is_marked}
use Rattle.es_tables.specs.Tags.{tag_at}
use Rattle.es_tables.proofs.tags.Tags.unmarked.Given as goal

abbrev pub invariant-loop-at : goal.invariant-loop-at
invariant-loop-at l = l.ids.items ≡ filter (λ i. is_some (tag_at l.self.all i) && not (is_marked l.marks i)) (range_with_len 1 l.at)
