-- Internal: what was done, as the code keeps it.
use Rattle.std.specs.Prelude.{ℕ, Bool, false, nat_lt, List, take, slice_index_or, if◌then◌else◌}
use Rattle.es_value.specs.declared.value.Value.{Value}
use Rattle.es_value.specs.declared.value.Value.TheVariants.{Undefined}
use Rattle.es_event.specs.declared.event.Answer.{Answer}
use Rattle.es_event.specs.declared.event.Answer.TheVariants.{Nothing, Gives, Listed as Lists}
use Rattle.es_event.specs.declared.kept.Kept.{Kept}
use Rattle.es_event.specs.declared.kept.Kept.TheVariants.{Few, More, MoreGave, Listed}
use Rattle.es_event.specs.Held.{values_of}

abbrev pub place_in : Kept → ℕ
place_in (Few r g n vs) = n
place_in (More n vs) = n
place_in (MoreGave n g) = n
place_in (Listed n l) = n

abbrev pub values_in : Kept → List Value
values_in (Few r g n vs) = take r vs
values_in (More n vs) = vs
values_in (MoreGave n g) = values_of g.value.values
values_in (Listed n l) = values_of l.value.values

-- of few values the one that was given is the last of the three
abbrev pub answer_in : Kept → Answer
answer_in (Few r g n vs) = if g then Gives (slice_index_or vs 2 Undefined) else Nothing
answer_in (More n vs) = Nothing
answer_in (MoreGave n g) = Gives g.value.given
answer_in (Listed n l) = Lists l.value.keys

-- one value more lies beside those that it read
abbrev pub has_room : Kept → Bool
has_room (Few r g n vs) = nat_lt r 3
has_room (More n vs) = false
has_room (MoreGave n g) = false
has_room (Listed n l) = false
