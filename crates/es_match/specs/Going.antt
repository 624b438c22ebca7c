-- Internal: whether each agent's history goes on as its part.
use Rattle.std.specs.Prelude.{ℕ, ◌≡◌, ◌<◌, true, List, [], Some, None, length, slice_index_or}
use Rattle.es_event.specs.declared.event.Event.{Event}
use Rattle.es_match.specs.declared.stretch.Stretch.{Stretch}
use Rattle.es_match.specs.Goes.{goes}
use Rattle.es_match.specs.Meets.{Came, nothing_came}
use Rattle.es_match.specs.Split.{part_at}

-- each history, the oldest event first, goes on as the part of its agent, and this is what has come to the agent
abbrev pub AllGo : List (List Event) → List (List Stretch) → List Came → Type 0
AllGo hs ps cs = (a : ℕ) → a < length hs → goes true nothing_came (slice_index_or hs a []) (part_at ps a) ≡ Some (slice_index_or cs a nothing_came)

-- one history does not
abbrev pub SomeStops : List (List Event) → List (List Stretch) → Type 0
SomeStops hs ps = (a : ℕ) × (goes true nothing_came (slice_index_or hs a []) (part_at ps a) ≡ None)
