-- Internal: a history and an agent's deeds, gone through from the oldest event.
use Rattle.std.specs.Prelude.{ℕ, Bool, ◌+◌, List, [], ◌∷◌, take, drop, length, Option}
use Rattle.std.specs.Option.{option_and_then}
use Rattle.es_event.specs.declared.event.Event.{Event}
use Rattle.es_match.specs.Deeds.{Deed}
use Rattle.es_match.specs.Asks.{Asking, nothing, to_open, to_measure, to_compare, to_access, to_miss, to_sleep, to_notify, to_post, to_receive, to_refuse, to_pass, to_empty, to_close, ends_job, asks}
use Rattle.es_match.specs.Meets.{Tickets, Came, within, came_after, no_more, some_if}

-- how many deeds are asked
abbrev pub asked : Tickets → Asking → ℕ
asked t nothing = 0
asked t (to_open n v) = 1
asked t (to_measure b v) = 0
asked t (to_compare b c v) = 0
asked t (to_access b i m v) = 1
asked t (to_miss b i w) = 1
asked t (to_sleep b i w r) = 1
asked t (to_notify b i n v) = 1
asked t (to_post a v) = 1
asked t (to_receive s v) = 1
asked t to_refuse = 2
asked t (to_pass s) = 1
asked t (to_empty ids) = length (within ids t)
asked t to_close = length t + 1

-- with what has come so far, the events go on as these deeds; what has come after them
abbrev pub goes : Bool → Came → List Event → List Deed → Option Came
goes between c [] ds = some_if (no_more ds) c
goes between c (e ∷ es) ds =
    option_and_then (λ d. goes (ends_job e) d es (drop (asked c.tickets (asks between e)) ds))
    (came_after c (asks between e) (take (asked c.tickets (asks between e)) ds))
