-- To believe: the totals of registrations that belong to histories.
use Rattle.std.specs.Prelude.{◌≡◌, List, map, reverse}
use Rattle.es_event.specs.declared.event.Event.{Event}
use Rattle.es_event.specs.History.{History}
use Rattle.es_event.specs.Registrations.{tally, live, awaiting, unregistered, taken}
use Rattle.es_registry.specs.declared.slot.Tally.{Tally}

-- how many registrations have each fate
abbrev pub end_tally : History → Tally
end_tally h =
    record {
      live = tally h live;
      awaiting = tally h awaiting;
      unregistered = tally h unregistered;
      taken = tally h taken;
    }

-- the totals are those of the histories, whose events are the oldest first, in the same order
abbrev pub AreTallies : List (List Event) → List Tally → Type 0
AreTallies histories tallies = tallies ≡ map (λ events. end_tally (reverse events)) histories
