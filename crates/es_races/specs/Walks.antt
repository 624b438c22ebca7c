-- Internal: how far a look at a history is, and what that says.
use Rattle.std.specs.Prelude.{◌≡◌, ◌∷◌}
use Rattle.es_event.specs.declared.event.Event.{Event}
use Rattle.es_event.specs.History.{History}
use Rattle.es_races.specs.declared.place.Walk.{Walk}
use Rattle.es_races.specs.Places.{accesses_in, commands, section}

pub record Walked (h : History) (w : Walk) : Type 0 where
  pub section : w.section ≡ section h
  pub commands : w.commands ≡ commands h
  pub accesses : w.accesses ≡ accesses_in h

-- after the event it says what the history says then
abbrev pub Tells : Event → Walk → Walk → Type 0
Tells e old new = (h : History) → Walked h old → Walked (e ∷ h) new
