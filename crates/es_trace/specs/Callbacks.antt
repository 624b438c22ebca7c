-- To believe: what is kept of an agent's registries while its events are gone through, and what that says.
use Rattle.std.specs.Prelude.{ℕ, ◌≡◌, ◌∷◌, nat_eq, Option}
use Rattle.std.specs.Option.{option_map, option_and_then}
use Rattle.std.specs.HashMap.{get}
use Rattle.es_event.specs.declared.event.Event.{Event}
use Rattle.es_event.specs.Commands.{Kind}
use Rattle.es_event.specs.History.{History}
use Rattle.es_event.specs.Identities.{born}
use Rattle.es_event.specs.Registrations.{callback, callback_in}
use Rattle.es_trace.specs.declared.callbacks.Callbacks.{Callbacks}

-- the object that the event makes, with the number of its callback if it is a FinalizationRegistry
abbrev pub made_at : Event → Option (ℕ × Option ℕ)
made_at e = option_map (λ (p : ℕ × Option Kind). (p.0, option_and_then callback_in p.1)) (born e)

-- what is kept says what the history says
abbrev pub Told : History → Callbacks → Type 0
Told h k = (r : ℕ) → get nat_eq k.known r ≡ callback h r

-- after the event it says what the history says then
abbrev pub Tells : Event → Callbacks → Callbacks → Type 0
Tells e old new = (h : History) → Told h old → Told (e ∷ h) new
