-- An access stands in one place.
use Rattle.std.proofs.Common.{◌≡◌, ℕ, ◌+◌, ◌<◌, ap, arith, [], ◌∷◌, ◌++◌, Some}
use Rattle.std.specs.Option.{option_map_or}
use Rattle.es_event.specs.declared.command.Command.{Command}
use Rattle.es_event.specs.declared.event.Event.{Event}
use Rattle.es_event.specs.History.{History}
use Rattle.es_races.specs.Places.{access_in, accesses_in}

-- what comes later has the access among its accesses
counted : (later : History) (e : Event) (c : Command) (earlier : History) → access_in e ≡ Some c → accesses_in earlier < accesses_in (later ++ e ∷ earlier)
counted [] e c earlier is = let one : ◌≡◌ {A = ℕ} (option_map_or (λ c. 1) (access_in e) 0) 1 = ap (λ o. option_map_or {U = ℕ} (λ c. 1) o 0) is in omega (arith, one)
counted (d ∷ later) e c earlier is = let rest = counted later e c earlier is in omega (arith, rest)

abbrev rest_of : History → History
rest_of [] = []
rest_of (e ∷ h) = h

abbrev first_of : Event → History → Event
first_of d [] = d
first_of d (e ∷ h) = e
