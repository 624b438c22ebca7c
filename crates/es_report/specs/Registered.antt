-- Internal: what commands say of registrations, and totals of their fates.
use Rattle.std.specs.Prelude.{ℕ, ◌+◌, ◌<◌, List, Option, None, is_some, is_none, slice_get, if◌then◌else◌}
use Rattle.std.specs.Option.{option_map, option_and_then}
use Rattle.es_value.specs.declared.value.Value.{Value}
use Rattle.es_event.specs.declared.command.Command.{Command}
use Rattle.es_event.specs.declared.command.Command.TheVariants.{Register, Unregister}
use Rattle.es_event.specs.Identities.{identity, object_of}
use Rattle.es_event.specs.Registrations.{Cell, Fate, live, awaiting, unregistered, taken, same_fate}
use Rattle.es_registry.specs.declared.slot.Tally.{Tally}
use Rattle.es_report.specs.declared.registered.Made.{Made}
use Rattle.es_report.specs.declared.fates.Fate.{Fate as Settled}
use Rattle.es_report.specs.declared.fates.Fate.TheVariants.{Live, Awaiting, Unregistered, Taken}

-- What commands say

-- the identity of the value at a place
abbrev pub identity_at : List Value → ℕ → Option ℕ
identity_at vs k = option_and_then identity (slice_get vs k)

-- the object at a place
abbrev pub object_at : List Value → ℕ → Option ℕ
object_at vs k = option_and_then object_of (slice_get vs k)

-- what a registration was made with, but for its held value
abbrev pub made_of : Cell → Made
made_of c = record { registry = c.registry; target = c.target; token = c.token }

abbrev pub made_with : List Value → ℕ → ℕ → Made
made_with vs r i = record { registry = r; target = i; token = identity_at vs 3 }

-- the registration that `register` makes with these values
abbrev pub made_from : List Value → Option Made
made_from vs = if is_none (slice_get vs 2) then None else option_and_then (λ r. option_map (made_with vs r) (identity_at vs 1)) (object_at vs 0)

abbrev pub made_by : Command → List Value → Option Made
made_by (Register q y v t) vs = made_from vs
made_by _ vs = None

-- the registry and the token that `unregister` names with these values
abbrev pub named_in : List Value → Option (ℕ × ℕ)
named_in vs = if is_some (slice_get vs 2) then None else option_and_then (λ r. option_map (λ i. (r, i)) (identity_at vs 1)) (object_at vs 0)

abbrev pub named_by : Command → List Value → Option (ℕ × ℕ)
named_by (Unregister to q t) vs = named_in vs
named_by _ vs = None

-- Fates

abbrev pub fate_of : Settled → Fate
fate_of Live = live
fate_of Awaiting = awaiting
fate_of Unregistered = unregistered
fate_of Taken = taken

-- with one more registration of this fate
abbrev pub one_more : Fate → Tally → Tally
one_more g t =
    record {
      live = t.live + (if same_fate g live then 1 else 0);
      awaiting = t.awaiting + (if same_fate g awaiting then 1 else 0);
      unregistered = t.unregistered + (if same_fate g unregistered then 1 else 0);
      taken = t.taken + (if same_fate g taken then 1 else 0);
    }

-- each total is below this number
pub record IsBelow (n : ℕ) (t : Tally) : Type 0 where
  pub of_live : t.live < n
  pub of_awaiting : t.awaiting < n
  pub of_unregistered : t.unregistered < n
  pub of_taken : t.taken < n
