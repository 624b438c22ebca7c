-- To believe: the cells of FinalizationRegistries, and what became of each registration (FinalizationRegistry Objects).
use Rattle.std.specs.Prelude.{ℕ, Bool, true, false, ◌&&◌, ◌+◌, ◌==◌, nat_lt, nat_le, List, [], ◌∷◌, Option, Some, None, unwrap_or, if◌then◌else◌}
use Rattle.std.specs.List.{find, list_any, count_by, range_with_len}
use Rattle.std.specs.Option.{option_map, option_map_or, option_and_then}
use Rattle.es_value.specs.declared.value.Value.{Value}
use Rattle.es_value.specs.declared.value.Value.TheVariants.{Object}
use Rattle.es_event.specs.declared.event.Event.{Event}
use Rattle.es_event.specs.declared.event.Event.TheVariants.{JobBegun, CleanupBegun, Received, Did, Refused, Emptied, Taken, JobEnded, Skipped, Closed}
use Rattle.es_event.specs.declared.command.Command.{Command}
use Rattle.es_event.specs.declared.command.Command.TheVariants.{Register, Unregister}
use Rattle.es_event.specs.Commands.{first, Kind, ordinary, weakref_to, weak_map, weak_set, registry_of, shared_buffer}
use Rattle.es_event.specs.History.{History, total, earliest, latest_at}
use Rattle.es_event.specs.Identities.{identity, is_gone, kind}

-- Registries

abbrev pub callback_in : Kind → Option ℕ
callback_in ordinary = None
callback_in (weakref_to v) = None
callback_in weak_map = None
callback_in weak_set = None
callback_in (registry_of c) = Some c
callback_in shared_buffer = None

-- the number of the callback of the registry r
abbrev pub callback : History → ℕ → Option ℕ
callback h r = option_and_then callback_in (kind h r)

-- Registrations

-- what a cell is made with: its registry, the identity of its target, the held value, and the identity of its token, none
-- where the token is empty
pub record Cell : Type 0 where
  pub registry : ℕ
  pub target : ℕ
  pub held : Value
  pub token : Option ℕ

-- the cell that the command makes (FinalizationRegistry.prototype.register); no other command makes one
abbrev pub registers_by : Command → List Value → Option Cell
registers_by (Register q y v t) (Object r ∷ w ∷ held ∷ rest) = option_map (λ i. record { registry = r; target = i; held = held; token = identity (first rest) }) (identity w)
registers_by _ vs = None

abbrev pub registers : Event → Option Cell
registers (JobBegun j) = None
registers (CleanupBegun q) = None
registers (Received t v) = None
registers (Did (c, vs, r)) = registers_by c vs
registers (Refused code) = None
registers (Emptied ids) = None
registers (Taken n held) = None
registers JobEnded = None
registers (Skipped j t) = None
registers Closed = None

-- how many registrations were made; they are numbered from 1 in order of making
abbrev pub registered : History → ℕ
registered h = total (λ earlier e. option_map_or (λ c. 1) (registers e) 0) h

abbrev pub is_registered : History → ℕ → Bool
is_registered h n = nat_lt 0 n && nat_le n (registered h)

abbrev pub numbered_cell : History → Event → Option (ℕ × Option Cell)
numbered_cell earlier e = option_map (λ c. (registered earlier + 1, Some c)) (registers e)

-- what registration n was made with
abbrev pub cell : History → ℕ → Option Cell
cell h n = latest_at (λ i j. i == j) numbered_cell None h n

-- Fates

-- a registration is live, or awaits its cleanup since its target was emptied, or was unregistered, or was taken for its
-- cleanup
pub data Fate : Type 0 where
  live : Fate
  awaiting : Fate
  unregistered : Fate
  taken : Fate

abbrev pub same_fate : Fate → Fate → Bool
same_fate live live = true
same_fate awaiting awaiting = true
same_fate unregistered unregistered = true
same_fate taken taken = true
same_fate _ _ = false

-- the cell is of registry r and has the token t
abbrev pub has_token : ℕ → ℕ → Cell → Bool
has_token r t c = (c.registry == r) && option_map_or (λ i. i == t) c.token false

-- registration n was made in registry r with the token t
abbrev pub is_under : History → ℕ → ℕ → ℕ → Bool
is_under h r t n = option_map_or (has_token r t) (cell h n) false

-- the command takes registration n out of its registry (FinalizationRegistry.prototype.unregister); no other command takes
-- one out
abbrev pub unregisters_by : Command → List Value → History → ℕ → Bool
unregisters_by (Unregister to q t) (Object r ∷ w ∷ []) h n = option_map_or (λ i. is_under h r i n) (identity w) false
unregisters_by _ vs h n = false

-- how the event takes registration n out, if it does
abbrev pub removes : ℕ → History → Event → Option Fate
removes n earlier (JobBegun j) = None
removes n earlier (CleanupBegun q) = None
removes n earlier (Received t v) = None
removes n earlier (Did (c, vs, r)) = if unregisters_by c vs earlier n then Some unregistered else None
removes n earlier (Refused code) = None
removes n earlier (Emptied ids) = None
removes n earlier (Taken m held) = if m == n then Some taken else None
removes n earlier JobEnded = None
removes n earlier (Skipped j t) = None
removes n earlier Closed = None

-- of a registration that no event took out
abbrev pub present_fate : History → ℕ → Fate
present_fate h n = if option_map_or (λ c. is_gone h c.target) (cell h n) false then awaiting else live

-- what became of registration n: what took it out first, if anything did
abbrev pub fate : History → ℕ → Fate
fate h n = unwrap_or (earliest (removes n) h) (present_fate h n)

-- its cell is in its registry
abbrev pub is_present : Fate → Bool
is_present live = true
is_present awaiting = true
is_present unregistered = false
is_present taken = false

-- All registrations

-- by rising number
abbrev pub registrations : History → List ℕ
registrations h = range_with_len 1 (registered h)

-- registration n is of registry r and has this fate
abbrev pub is_of : History → ℕ → Fate → ℕ → Bool
is_of h r f n = option_map_or (λ c. c.registry == r) (cell h n) false && same_fate (fate h n) f

-- the oldest registration of r that awaits its cleanup (CleanupFinalizationRegistry)
abbrev pub first_awaiting : History → ℕ → Option ℕ
first_awaiting h r = find (is_of h r awaiting) (registrations h)

-- a cell with the token t is in the registry r (FinalizationRegistry.prototype.unregister)
abbrev pub finds_token : History → ℕ → ℕ → Bool
finds_token h r t = list_any (λ n. is_present (fate h n) && is_under h r t n) (registrations h)

-- how many registrations have this fate
abbrev pub tally : History → Fate → ℕ
tally h f = count_by (λ n. same_fate (fate h n) f) (registrations h)
