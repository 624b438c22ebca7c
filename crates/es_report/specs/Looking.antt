-- Internal: what a look at a history keeps of one registration, and what that says.
use Rattle.std.specs.Prelude.{ℕ, ◌≡◌, ◌+◌, ◌==◌, ◌&&◌, Bool, false, ◌∷◌, Option, Some, None, if◌then◌else◌}
use Rattle.std.specs.Option.{option_map, option_map_or}
use Rattle.es_event.specs.declared.event.Event.{Event}
use Rattle.es_event.specs.History.{History, earliest}
use Rattle.es_event.specs.Identities.{is_gone}
use Rattle.es_event.specs.Registrations.{cell, registered, removes, Fate, live, awaiting}
use Rattle.es_report.specs.declared.fates.Fate.{Fate as Settled}
use Rattle.es_report.specs.declared.registered.Made.{Made}
use Rattle.es_report.specs.Registered.{made_of, fate_of}
use Rattle.es_report.specs.declared.looking.Look.{Look}

-- what is kept says what the history says of registration n
pub record Looks (n : ℕ) (h : History) (k : Look) : Type 0 where
  pub made : k.made ≡ registered h
  pub cell : option_map made_of (cell h n) ≡ k.cell
  pub removal : earliest (removes n) h ≡ option_map fate_of k.removal

-- after the event it says what the history says then
abbrev pub Tells : Event → ℕ → Look → Look → Type 0
Tells e n old new = (h : History) → Looks n h old → Looks n (e ∷ h) new

-- after one more registration
abbrev pub with_made : Look → Made → ℕ → Look
with_made k m n = record { made = k.made + 1; cell = if k.made + 1 == n then Some m else k.cell; removal = k.removal }

abbrev pub first_of : Option Settled → Bool → Settled → Option Settled
first_of None out f = if out then Some f else None
first_of (Some g) out f = Some g

-- after an event that takes it out, if it does
abbrev pub removed_by : Look → Bool → Settled → Look
removed_by k out f = record { made = k.made; cell = k.cell; removal = first_of k.removal out f }

-- it was made in the registry r with the token t
abbrev pub is_under : Option Made → ℕ → ℕ → Bool
is_under o r t = option_map_or (λ m. (m.registry == r) && option_map_or (λ i. i == t) m.token false) o false

-- what became of one that no event took out
abbrev pub present : History → Option Made → Fate
present h o = if option_map_or (λ m. is_gone h m.target) o false then awaiting else live
