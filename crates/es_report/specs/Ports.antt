-- Internal: what came into a port and out of it, as counts.
use Rattle.std.specs.Prelude.{ℕ, ◌≡◌, ◌≤◌, ◌+◌, ◌==◌, ◌&&◌, Bool, List, [], ◌∷◌, ◌++◌, length, drop, slice_get, nat_lt, if◌then◌else◌}
use Rattle.std.specs.Option.{option_and_then}
use Rattle.es_event.specs.declared.ledger_event.Body.{Body}
use Rattle.es_event.specs.declared.ledger_event.LedgerEvent.{LedgerEvent}
use Rattle.es_event.specs.declared.ledger_event.LedgerEvent.TheVariants.{Opened, Posted, Taken, Spent, Accessed, Drained, Acted}
use Rattle.es_event.specs.Ledger.{Ledger, is_at, port_of, serial_in}
use Rattle.es_report.specs.declared.ports.Counts.{Counts}
use Rattle.es_report.specs.declared.ports.Search.{Search}

-- what the event puts into the port of s and r
abbrev pub posted_at : LedgerEvent → ℕ → ℕ → List Body
posted_at (Opened b w k a) s r = []
posted_at (Posted a u m) s r = if is_at s r a u then m ∷ [] else []
posted_at (Taken a u) s r = []
posted_at (Spent k) s r = []
posted_at (Accessed k i m old) s r = []
posted_at (Acted a d) s r = []
posted_at (Drained a u) s r = []

-- all that was put into it, the oldest first
abbrev pub posts : Ledger → ℕ → ℕ → List Body
posts [] s r = []
posts (e ∷ earlier) s r = posts earlier s r ++ posted_at e s r

-- so many messages came in, and so many of them out
pub record AreCounts (s r : ℕ) (l : Ledger) (c : Counts) : Type 0 where
  pub posted : c.posted ≡ length (posts l s r)
  pub few : c.gone ≤ c.posted
  pub port : port_of l s r ≡ drop c.gone (posts l s r)

abbrev pub put_in : Counts → Bool → Counts
put_in c here = record { posted = if here then c.posted + 1 else c.posted; gone = c.gone }

abbrev pub taken_out : Counts → Bool → Counts
taken_out c here = record { posted = c.posted; gone = if here && nat_lt c.gone c.posted then c.gone + 1 else c.gone }

-- the serial in the message that n others came in before, as far as it was found
pub record Finds (s r n : ℕ) (l : Ledger) (k : Search) : Type 0 where
  pub seen : k.seen ≡ length (posts l s r)
  pub found : k.found ≡ option_and_then serial_in (slice_get (posts l s r) n)

abbrev pub seen_in : Search → Bool → ℕ → Body → Search
seen_in k here n m = record { seen = if here then k.seen + 1 else k.seen; found = if here && (k.seen == n) then serial_in m else k.found }
