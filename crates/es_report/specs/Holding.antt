-- Internal: which tickets of one serial and one block there are, and which of them somebody holds.
use Rattle.std.specs.Prelude.{ℕ, ◌≡◌, ◌==◌, ◌&&◌, ◌||◌, Bool, true, false, List, Option, Some, None, if◌then◌else◌}
use Rattle.std.specs.List.{list_any}
use Rattle.std.specs.Option.{option_and_then, option_map_or}
use Rattle.es_event.specs.declared.ledger_event.Body.{Body}
use Rattle.es_event.specs.declared.ledger_event.Body.TheVariants.{Plain, Block}
use Rattle.es_event.specs.declared.ledger_event.LedgerEvent.{LedgerEvent}
use Rattle.es_event.specs.declared.ledger_event.LedgerEvent.TheVariants.{Opened, Posted, Taken, Spent, Accessed, Drained, Acted}
use Rattle.es_event.specs.declared.row.Entry.{Entry}
use Rattle.es_event.specs.Rows.{is_somebody}
use Rattle.es_event.specs.Ledger.{Ledger, front, serial_in, table}
use Rattle.es_report.specs.declared.holding.Trace.{Trace}

-- the serial and the block of the ticket in a message
abbrev pub ticket_of : Body → Option (ℕ × ℕ)
ticket_of (Plain v) = None
ticket_of (Block b s) = Some (s, b)

-- those of the ticket that the event makes
abbrev pub makes : LedgerEvent → Option (ℕ × ℕ)
makes (Opened b w s a) = Some (s, b)
makes (Posted a r m) = ticket_of m
makes (Taken a r) = None
makes (Spent s) = None
makes (Accessed s i m old) = None
makes (Acted a d) = None
makes (Drained a r) = None

abbrev pub is_of : ℕ → ℕ → Entry → Bool
is_of s b e = (e.row.serial == s) && (e.row.block == b)

abbrev pub any_of : List Entry → ℕ → ℕ → Bool
any_of es s b = list_any (is_of s b) es

abbrev pub held_of : List Entry → ℕ → ℕ → Bool
held_of es s b = list_any (λ e. is_somebody e.holder && is_of s b e) es

-- a ticket of block b is left
abbrev pub left : List Entry → ℕ → Bool
left es b = list_any (λ e. is_somebody e.holder && (e.row.block == b)) es

-- what is kept says what the ledger's history says
pub record Traced (s b : ℕ) (l : Ledger) (t : Trace) : Type 0 where
  pub any : t.any ≡ any_of (table l) s b
  pub held : t.held ≡ held_of (table l) s b

abbrev pub with_ticket : Trace → Bool → Trace
with_ticket t here = record { any = t.any || here; held = t.held || here }

-- after all tickets of the serial went to another holder, or to nobody
abbrev pub moved_to : Trace → Bool → Bool → Trace
moved_to t here somebody = record { any = t.any; held = if here then somebody && t.any else t.held }

abbrev pub moved_if : Trace → Option ℕ → ℕ → Bool → Trace
moved_if t None s somebody = t
moved_if t (Some k) s somebody = moved_to t (k == s) somebody

-- after the event, which comes after l, moved a ticket, if it moves one
abbrev pub moved_by : Ledger → Trace → ℕ → LedgerEvent → Trace
moved_by l t s (Opened b w k a) = t
moved_by l t s (Posted a r m) = t
moved_by l t s (Taken a r) = moved_if t (option_and_then serial_in (front l a r)) s true
moved_by l t s (Spent k) = moved_to t (k == s) false
moved_by l t s (Accessed k i m old) = t
moved_by l t s (Acted a d) = t
moved_by l t s (Drained a r) = t

-- the event makes a ticket of this serial and this block
abbrev pub makes_it : ℕ → ℕ → LedgerEvent → Bool
makes_it s b e = option_map_or (λ (p : ℕ × ℕ). (p.0 == s) && (p.1 == b)) (makes e) false

-- the event makes a ticket of block b, and somebody holds one of its serial among these
abbrev pub makes_left : List Entry → ℕ → LedgerEvent → Bool
makes_left es b e = option_map_or (λ (p : ℕ × ℕ). (p.1 == b) && held_of es p.0 b) (makes e) false
