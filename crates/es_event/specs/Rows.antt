-- To believe: the ledger's table: what the ticket of each serial names, and who holds it.
use Rattle.std.specs.Prelude.{ℕ, ◌==◌, ◌&&◌, Bool, true, false, List, [], ◌∷◌, Option, Some, None, count_by, if◌then◌else◌}
use Rattle.es_event.specs.declared.row.Row.{Row}
use Rattle.es_event.specs.declared.row.Entry.{Entry}
use Rattle.es_event.specs.declared.row.Holder.{Holder}
use Rattle.es_event.specs.declared.row.Holder.TheVariants.{Agent, Port, Nobody}

abbrev pub row : ℕ → ℕ → ℕ → Row
row serial block words = record { serial = serial; block = block; words = words }

abbrev pub held_by : Holder → Row → Entry
held_by who r = record { row = r; holder = who }

-- the rows whose holder passes the test, by rising serial
abbrev pub rows_by : (Holder → Bool) → List Entry → List Row
rows_by test [] = []
rows_by test (e ∷ es) = if test e.holder then e.row ∷ rows_by test es else rows_by test es

abbrev pub is_agent : ℕ → Holder → Bool
is_agent a (Agent b) = a == b
is_agent a (Port s r) = false
is_agent a Nobody = false

-- the rows that agent a holds
abbrev pub held : ℕ → List Entry → List Row
held a es = rows_by (is_agent a) es

abbrev pub is_port : ℕ → ℕ → Holder → Bool
is_port s r (Agent a) = false
is_port s r (Port t u) = (s == t) && (r == u)
is_port s r Nobody = false

-- the rows in the port of a sender and a receiver
abbrev pub in_port : ℕ → ℕ → List Entry → List Row
in_port s r es = rows_by (is_port s r) es

abbrev pub is_somebody : Holder → Bool
is_somebody (Agent a) = true
is_somebody (Port s r) = true
is_somebody Nobody = false

-- the rows of tickets that are not spent
abbrev pub unspent : List Entry → List Row
unspent es = rows_by is_somebody es

-- how many of these are of block b
abbrev pub count_of : List Row → ℕ → ℕ
count_of rs b = count_by (λ r. r.block == b) rs

-- the table after the ticket of this serial went to another holder, or to nobody
abbrev pub moved : ℕ → Holder → List Entry → List Entry
moved s who [] = []
moved s who (e ∷ es) = (if e.row.serial == s then held_by who e.row else e) ∷ moved s who es

-- the line of this serial
abbrev pub line_of : ℕ → List Entry → Option Entry
line_of s [] = None
line_of s (e ∷ es) = if e.row.serial == s then Some e else line_of s es
