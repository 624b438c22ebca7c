-- To believe: the line of an event of the ledger: one JSON object, with the same members for each kind of event.
use Rattle.std.specs.Prelude.{ℕ, List, ◌++◌, codes, decimal}
use Rattle.std.specs.List.{flat_map}
use Rattle.es_value.specs.Printed.{quoted}
use Rattle.es_event.specs.declared.access.Change.{Change}
use Rattle.es_event.specs.declared.ledger_event.Body.{Body}
use Rattle.es_event.specs.declared.ledger_event.Body.TheVariants.{Plain, Block}
use Rattle.es_event.specs.declared.ledger_event.LedgerEvent.{LedgerEvent}
use Rattle.es_event.specs.declared.ledger_event.LedgerEvent.TheVariants.{Opened, Posted, Taken, Spent, Accessed, Drained, Acted}
use Rattle.es_event.specs.declared.ledger_event.Act.{Act}
use Rattle.es_event.specs.declared.ledger_event.Act.TheVariants.{Waiting, Passed, Ended, Slept, Notified, Woke, TimedOut}
use Rattle.es_trace.specs.Commands.{name_at}
use Rattle.es_trace_json.specs.Values.{value_json}

-- what a message carries: a value, or a block with the message's own ticket of it
abbrev pub body_json : Body → List ℕ
body_json (Plain v) = value_json v
body_json (Block b s) = codes "{\"block\":" ++ (decimal b ++ (codes ",\"ticket\":" ++ (decimal s ++ codes "}")))

-- a member whose value is the name of an agent
abbrev pub name_json : List (List ℕ) → ℕ → List ℕ
name_json names a = quoted (name_at names a)

-- the agents at the two ends of a message
abbrev pub ends_json : List (List ℕ) → ℕ → ℕ → List ℕ
ends_json names s r = codes ",\"sender\":" ++ (name_json names s ++ (codes ",\"receiver\":" ++ name_json names r))

-- a word at an index, through the ticket of a serial
abbrev pub place_json : ℕ → ℕ → List ℕ
place_json s i = codes ",\"ticket\":" ++ (decimal s ++ (codes ",\"index\":" ++ decimal i))

abbrev pub change_members : ℕ → ℕ → ℕ → Change → List ℕ
change_members s i old Change.Keep = codes "\"loaded\"" ++ (place_json s i ++ (codes ",\"word\":" ++ decimal old))
change_members s i old (Change.Write w) = codes "\"stored\"" ++ (place_json s i ++ (codes ",\"word\":" ++ decimal w))
change_members s i old (Change.Add n) = codes "\"added\"" ++ (place_json s i ++ (codes ",\"old\":" ++ (decimal old ++ (codes ",\"addend\":" ++ decimal n))))

-- what agent a did; of a notify the members of other commands on words, and how many agents it woke
abbrev pub act_members : List (List ℕ) → ℕ → Act → List ℕ
act_members names a (Waiting s) = codes "\"waiting\",\"agent\":" ++ (name_json names a ++ (codes ",\"sender\":" ++ name_json names s))
act_members names a (Passed s) = codes "\"passed\",\"agent\":" ++ (name_json names a ++ (codes ",\"sender\":" ++ name_json names s))
act_members names a Ended = codes "\"ended\",\"agent\":" ++ name_json names a
act_members names a (Slept s i w) = codes "\"slept\",\"agent\":" ++ (name_json names a ++ (place_json s i ++ (codes ",\"word\":" ++ decimal w)))
act_members names a (Notified s i n k) = codes "\"notified\"" ++ (place_json s i ++ (codes ",\"woken\":" ++ decimal k))
act_members names a Woke = codes "\"woke\",\"agent\":" ++ name_json names a
act_members names a TimedOut = codes "\"timed out\",\"agent\":" ++ name_json names a

abbrev pub ledger_members : List (List ℕ) → LedgerEvent → List ℕ
ledger_members names (Opened b w s a) = codes "\"opened\",\"block\":" ++ (decimal b ++ (codes ",\"words\":" ++ (decimal w ++ (codes ",\"ticket\":" ++ (decimal s ++ (codes ",\"agent\":" ++ name_json names a))))))
ledger_members names (Posted a r m) = codes "\"posted\"" ++ (ends_json names a r ++ (codes ",\"carries\":" ++ body_json m))
ledger_members names (Taken a r) = codes "\"taken\"" ++ ends_json names a r
ledger_members names (Spent s) = codes "\"spent\",\"ticket\":" ++ decimal s
ledger_members names (Accessed s i m old) = change_members s i old m
ledger_members names (Acted a d) = act_members names a d
ledger_members names (Drained a r) = codes "\"drained\"" ++ ends_json names a r

abbrev pub ledger_line : List (List ℕ) → LedgerEvent → List ℕ
ledger_line names e = codes "{\"ledger\":" ++ (ledger_members names e ++ codes "}\n")

-- that of a block that was released
abbrev pub released_line : ℕ → List ℕ
released_line b = codes "{\"ledger\":\"released\",\"block\":" ++ (decimal b ++ codes "}\n")

-- those of these events, the oldest first, and of the blocks that were released by them
abbrev pub ledger_lines : List (List ℕ) → List LedgerEvent → List ℕ → List ℕ
ledger_lines names events blocks = flat_map (ledger_line names) events ++ flat_map released_line blocks
