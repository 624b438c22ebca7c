-- To believe: the rows of a ledger, under the name `-`.
use Rattle.std.specs.Prelude.{ℕ, Bool, true, false, List, [], ◌++◌, codes, decimal}
use Rattle.std.specs.List.{flat_map}
use Rattle.es_value.specs.Printed.{value_text}
use Rattle.es_event.specs.declared.access.Change.{Change}
use Rattle.es_event.specs.declared.ledger_event.Body.{Body}
use Rattle.es_event.specs.declared.ledger_event.Body.TheVariants.{Plain, Block}
use Rattle.es_event.specs.declared.ledger_event.LedgerEvent.{LedgerEvent}
use Rattle.es_event.specs.declared.ledger_event.LedgerEvent.TheVariants.{Opened, Posted, Taken, Spent, Accessed, Drained, Acted}
use Rattle.es_event.specs.declared.ledger_event.Act.{Act}
use Rattle.es_event.specs.declared.ledger_event.Act.TheVariants.{Waiting, Passed, Ended, Slept, Notified, Woke, TimedOut}
use Rattle.es_trace.specs.Columns.{label, row, widest}
use Rattle.es_trace.specs.Commands.{name_at}

-- Events

-- what became of a message from agent s to agent r
abbrev pub message_text : List (List ℕ) → ℕ → ℕ → List ℕ → List ℕ
message_text names s r what = codes "message " ++ (name_at names s ++ (codes " to " ++ (name_at names r ++ what)))

-- what was done to the word at an index through the ticket of a serial
abbrev pub word_text : ℕ → ℕ → List ℕ → List ℕ
word_text i s what = codes "word " ++ (decimal i ++ (what ++ (codes " by ticket " ++ decimal s)))

abbrev pub change_text : Change → List ℕ
change_text Change.Keep = codes " loaded"
change_text (Change.Write w) = codes " stored"
change_text (Change.Add n) = codes " added to"

-- what agent a did; a notify is told by its ticket, as other commands on words are, and why an agent wakes is told besides
abbrev pub act_text : List (List ℕ) → ℕ → Act → List ℕ
act_text names a (Waiting s) = name_at names a ++ (codes " waits for " ++ name_at names s)
act_text names a (Passed s) = name_at names a ++ (codes " waits no more for " ++ name_at names s)
act_text names a Ended = name_at names a ++ codes " ended"
act_text names a (Slept s i w) = name_at names a ++ (codes " sleeps at word " ++ (decimal i ++ (codes " by ticket " ++ decimal s)))
act_text names a (Notified s i n k) = word_text i s (codes " notified")
act_text names a Woke = name_at names a ++ codes " wakes"
act_text names a TimedOut = name_at names a ++ codes " wakes"

abbrev pub ledger_text : List (List ℕ) → LedgerEvent → List ℕ
ledger_text names (Opened b w s a) = codes "block " ++ (decimal b ++ codes " opened")
ledger_text names (Posted a r m) = message_text names a r (codes " posted")
ledger_text names (Taken a r) = message_text names a r (codes " taken")
ledger_text names (Spent s) = codes "ticket " ++ (decimal s ++ codes " spent")
ledger_text names (Accessed s i m old) = word_text i s (change_text m)
ledger_text names (Acted a d) = act_text names a d
ledger_text names (Drained a r) = message_text names a r (codes " drained")

-- Answers

-- acts on words tell something besides, and so does the end of a sleep
abbrev pub act_tells : Act → Bool
act_tells (Waiting s) = false
act_tells (Passed s) = false
act_tells Ended = false
act_tells (Slept s i w) = true
act_tells (Notified s i n k) = true
act_tells Woke = true
act_tells TimedOut = true

abbrev pub tells : LedgerEvent → Bool
tells (Opened b w s a) = true
tells (Posted a r m) = true
tells (Taken a r) = false
tells (Spent s) = false
tells (Accessed s i m old) = true
tells (Acted a d) = act_tells d
tells (Drained a r) = false

abbrev pub body_text : Body → List ℕ
body_text (Plain v) = value_text v ++ codes "\n"
body_text (Block b s) = codes "block " ++ (decimal b ++ (codes ", ticket " ++ (decimal s ++ codes "\n")))

-- the word that was read or written, or what was there before and what was added
abbrev pub told_of : Change → ℕ → List ℕ
told_of Change.Keep old = decimal old ++ codes "\n"
told_of (Change.Write w) old = decimal w ++ codes "\n"
told_of (Change.Add n) old = decimal old ++ (codes " + " ++ (decimal n ++ codes "\n"))

-- the word that a sleeping agent read, how many agents a notify took, and of one that wakes the text that its wait gives
abbrev pub told_act : Act → List ℕ
told_act (Waiting s) = []
told_act (Passed s) = []
told_act Ended = []
told_act (Slept s i w) = decimal w ++ codes "\n"
told_act (Notified s i n k) = decimal k ++ codes "\n"
told_act Woke = codes "\"ok\"\n"
told_act TimedOut = codes "\"timed-out\"\n"

-- the ticket that was made and the block's number of words, what a message carries, what an act tells, or the word; of an added number, what was there before
abbrev pub told_text : List (List ℕ) → LedgerEvent → List ℕ
told_text names (Opened b w s a) = codes "ticket " ++ (decimal s ++ (codes " of " ++ (name_at names a ++ (codes ", words " ++ (decimal w ++ codes "\n")))))
told_text names (Posted a r m) = body_text m
told_text names (Taken a r) = []
told_text names (Spent s) = []
told_text names (Accessed s i m old) = told_of m old
told_text names (Acted a d) = told_act d
told_text names (Drained a r) = []

-- Rows

abbrev pub ledger_row : List (List ℕ) → List ℕ → LedgerEvent → List ℕ
ledger_row names l e = row l (ledger_text names e) (tells e) ++ told_text names e

-- that of a block of which nobody holds a ticket any more
abbrev pub released_row : List ℕ → ℕ → List ℕ
released_row l b = row l (codes "block " ++ (decimal b ++ codes " released")) false

-- the name of the ledger in the column of these names
abbrev pub ledger_label : List (List ℕ) → List ℕ
ledger_label names = label (widest 1 names) (codes "-")

-- those of a ledger of agents of these names, of its events, the oldest first, and of the blocks that were released by them
abbrev pub ledger_rows : List (List ℕ) → List LedgerEvent → List ℕ → List ℕ
ledger_rows names events blocks = flat_map (ledger_row names (ledger_label names)) events ++ flat_map (released_row (ledger_label names)) blocks
