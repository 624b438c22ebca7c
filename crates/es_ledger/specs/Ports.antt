-- Internal: the messages of a ledger as they are kept.
use Rattle.std.specs.Prelude.{ℕ, ◌+◌, ◌*◌, List, [], ◌∷◌, length, slice_index_or}
use Rattle.es_ledger.specs.declared.message.Letter.{Letter}

-- the letters of one port, the oldest first, and for how many more there is room
pub record QueueView (L : Type 0) : Type 0 where
  pub letters : List (Letter L)
  pub room : ℕ

-- the queues of all ports, eight to a sender, and how many letters there are
pub record PortsView (L : Type 0) : Type 0 where
  pub queues : List (QueueView L)
  pub messages : ℕ

abbrev pub no_queue : {L : Type 0} → QueueView L
no_queue = record { letters = []; room = 0 }

abbrev pub queue_at : {L : Type 0} → List (QueueView L) → ℕ → ℕ → QueueView L
queue_at qs s r = slice_index_or qs (s * 8 + r) no_queue

-- the letters from s to r
abbrev pub letters_at : {L : Type 0} → List (QueueView L) → ℕ → ℕ → List (Letter L)
letters_at qs s r = (queue_at qs s r).letters

-- how many letters there are
abbrev pub total : {L : Type 0} → List (QueueView L) → ℕ
total [] = 0
total (q ∷ qs) = length q.letters + total qs
