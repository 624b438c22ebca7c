-- To believe: which accesses to words a message orders, and which none does (Memory Model, happens-before: what an agent did before it posted a
-- message happens before all that the receiver does after its receipt). Here messages alone order: that an access reads what another wrote,
-- which the standard counts too, depends on the order of turns.
use Rattle.std.specs.Prelude.{ℕ, ◌==◌, ◌&&◌, ◌||◌, not, Bool, List, [], ◌∷◌, ◌++◌, drop, map, if◌then◌else◌}
use Rattle.std.specs.List.{list_all, list_any, sum_by}
use Rattle.es_event.specs.declared.ledger_event.LedgerEvent.{LedgerEvent}
use Rattle.es_event.specs.declared.ledger_event.LedgerEvent.TheVariants.{Opened, Posted, Taken, Spent, Accessed, Drained, Acted}
use Rattle.es_event.specs.Ledger.{Ledger, is_at}
use Rattle.es_laws.specs.Memory.{WordAccess, accessed, accesses, is_of, is_write}

-- What an agent knows of

-- an access, told by its agent and by how many that agent made before it
abbrev pub Mark : Type 0
Mark = ℕ × ℕ

abbrev pub is_mark : Mark → Mark → Bool
is_mark x y = (x.0 == y.0) && (x.1 == y.1)

-- the mark of an access that comes after these
abbrev pub mark_of : List WordAccess → WordAccess → Mark
mark_of earlier x = (x.agent, sum_by (λ y. if y.agent == x.agent then 1 else 0) earlier)

-- the accesses of which each agent knows; and of each message in the port from s to r, the oldest first, those of which its sender knew when it
-- posted the message
pub record Known : Type 0 where
  pub knows : ℕ → List Mark
  pub carried : ℕ → ℕ → List (List Mark)

abbrev pub first_of : List (List Mark) → List Mark
first_of [] = []
first_of (marks ∷ rest) = marks

-- those of agent i
abbrev pub marks_of : ℕ → List WordAccess → List WordAccess → List Mark
marks_of i earlier [] = []
marks_of i earlier (x ∷ xs) = if x.agent == i then mark_of earlier x ∷ marks_of i earlier xs else marks_of i earlier xs

-- an agent knows of the accesses that it made, and of those of which the sender of a message that it took knew
abbrev pub knows_after : Ledger → LedgerEvent → Known → ℕ → List Mark
knows_after l (Opened b w s a) k i = k.knows i
knows_after l (Posted a r m) k i = k.knows i
knows_after l (Taken s r) k i = if r == i then first_of (k.carried s r) ++ k.knows i else k.knows i
knows_after l (Spent s) k i = k.knows i
knows_after l (Accessed s j m old) k i = marks_of i (accesses l) (accessed l (Accessed s j m old)) ++ k.knows i
knows_after l (Acted a d) k i = k.knows i
knows_after l (Drained s r) k i = k.knows i

abbrev pub carried_after : LedgerEvent → Known → ℕ → ℕ → List (List Mark)
carried_after (Opened b w k a) known s r = known.carried s r
carried_after (Posted t u m) known s r = if is_at s r t u then known.carried s r ++ known.knows s ∷ [] else known.carried s r
carried_after (Taken t u) known s r = if is_at s r t u then drop 1 (known.carried s r) else known.carried s r
carried_after (Spent k) known s r = known.carried s r
carried_after (Accessed k i m old) known s r = known.carried s r
carried_after (Acted a d) known s r = known.carried s r
carried_after (Drained t u) known s r = if is_at s r t u then drop 1 (known.carried s r) else known.carried s r

abbrev pub known : Ledger → Known
known [] = record { knows = λ i. []; carried = λ s r. [] }
known (e ∷ earlier) = record { knows = knows_after earlier e (known earlier); carried = carried_after e (known earlier) }

-- Races

-- an access with its mark, and the accesses of which its agent knew
pub record MarkedAccess : Type 0 where
  pub access : WordAccess
  pub mark : Mark
  pub knew : List Mark

abbrev pub marked_after : Ledger → WordAccess → MarkedAccess
marked_after l x = record { access = x; mark = mark_of (accesses l) x; knew = (known l).knows x.agent }

-- all accesses, the newest first
abbrev pub marked : Ledger → List MarkedAccess
marked [] = []
marked (e ∷ earlier) = map (marked_after earlier) (accessed earlier e) ++ marked earlier

-- x happens before y: y's agent knew of it
abbrev pub happens_before : MarkedAccess → MarkedAccess → Bool
happens_before x y = list_any (is_mark x.mark) y.knew

-- two accesses of one word by two agents, one of them a write
abbrev pub conflict : WordAccess → WordAccess → Bool
conflict x y = is_of y.block y.index x && (not (x.agent == y.agent) && (is_write x || is_write y))

-- they race: neither happens before the other
abbrev pub race : MarkedAccess → MarkedAccess → Bool
race x y = conflict x.access y.access && not (happens_before x y || happens_before y x)

abbrev pub has_no_race : Ledger → Bool
has_no_race l = list_all (λ x. list_all (λ y. not (race x y)) (marked l)) (marked l)
