-- To believe: what is said of words that agents share (Memory Model, The Atomics Object): all accesses are sequentially consistent. Each law is
-- the contract of a function of its name that does nothing, so it is proved; none of them adds to what the definitions mean.
use Rattle.std.specs.Prelude.{ℕ, ◌≡◌, ◌+◌, ◌%◌, ◌^◌, ◌==◌, ◌&&◌, not, ⊤, Bool, true, false, List, [], ◌∷◌, ◌++◌, Option, Some, None, is_some, unwrap_or, if◌then◌else◌}
use Rattle.std.specs.List.{list_all, sum_by}
use Rattle.es_event.specs.declared.access.Change.{Change}
use Rattle.es_event.specs.declared.ledger_event.Body.{Body}
use Rattle.es_event.specs.declared.ledger_event.LedgerEvent.{LedgerEvent}
use Rattle.es_event.specs.declared.ledger_event.LedgerEvent.TheVariants.{Opened, Posted, Taken, Spent, Accessed, Drained, Acted}
use Rattle.es_event.specs.declared.row.Row.{Row}
use Rattle.es_event.specs.Access.{written}
use Rattle.es_event.specs.Ledger.{Ledger, holder_of, is_at, word}
use Rattle.es_event.specs.LegalLedger.{LegalSoFar}

-- Accesses

-- by which agent, to a word of which block, at which index; what becomes of the word, and the word that was there
pub record WordAccess : Type 0 where
  pub agent : ℕ
  pub block : ℕ
  pub index : ℕ
  pub change : Change
  pub old : ℕ

-- through the ticket of this holder
abbrev pub access_by : Option (ℕ × Row) → ℕ → Change → ℕ → List WordAccess
access_by None i m old = []
access_by (Some p) i m old = record { agent = p.0; block = p.1.block; index = i; change = m; old = old } ∷ []

abbrev pub accessed : Ledger → LedgerEvent → List WordAccess
accessed l (Opened b w s a) = []
accessed l (Posted a r m) = []
accessed l (Taken s r) = []
accessed l (Spent s) = []
accessed l (Accessed s i m old) = access_by (holder_of l s) i m old
accessed l (Acted a d) = []
accessed l (Drained s r) = []

-- all of them in one order, the newest first
abbrev pub accesses : Ledger → List WordAccess
accesses [] = []
accesses (e ∷ earlier) = accessed earlier e ++ accesses earlier

-- to the word at index i of block b
abbrev pub is_of : ℕ → ℕ → WordAccess → Bool
is_of b i x = (x.block == b) && (x.index == i)

abbrev pub is_write : WordAccess → Bool
is_write x = is_some (written x.change x.old)

-- the word that it leaves there
abbrev pub left_by : WordAccess → ℕ
left_by x = unwrap_or (written x.change x.old) x.old

-- the word that the newest of these leaves there, and 0 where there is none
abbrev pub left : List WordAccess → ℕ → ℕ → ℕ
left [] b i = 0
left (x ∷ earlier) b i = if is_of b i x then left_by x else left earlier b i

-- each finds what the newest before it left
abbrev pub FindTheNewest : List WordAccess → Type 0
FindTheNewest [] = ⊤
FindTheNewest (x ∷ earlier) = (x.old ≡ left earlier x.block x.index) × FindTheNewest earlier

-- All accesses of all agents have one order, in which each finds the word that the newest access before it left there.
abbrev pub AccessesHaveOneOrder : Type 0
AccessesHaveOneOrder = (n : ℕ) (l : Ledger) → LegalSoFar n l → FindTheNewest (accesses l)

-- So where a word is not written between two accesses, the later one finds what the earlier one left: a load gives the last write before it, and
-- never an older one than a load before it gave.
abbrev pub AWordStaysTillItIsWritten : Type 0
AWordStaysTillItIsWritten =
    (n : ℕ) (l : Ledger) (later mid earlier : List WordAccess) (x y : WordAccess) → LegalSoFar n l → accesses l ≡ later ++ x ∷ (mid ++ y ∷ earlier) → is_of y.block y.index x ≡ true
    → list_all (λ z. not (is_of y.block y.index z && is_write z)) mid ≡ true → x.old ≡ left_by y

-- Sums

abbrev pub is_store : Change → Bool
is_store Change.Keep = false
is_store (Change.Write w) = true
is_store (Change.Add n) = false

abbrev pub addend : Change → ℕ
addend Change.Keep = 0
addend (Change.Write w) = 0
addend (Change.Add n) = n

-- No add loses another: a word that nobody stores is the sum of all that was added to it, modulo 2^32.
abbrev pub NoAddLosesAnother : Type 0
NoAddLosesAnother =
    (n : ℕ) (l : Ledger) (b i : ℕ) → LegalSoFar n l → list_all (λ x. not (is_of b i x && is_store x.change)) (accesses l) ≡ true
    → word l b i ≡ sum_by (λ x. if is_of b i x then addend x.change else 0) (accesses l) % 2 ^ 32

-- Messages

-- how many messages were posted from s to r, and how many taken or drained
abbrev pub posts : ℕ → ℕ → LedgerEvent → ℕ
posts s r (Opened b w k a) = 0
posts s r (Posted t u m) = if is_at s r t u then 1 else 0
posts s r (Taken t u) = 0
posts s r (Spent k) = 0
posts s r (Accessed k i m old) = 0
posts s r (Acted a d) = 0
posts s r (Drained t u) = 0

abbrev pub takes : ℕ → ℕ → LedgerEvent → ℕ
takes s r (Opened b w k a) = 0
takes s r (Posted t u m) = 0
takes s r (Taken t u) = if is_at s r t u then 1 else 0
takes s r (Spent k) = 0
takes s r (Accessed k i m old) = 0
takes s r (Acted a d) = 0
takes s r (Drained t u) = if is_at s r t u then 1 else 0

abbrev pub how_many : (LedgerEvent → ℕ) → Ledger → ℕ
how_many f [] = 0
how_many f (e ∷ earlier) = f e + how_many f earlier

-- A message is taken after it was posted. So all that was stored before its posting, by whomever, comes before all that is loaded after its
-- receipt, which finds that, or what was written over it since.
abbrev pub WhatWasStoredBeforeAPostIsSeen : Type 0
WhatWasStoredBeforeAPostIsSeen =
    (n : ℕ) (s r : ℕ) (m : Body) (l earlier before since after : Ledger) → LegalSoFar n l
    → l ≡ since ++ Posted s r m ∷ earlier → l ≡ after ++ Taken s r ∷ before → how_many (posts s r) earlier ≡ how_many (takes s r) before
    → (between : Ledger) × (more : List WordAccess) × (before ≡ between ++ Posted s r m ∷ earlier) × (accesses before ≡ more ++ accesses earlier)
