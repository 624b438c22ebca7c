-- A message is taken out after the end of all agents, and its ticket is spent; in the end no port has one.
use Rattle.std.proofs.Common.{◌≡◌, ℕ, zero, suc, ◌+◌, ◌*◌, ◌/◌, ◌%◌, ◌<◌, ◌≤◌, ◌==◌, ◌&&◌, List, [], ◌∷◌, ◌++◌, drop, Option, Some, None, Bool, true, false, cond, refl, sym, ap, ◌∙◌, subst, arith, length, zero-add, eq-eqb}
use Rattle.std.proofs.lemmas.Bool.{eqb-true, false≢true, and_parts, and_from}
use Rattle.std.specs.Prelude.{slice_get, slice_index_or, is_some, map, nat_lt}
use Rattle.std.proofs.lemmas.Bool.Decides.{nat_tests}
use Rattle.std.specs.Option.{option_and_then}
use Rattle.es_event.specs.declared.ledger_event.Body.{Body}
use Rattle.es_event.specs.declared.ledger_event.Body.TheVariants.{Plain as PlainBody, Block as BlockBody}
use Rattle.es_event.specs.declared.ledger_event.LedgerEvent.{LedgerEvent}
use Rattle.es_event.specs.declared.ledger_event.LedgerEvent.TheVariants.{Posted, Taken, Spent, Drained}
use Rattle.es_event.specs.declared.row.Row.{Row}
use Rattle.es_event.specs.declared.row.Holder.TheVariants.{Nobody}
use Rattle.es_event.specs.Rows.{moved}
use Rattle.es_event.specs.Ledger.{Ledger, opened, count, port_of, front, serial_in, is_at, ended}
use Rattle.es_event.specs.LegalLedger.{ComesNext, LegalSoFar, has_message, all_ended, owed}
use Rattle.es_ledger.specs.declared.message.Letter.{Letter}
use Rattle.es_ledger.specs.declared.message.Letter.TheVariants.{Block}
use Rattle.es_ledger.specs.Blocks.{tickets_at, lost}
use Rattle.es_ledger.specs.Letters.{body_of}
use Rattle.es_ledger.specs.Ports.{QueueView, no_queue, letters_at}
use Rattle.std.proofs.lemmas.List.{get_or_past}
use Rattle.es_ledger.specs.Draining.{drained_one, drained_each, drained_to, drained_below}
use Rattle.es_ledger.specs.Ties.{Columns, LedgerTies}
use Rattle.es_ledger.proofs.Mail.{mail_same, mail_popped, sleepers_same, waiting_same}
use Rattle.es_ledger.proofs.Tying.{left_same, less_ties}
use Rattle.es_ledger.proofs.Lain.{front_is, ticket_line, drained_count, drained_length}

-- One message

-- its ticket is still there, and there is room for its spending
pub drained_there : {L : Type 0} (n : ℕ) (l : Ledger) (k : Columns L) (s r : ℕ) (x : Row) (rest : List (Letter L))
    → LedgerTies n l k → s < n → r < n → letters_at k.queues s r ≡ Block x ∷ rest → 0 < tickets_at k.blocks x.block
drained_there n l k s r x rest ties sender receiver is =
    let few = ties.few in
    let line = ticket_line n l k.waits k.queues s r x rest ties.legal.0 ties.mail sender (omega (arith, few, receiver)) is in
    let counts = drained_count n l s r x ties.legal.0 line x.block in
    let here : ◌≡◌ {A = ℕ} (cond (x.block == x.block) 1 0) 1 = ap (λ s. cond s 1 0) (eq-eqb x.block x.block refl) in
    let all = ties.tickets x.block in
    omega (arith, counts, here, all)

pub drained_room : {L : Type 0} (n : ℕ) (l : Ledger) (k : Columns L) (number middle s r : ℕ) (x : Row) (rest : List (Letter L))
    → LedgerTies n l k → s < n → r < n → letters_at k.queues s r ≡ Block x ∷ rest → k.messages ≡ 1 + number → k.places ≤ middle + 1 → 0 < middle
drained_room n l k number middle s r x rest ties sender receiver is one last =
    let few = ties.few in
    let line = ticket_line n l k.waits k.queues s r x rest ties.legal.0 ties.mail sender (omega (arith, few, receiver)) is in
    let fewer = drained_length n l s r x ties.legal.0 line in
    let room = ties.room in
    omega (arith, fewer, one, last, room)

pub drained_block_ties : {L : Type 0} (n : ℕ) (l : Ledger) (k : Columns L) (queues : List (QueueView L)) (number middle more s r : ℕ) (x : Row)
    → LedgerTies n l k → s < n → r < n → all_ended l n ≡ true
    → length queues ≡ length k.queues → letters_at k.queues s r ≡ Block x ∷ letters_at queues s r → ((t u : ℕ) → u < 8 → (t ≡ s → u ≡ r → ⊥) → letters_at queues t u ≡ letters_at k.queues t u)
    → k.messages ≡ 1 + number → k.places ≤ middle + 1 → middle ≤ more + 1
    → LedgerTies n (Spent x.serial ∷ Drained s r ∷ l) (record k { lines = moved x.serial Nobody k.lines; blocks = lost k.blocks x.block; queues = queues; messages = number; places = more })
drained_block_ties n l k queues number middle more s r x ties sender receiver over columns here others one last later =
    let few = ties.few in
    let column : r < 8 = omega (arith, few, receiver) in
    let at_front = front_is n l k.waits k.queues s r (Block x) (letters_at queues s r) ties.mail sender column here in
    let line = ticket_line n l k.waits k.queues s r x (letters_at queues s r) ties.legal.0 ties.mail sender column here in
    let counts = drained_count n l s r x ties.legal.0 line in
    let some : 0 < count l x.block = some_here _ (counts x.block) in
    let owes : owed (Drained s r ∷ l) ≡ Some x.serial = ap (option_and_then serial_in) at_front in
    let fewer = drained_length n l s r x ties.legal.0 line in
    let left_one = left_same (Drained s r) l n (λ c. refl) in
    let left_two = left_same (Spent x.serial) (Drained s r ∷ l) n (λ c. refl) in
    let waits_one = waiting_same l (Drained s r) n (λ c. refl) (λ c. refl) in
    let waits_two = waiting_same (Drained s r ∷ l) (Spent x.serial) n (λ c. refl) (λ c. refl) in
    let room = ties.room in
    less_ties n l (Spent x.serial ∷ Drained s r ∷ l) k _ x.block ties some counts
    ((subst (ComesNext n (Drained s r ∷ l) (Spent x.serial)) (sym owes) refl, (subst (ComesNext n l (Drained s r)) (sym ties.legal.1) (over, ap is_some at_front), ties.legal.0)), refl)
    (ap (moved x.serial Nobody) ties.tabled) (zero-add (0 + opened l) ∙ zero-add (opened l)) (λ c. refl) (λ c i. refl) (λ c. refl)
    refl refl (mail_same n (Drained s r ∷ l) k.waits queues (Spent x.serial)
    (mail_popped n l k.waits k.waits k.queues queues s r (Block x) (Drained s r) ties.mail columns here others (λ t u. refl) refl ties.mail.awaited (λ c t within is. is)) (λ t u. refl) (λ c. refl)) (sleepers_same n l (Spent x.serial ∷ Drained s r ∷ l) k.listed k.sleeping ties.sleepers refl (λ c. refl))
    (omega (arith, fewer, left_one, left_two, waits_one, waits_two, room, one, last, later))
  where
    some_here : (m : ℕ) → count l x.block ≡ cond (x.block == x.block) 1 0 + m → 0 < count l x.block
    some_here m e = let here : ◌≡◌ {A = ℕ} (cond (x.block == x.block) 1 0) 1 = ap (λ s. cond s 1 0) (eq-eqb x.block x.block refl) in omega (arith, e, here)

-- What is in front

the_front : (p : List Body) → is_some (slice_get p 0) ≡ true → (m : Body) × (p ≡ m ∷ drop 1 p)
the_front [] e = cc
the_front (m ∷ p) e = (m, refl)

-- Histories

one_port : (l : Ledger) (s r : ℕ) (m : Body) (t u : ℕ) → port_of (drained_one l s r m) t u ≡ cond (is_at t u s r) (drop 1 (port_of l t u)) (port_of l t u)
one_port l s r (PlainBody v) t u = refl
one_port l s r (BlockBody b k) t u = refl

one_here : (l : Ledger) (s r : ℕ) (m : Body) → port_of (drained_one l s r m) s r ≡ drop 1 (port_of l s r)
one_here l s r m = one_port l s r m s r ∙ ap (λ b. cond b (drop 1 (port_of l s r)) (port_of l s r)) (and_from (s == s) (r == r) (eq-eqb s s refl) (eq-eqb r r refl))

one_ended : (l : Ledger) (s r : ℕ) (m : Body) (a : ℕ) → ended (drained_one l s r m) a ≡ ended l a
one_ended l s r (PlainBody v) a = refl
one_ended l s r (BlockBody b k) a = refl

one_over : (l : Ledger) (s r : ℕ) (m : Body) (n : ℕ) → all_ended (drained_one l s r m) n ≡ all_ended l n
one_over l s r m zero = refl
one_over l s r m (suc n) = ap (λ b. b && all_ended (drained_one l s r m) n) (one_ended l s r m n) ∙ ap (λ b. ended l n && b) (one_over l s r m n)

-- after one message what is to be drained of the port is the same, one message fewer
pub record Stepped (l later : Ledger) (s r n : ℕ) : Type 0 where
  pub each : drained_each later s r (port_of later s r) ≡ drained_each l s r (port_of l s r)
  pub fewer : length (port_of later s r) < length (port_of l s r)
  pub over : all_ended later n ≡ all_ended l n

pub stepped : (l later : Ledger) (s r n : ℕ) → has_message l s r ≡ true → ((m : Body) → front l s r ≡ Some m → later ≡ drained_one l s r m) → Stepped l later s r n
stepped l later s r n there is =
    let first = the_front (port_of l s r) there in
    let m : Body = first.0 in
    let at : later ≡ drained_one l s r m = is m (ap (λ p. slice_get p 0) first.1) in
    let rest : port_of later s r ≡ drop 1 (port_of l s r) = ap (λ h. port_of h s r) at ∙ one_here l s r m in
    record {
      each = ap (λ h. drained_each h s r (port_of later s r)) at ∙ ap (drained_each (drained_one l s r m) s r) rest ∙ sym (ap (drained_each l s r) first.1);
      fewer =
          let long : length (port_of l s r) ≡ suc (length (drop 1 (port_of l s r))) = ap (λ p. length p) first.1 in
          let short : length (port_of later s r) ≡ length (drop 1 (port_of l s r)) = ap (λ p. length p) rest in
          omega (arith, long, short);
      over = ap (λ h. all_ended h n) at ∙ one_over l s r m n;
    }

-- where the port has none, nothing is left to be drained of it
none_in : (p : List Body) → is_some (slice_get p 0) ≡ false → p ≡ []
none_in [] e = refl
none_in (m ∷ p) e = cc

pub finished : (l : Ledger) (s r : ℕ) → has_message l s r ≡ false → drained_each l s r (port_of l s r) ≡ l
finished l s r none = ap (drained_each l s r) (none_in (port_of l s r) none)

-- No message is left

each_here : (l : Ledger) (s r : ℕ) (ms : List Body) → port_of l s r ≡ ms → port_of (drained_each l s r ms) s r ≡ []
each_here l s r [] is = is
each_here l s r (m ∷ ms) is = each_here (drained_one l s r m) s r ms (one_here l s r m ∙ ap (drop 1) is)

still_none : (b : Bool) (p : List Body) → p ≡ [] → cond b (drop 1 p) p ≡ []
still_none true p is = ap (drop 1) is
still_none false p is = is

each_stays : (l : Ledger) (s r : ℕ) (ms : List Body) (t u : ℕ) → port_of l t u ≡ [] → port_of (drained_each l s r ms) t u ≡ []
each_stays l s r [] t u is = is
each_stays l s r (m ∷ ms) t u is = each_stays (drained_one l s r m) s r ms t u (one_port l s r m t u ∙ still_none (is_at t u s r) (port_of l t u) is)

to_stays : (l : Ledger) (r n t u : ℕ) → port_of l t u ≡ [] → port_of (drained_to l r n) t u ≡ []
to_stays l r zero t u is = is
to_stays l r (suc n) t u is = each_stays (drained_to l r n) n r (port_of (drained_to l r n) n r) t u (to_stays l r n t u is)

to_here : (l : Ledger) (r n t : ℕ) → t < n → port_of (drained_to l r n) t r ≡ []
to_here l r zero t below = absurd (omega (arith, below))
to_here l r (suc n) t below = by_test (n == t) refl (λ less. to_here l r n t less)
  where
    by_test : (b : Bool) → (n == t) ≡ b → (t < n → port_of (drained_to l r n) t r ≡ []) → port_of (drained_to l r (suc n)) t r ≡ []
    by_test true is earlier = subst (λ d. port_of (drained_to l r (suc n)) d r ≡ []) (eqb-true n t is) (each_here (drained_to l r n) n r (port_of (drained_to l r n) n r) refl)
    by_test false is earlier = each_stays (drained_to l r n) n r (port_of (drained_to l r n) n r) t r (earlier (let off : n ≡ t → ⊥ = λ e. false≢true (sym is ∙ eq-eqb n t e) in omega (arith, below, off)))

below_here : (l : Ledger) (n m t u : ℕ) → t < n → u < m → port_of (drained_below l n m) t u ≡ []
below_here l n zero t u sender below = absurd (omega (arith, below))
below_here l n (suc m) t u sender below = by_test (m == u) refl (λ less. below_here l n m t u sender less)
  where
    by_test : (b : Bool) → (m == u) ≡ b → (u < m → port_of (drained_below l n m) t u ≡ []) → port_of (drained_below l n (suc m)) t u ≡ []
    by_test true is earlier = subst (λ d. port_of (drained_below l n (suc m)) t d ≡ []) (eqb-true m u is) (to_here (drained_below l n m) m n t sender)
    by_test false is earlier = to_stays (drained_below l n m) m n t u (earlier (let off : m ≡ u → ⊥ = λ e. false≢true (sym is ∙ eq-eqb m u e) in omega (arith, below, off)))

-- ports beyond the agents have none

beyond : (n : ℕ) (l : Ledger) (e : LedgerEvent) (o : Option ℕ) (s r : ℕ) → ComesNext n l e o → ((s < n → r < n → ⊥)) → port_of l s r ≡ [] → port_of (e ∷ l) s r ≡ []
beyond n l e (Some k) s r c out none = subst (λ e. port_of (e ∷ l) s r ≡ []) (sym c) none
beyond n l (Posted t u m) None s r c out none = by_test (is_at s r t u) refl
  where
    by_test : (b : Bool) → is_at s r t u ≡ b → cond b (port_of l s r ++ m ∷ []) (port_of l s r) ≡ []
    by_test true at =
        let parts = and_parts (s == t) (r == u) at in
        absurd (out (subst (λ a. a < n) (sym (eqb-true s t parts.0)) c.0) (subst (λ a. a < n) (sym (eqb-true r u parts.1)) c.1))
    by_test false off = none
beyond n l (Taken t u) None s r c out none = still_none (is_at s r t u) (port_of l s r) none
beyond n l (Drained t u) None s r c out none = still_none (is_at s r t u) (port_of l s r) none
beyond n l _ None s r c out none = none

pub none_beyond : (n : ℕ) (l : Ledger) (s r : ℕ) → LegalSoFar n l → (s < n → r < n → ⊥) → port_of l s r ≡ []
none_beyond n [] s r legal out = refl
none_beyond n (e ∷ l) s r legal out = beyond n l e (owed l) s r legal.0 out (none_beyond n l s r legal.1 out)

below_stays : (l : Ledger) (n m t u : ℕ) → port_of l t u ≡ [] → port_of (drained_below l n m) t u ≡ []
below_stays l n zero t u is = is
below_stays l n (suc m) t u is = to_stays (drained_below l n m) m n t u (below_stays l n m t u is)

pub all_drained : (n : ℕ) (l later : Ledger) → LegalSoFar n l → later ≡ drained_below l n n → (s r : ℕ) → port_of later s r ≡ []
all_drained n l later legal is s r = ap (λ h. port_of h s r) is ∙ by_test (nat_lt s n) (nat_lt r n) refl refl
  where
    by_test : (a b : Bool) → nat_lt s n ≡ a → nat_lt r n ≡ b → port_of (drained_below l n n) s r ≡ []
    by_test true true below within = below_here l n n s r (grind (arith, nat_tests, below)) (grind (arith, nat_tests, within))
    by_test false b off within = below_stays l n n s r (none_beyond n l s r legal (λ below inside. let not : n ≤ s = grind (arith, nat_tests, off) in absurd (omega (arith, not, below))))
    by_test true false below off = below_stays l n n s r (none_beyond n l s r legal (λ sender inside. let not : n ≤ r = grind (arith, nat_tests, off) in absurd (omega (arith, not, inside))))

-- no queue has a letter

no_letters : {L : Type 0} (q : List (Letter L)) → map body_of q ≡ [] → q ≡ []
no_letters [] e = refl
no_letters (x ∷ q) e = cc

pub none_anywhere : {L : Type 0} (n : ℕ) (l : Ledger) (k : Columns L)
    → LedgerTies n l k → ((s r : ℕ) → port_of l s r ≡ []) → (i : ℕ) → (slice_index_or k.queues i no_queue).letters ≡ []
none_anywhere n l k ties none i = by_test (nat_lt i (n * 8)) refl
  where
    by_test : (b : Bool) → nat_lt i (n * 8) ≡ b → (slice_index_or k.queues i no_queue).letters ≡ []
    by_test true is =
        let below : i < n * 8 = grind (arith, nat_tests, is) in
        let parts : i / 8 * 8 + i % 8 ≡ i = omega arith in
        let column : i % 8 < 8 = omega arith in
        let sender : i / 8 < n = omega (arith, below, parts, column) in
        let empty = no_letters (letters_at k.queues (i / 8) (i % 8)) (ties.mail.ports (i / 8) (i % 8) sender column ∙ none (i / 8) (i % 8)) in
        subst (λ j. (slice_index_or k.queues j no_queue).letters ≡ []) parts empty
    by_test false is =
        let past : n * 8 ≤ i = grind (arith, nat_tests, is) in
        let columns = ties.mail.columns in
        ap (λ q. q.letters) (get_or_past k.queues i no_queue (omega (arith, past, columns)))
