-- An agent's wait is recorded, and ends when the agent is told to skip its job.
use Rattle.std.proofs.Common.{◌≡◌, ◌≢◌, ℕ, suc, ◌+◌, ◌*◌, ◌<◌, ◌≤◌, ◌==◌, List, [], ◌∷◌, Option, Some, None, Bool, ◌||◌, true, false, refl, ap, subst, arith, length, zero-add, ne_eqb}
use Rattle.std.proofs.lemmas.Bool.{eqb-true}
use Rattle.std.specs.Prelude.{slice_set, slice_get, is_some, map, not}
use Rattle.std.specs.Option.{option_map_or}
use Rattle.es_event.specs.declared.ledger_event.Body.{Body}
use Rattle.es_event.specs.declared.ledger_event.LedgerEvent.TheVariants.{Acted}
use Rattle.es_event.specs.declared.ledger_event.Act.TheVariants.{Waiting, Passed}
use Rattle.es_event.specs.Ledger.{Ledger, opened, rows, port_of, waits as awaits, ended}
use Rattle.es_event.specs.Waiters.{asleep}
use Rattle.es_event.specs.LegalLedger.{has_message, skips}
use Rattle.es_ledger.specs.declared.message.Letter.{Letter}
use Rattle.es_ledger.specs.Letters.{body_of}
use Rattle.es_ledger.specs.Ports.{letters_at}
use Rattle.es_ledger.specs.Turns.{waits_for}
use Rattle.es_ledger.specs.Ties.{left, waiting, Columns, LedgerTies}
use Rattle.es_ledger.proofs.Mail.{mail_waited, sleepers_same, waiting_one, one_if}
use Rattle.es_ledger.proofs.Tying.{still_ties}

-- a port has a message where its queue is not empty
some_front : {L : Type 0} (q : List (Letter L)) (p : List Body) → map body_of q ≡ p → not (length q == 0) ≡ is_some (slice_get p 0)
some_front [] [] e = refl
some_front [] (m ∷ p) e = cc
some_front (x ∷ q) [] e = cc
some_front (x ∷ q) (m ∷ p) e = ap not (ne_eqb (suc (length q)) 0 (λ none. absurd (omega (arith, none))))

pub port_filled : {L : Type 0} (n : ℕ) (l : Ledger) (k : Columns L) (s r : ℕ)
    → LedgerTies n l k → s < n → r < n → not (length (letters_at k.queues s r) == 0) ≡ has_message l s r
port_filled n l k s r ties sender receiver =
    let few = ties.few in some_front (letters_at k.queues s r) (port_of l s r) (ties.mail.ports s r sender (omega (arith, few, receiver)))

-- and it is one of the columns that are there
pub port_inside : {L : Type 0} (n : ℕ) (l : Ledger) (k : Columns L) (s r : ℕ)
    → LedgerTies n l k → s < n → r < n → (s * 8 + r < length k.queues) × (s < 8) × (r < 8)
port_inside n l k s r ties sender receiver =
    let few = ties.few in
    let columns = ties.mail.columns in
    (omega (arith, few, columns, sender, receiver), omega (arith, few, sender), omega (arith, few, receiver))

pub waiting_ties : {L : Type 0} (n : ℕ) (l : Ledger) (k : Columns L) (more a s : ℕ)
    → LedgerTies n l k → a < n → s < n → a ≢ s → has_message l s a ≡ false → awaits l a ≡ None → ended l a ≡ false → asleep l a ≡ false
    → length (rows l) + left l n + waiting l n + k.messages + 2 ≤ more + 1
    → LedgerTies n (Acted a (Waiting s) ∷ l) (record k { waits = slice_set k.waits a (Some s); places = more })
waiting_ties n l k more a s ties below sender apart empty nobody going awake room =
    let waits = waiting_one l (Acted a (Waiting s)) n a (Some s) below (λ c. refl) (λ c. refl) in
    let none : one_if (is_some (awaits l a)) ≡ 0 = ap (λ o. one_if (is_some o)) nobody in
    still_ties n l k _ (Acted a (Waiting s)) ties (below, sender, apart, empty, nobody, going, awake) refl
    ties.tabled (zero-add (opened l)) (λ b. refl) (λ b. refl) (λ b. refl) (λ b i. refl)
    refl refl (mail_waited n l k.waits k.queues a (Some s) (Acted a (Waiting s)) ties.mail below (λ t u. refl) (λ c. refl) (λ t is. let same : s ≡ t = cc in subst (λ u. u < n) same sender)) (sleepers_same n l (Acted a (Waiting s) ∷ l) k.listed k.sleeping ties.sleepers refl (λ c. refl))
    (omega (arith, waits, none, room))

-- it waits for this sender
awaits_this : (o : Option ℕ) (s : ℕ) → option_map_or (λ t. t == s) o false ≡ true → o ≡ Some s
awaits_this None s e = cc
awaits_this (Some t) s e = ap Some (eqb-true t s e)

pub passed_room : {L : Type 0} (n : ℕ) (l : Ledger) (k : Columns L) (a s : ℕ)
    → LedgerTies n l k → a < n → waits_for l a s ≡ true → 0 < k.places
passed_room n l k a s ties below for_it =
    let waits = waiting_one l (Acted a (Passed s)) n a None below (λ c. refl) (λ c. refl) in
    let one : one_if (is_some (awaits l a)) ≡ 1 = ap (λ o. one_if (is_some o)) (awaits_this (awaits l a) s for_it) in
    let room = ties.room in
    omega (arith, waits, one, room)

pub passed_ties : {L : Type 0} (n : ℕ) (l : Ledger) (k : Columns L) (more a s : ℕ)
    → LedgerTies n l k → a < n → waits_for l a s ≡ true → skips l n a s ≡ true → k.places ≤ more + 1
    → LedgerTies n (Acted a (Passed s) ∷ l) (record k { waits = slice_set k.waits a None; places = more })
passed_ties n l k more a s ties below for_it skip last =
    let waits = waiting_one l (Acted a (Passed s)) n a None below (λ c. refl) (λ c. refl) in
    let one : one_if (is_some (awaits l a)) ≡ 1 = ap (λ o. one_if (is_some o)) (awaits_this (awaits l a) s for_it) in
    let room = ties.room in
    still_ties n l k _ (Acted a (Passed s)) ties (awaits_this (awaits l a) s for_it, skip) refl
    ties.tabled (zero-add (opened l)) (λ b. refl) (λ b. refl) (λ b. refl) (λ b i. refl)
    refl refl (mail_waited n l k.waits k.queues a None (Acted a (Passed s)) ties.mail below (λ t u. refl) (λ c. refl) (λ t is. cc)) (sleepers_same n l (Acted a (Passed s) ∷ l) k.listed k.sleeping ties.sleepers refl (λ c. refl))
    (omega (arith, waits, one, room, last))

pub none_if : {A : Type 0} (o : Option A) → is_some o ≡ false → o ≡ None
none_if None is = refl
none_if (Some x) is = cc

pub neither_of : (b c : Bool) → (b || c) ≡ false → (b ≡ false) × (c ≡ false)
neither_of true c is = cc
neither_of false c is = (refl, is)
