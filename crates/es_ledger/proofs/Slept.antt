-- An agent sleeps, is taken out of its list, and goes on.
use Rattle.std.proofs.Common.{◌≡◌, ℕ, ◌+◌, ◌<◌, ◌≤◌, ◌==◌, List, [], ◌∷◌, ◌++◌, filter, Some, None, Bool, true, false, cond, refl, sym, ap, ◌∙◌, subst, arith, take, length, length-set, zero-add, eq-eqb}
use Rattle.std.proofs.lemmas.Bool.{eqb-true, false≢true}
use Rattle.std.proofs.lemmas.List.{get_or-set_same, get_or-set_other, length-take}
use Rattle.std.specs.List.{Contains}
use Rattle.std.specs.Option.{option_map_or}
use Rattle.std.specs.Prelude.{slice_set, slice_index_or, not}
use Rattle.es_event.specs.declared.ledger_event.LedgerEvent.{LedgerEvent}
use Rattle.es_event.specs.declared.ledger_event.LedgerEvent.TheVariants.{Accessed, Acted}
use Rattle.es_event.specs.declared.ledger_event.Act.TheVariants.{Slept, Notified, Woke, TimedOut}
use Rattle.es_event.specs.declared.access.Change.TheVariants.{Keep}
use Rattle.es_event.specs.declared.row.Row.{Row}
use Rattle.es_event.specs.declared.waiter.Waiter.{Waiter}
use Rattle.es_event.specs.Rows.{held}
use Rattle.es_event.specs.Ledger.{Ledger, opened, rows, table, word, waits as awaits, ended, holder_of}
use Rattle.es_event.specs.LegalLedger.{ReachesAs, is_chosen}
use Rattle.es_event.specs.Waiters.{asleep, block_by, is_at, is_listed, taken_there, waiter, waiters, without_first, list_at}
use Rattle.es_ledger.specs.Sleeps.{laid_down}
use Rattle.es_ledger.specs.Ties.{left, waiting, Columns, LedgerTies, Sleepers}
use Rattle.es_ledger.proofs.After.{holder_here}
use Rattle.es_ledger.proofs.Leaving.{taken_so}
use Rattle.es_ledger.proofs.Mail.{mail_same, one_if, sleeping_one, waiting_same}
use Rattle.es_ledger.proofs.Tying.{still_ties}

-- one agent begins to sleep, or goes on
sleeps_set : (l : Ledger) (bs : List Bool) (a c n : ℕ) (v : Bool) → length bs ≡ n → a < n → slice_index_or bs c false ≡ asleep l c → (b : Bool) → (a == c) ≡ b
    → slice_index_or (slice_set bs a v) c false ≡ cond b v (asleep l c)
sleeps_set l bs a c n v long below was true is = subst (λ d. slice_index_or (slice_set bs a v) d false ≡ v) (eqb-true a c is) (get_or-set_same bs a v false (omega (arith, long, below)))
sleeps_set l bs a c n v long below was false is = get_or-set_other bs a c v false (λ e. absurd (false≢true (sym is ∙ eq-eqb a c (sym e)))) ∙ was

pub sleepers_set : (n : ℕ) (l : Ledger) (e : LedgerEvent) (ws more : List Waiter) (bs : List Bool) (a : ℕ) (v : Bool) → Sleepers n l ws bs → a < n
    → more ≡ waiters (e ∷ l) → ((c : ℕ) → asleep (e ∷ l) c ≡ cond (a == c) v (asleep l c)) → Sleepers n (e ∷ l) more (slice_set bs a v)
sleepers_set n l e ws more bs a v are below lists slept = record {
  lists = lists;
  agents = length-set bs a v ∙ are.agents;
  each = λ c within. sleeps_set l bs a c n v are.agents below (are.each c within) (a == c) refl ∙ sym (slept c);
}

-- A ticket's block

by_holder : (l : Ledger) (s a : ℕ) (r : Row) → holder_of l s ≡ Some (a, r) → block_by l s ≡ r.block
by_holder l s a r is = ap (λ o. option_map_or (λ (p : ℕ × Row). p.1.block) o 0) is

reaches : (l : Ledger) (a i : ℕ) (r : Row) (asked : Row → Type 0) → holder_of l r.serial ≡ Some (a, r) → i < r.words → asked r → ReachesAs a (holder_of l r.serial) i asked
reaches l a i r asked is inside so = subst (λ o. ReachesAs a o i asked) (sym is) (refl, inside, so)

-- An agent sleeps

pub slept_ties : {L : Type 0} (n : ℕ) (l : Ledger) (k : Columns L) (more a i : ℕ) (r : Row)
    → LedgerTies n l k → Contains (held a (table l)) r → i < r.words → a < n → awaits l a ≡ None → ended l a ≡ false → asleep l a ≡ false
    → length (rows l) + left l n + waiting l n + k.messages + 2 ≤ more + 1
    → LedgerTies n (Acted a (Slept r.serial i (word l r.block i)) ∷ l) (record k { listed = k.listed ++ waiter a r.block i ∷ []; sleeping = slice_set k.sleeping a true; places = more })
slept_ties n l k more a i r ties has inside below free going awake room =
    still_ties n l k _ e ties (reaches l a i r (λ q. word l r.block i ≡ word l q.block i) holder inside refl, free, going, awake) refl
    ties.tabled (zero-add (opened l)) (λ b. refl) (λ b. refl) (λ b. refl) (λ b j. refl)
    refl refl (mail_same n l k.waits k.queues e ties.mail (λ s t. refl) (λ c. refl))
    (sleepers_set n l e k.listed _ k.sleeping a true ties.sleepers below listed (λ c. refl))
    (omega (arith, rests, none, room))
  where
    e : LedgerEvent
    e = Acted a (Slept r.serial i (word l r.block i))

    holder : holder_of l r.serial ≡ Some (a, r)
    holder = holder_here n l a r ties.legal.0 has

    listed : k.listed ++ waiter a r.block i ∷ [] ≡ waiters (e ∷ l)
    listed = ap (λ ws. ws ++ waiter a r.block i ∷ []) ties.sleepers.lists ∙ ap (λ b. waiters l ++ waiter a b i ∷ []) (sym (by_holder l r.serial a r holder))

    rests : waiting (e ∷ l) n + one_if (asleep l a) ≡ waiting l n + 1
    rests = sleeping_one l e n a true below (λ c. refl) (λ c. refl)

    none : one_if (asleep l a) ≡ 0
    none = ap one_if awake

-- Agents are taken

-- so many as left
pub taken_is : (n : ℕ) (l : Ledger) (ws vs : List Waiter) (bs : List Bool) (b i m c : ℕ) → Sleepers n l ws bs → vs ≡ without_first b i m ws → c + length vs ≡ length ws → c ≡ taken_there l b i m
taken_is n l ws vs bs b i m c are left all = taken_so b i m c (length vs) ws vs left all refl ∙ ap (λ ws. length (take m (filter (is_at b i) ws))) are.lists

-- and they are few
pub taken_few : (l : Ledger) (b i m : ℕ) → taken_there l b i m ≤ m
taken_few l b i m = omega (arith, length-take m (list_at l b i))

pub notified_ties : {L : Type 0} (n : ℕ) (l : Ledger) (k : Columns L) (more a i m c : ℕ) (r : Row)
    → LedgerTies n l k → Contains (held a (table l)) r → i < r.words → c ≡ taken_there l r.block i m → length (rows l) + left l n + waiting l n + k.messages ≤ more
    → LedgerTies n (Acted a (Notified r.serial i m c) ∷ l) (record k { listed = without_first r.block i m k.listed; places = more })
notified_ties n l k more a i m c r ties has inside many room =
    still_ties n l k _ e ties (reaches l a i r (λ q. c ≡ taken_there l q.block i m) holder inside many) refl
    ties.tabled (zero-add (opened l)) (λ b. refl) (λ b. refl) (λ b. refl) (λ b j. refl)
    refl refl (mail_same n l k.waits k.queues e ties.mail (λ s t. refl) (λ c. refl))
    (record { lists = listed; agents = ties.sleepers.agents; each = ties.sleepers.each })
    (omega (arith, rests, room))
  where
    e : LedgerEvent
    e = Acted a (Notified r.serial i m c)

    holder : holder_of l r.serial ≡ Some (a, r)
    holder = holder_here n l a r ties.legal.0 has

    listed : without_first r.block i m k.listed ≡ waiters (e ∷ l)
    listed = ap (without_first r.block i m) ties.sleepers.lists ∙ ap (λ b. without_first b i m (waiters l)) (sym (by_holder l r.serial a r holder))

    rests : waiting (e ∷ l) n ≡ waiting l n
    rests = waiting_same l e n (λ c. refl) (λ c. refl)

-- A sleep ends

slept_one : (l : Ledger) (a : ℕ) → asleep l a ≡ true → one_if (asleep l a) ≡ 1
slept_one l a is = ap one_if is

pub woke_ties : {L : Type 0} (n : ℕ) (l : Ledger) (k : Columns L) (more a : ℕ)
    → LedgerTies n l k → a < n → asleep l a ≡ true → is_listed l a ≡ false → k.places ≤ more + 1
    → LedgerTies n (Acted a Woke ∷ l) (record k { sleeping = slice_set k.sleeping a false; places = more })
woke_ties n l k more a ties below is taken last =
    let rests = sleeping_one l (Acted a Woke) n a false below (λ c. refl) (λ c. refl) in
    let one = slept_one l a is in
    let room = ties.room in
    still_ties n l k _ (Acted a Woke) ties (is, taken) refl
    ties.tabled (zero-add (opened l)) (λ b. refl) (λ b. refl) (λ b. refl) (λ b j. refl)
    refl refl (mail_same n l k.waits k.queues (Acted a Woke) ties.mail (λ s t. refl) (λ c. refl))
    (sleepers_set n l (Acted a Woke) k.listed k.listed k.sleeping a false ties.sleepers below ties.sleepers.lists (λ c. refl))
    (omega (arith, rests, one, room, last))

pub timed_out_ties : {L : Type 0} (n : ℕ) (l : Ledger) (k : Columns L) (more a : ℕ)
    → LedgerTies n l k → a < n → asleep l a ≡ true → is_listed l a ≡ true → is_chosen l n a ≡ true → k.places ≤ more + 1
    → LedgerTies n (Acted a TimedOut ∷ l) (record k { listed = filter (λ (w : Waiter). not (w.agent == a)) k.listed; sleeping = slice_set k.sleeping a false; places = more })
timed_out_ties n l k more a ties below is listed chosen last =
    let rests = sleeping_one l (Acted a TimedOut) n a false below (λ c. refl) (λ c. refl) in
    let one = slept_one l a is in
    let room = ties.room in
    still_ties n l k _ (Acted a TimedOut) ties (listed, chosen) refl
    ties.tabled (zero-add (opened l)) (λ b. refl) (λ b. refl) (λ b. refl) (λ b j. refl)
    refl refl (mail_same n l k.waits k.queues (Acted a TimedOut) ties.mail (λ s t. refl) (λ c. refl))
    (sleepers_set n l (Acted a TimedOut) k.listed _ k.sleeping a false ties.sleepers below (ap (filter (λ (w : Waiter). not (w.agent == a))) ties.sleepers.lists) (λ c. refl))
    (omega (arith, rests, one, room, last))

-- there is room for the end of a sleep
pub rising_room : {L : Type 0} (n : ℕ) (l : Ledger) (k : Columns L) (e : LedgerEvent) (a : ℕ) → LedgerTies n l k → a < n → asleep l a ≡ true
    → ((c : ℕ) → asleep (e ∷ l) c ≡ cond (a == c) false (asleep l c)) → ((c : ℕ) → awaits (e ∷ l) c ≡ awaits l c) → 0 < k.places
rising_room n l k e a ties below is slept waited =
    let rests = sleeping_one l e n a false below slept waited in
    let one = slept_one l a is in
    let room = ties.room in
    omega (arith, rests, one, room)

-- where the word is there, the agent lies down
pub lies_down : (l : Ledger) (a i w : ℕ) (r : Row) → word l r.block i ≡ w → laid_down l a r i w ≡ (true, Acted a (Slept r.serial i w) ∷ l)
lies_down l a i w r is = ap (λ t. cond t (true, Acted a (Slept r.serial i w) ∷ l) (false, Accessed r.serial i Keep (word l r.block i) ∷ l)) (eq-eqb (word l r.block i) w is)
