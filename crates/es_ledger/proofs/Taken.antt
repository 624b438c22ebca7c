-- Who was taken is woken, and nobody else; and a notify of all leaves nobody at its word.
use Rattle.std.proofs.Common.{◌≡◌, ℕ, ◌≤◌, ◌<◌, ◌==◌, eqb, ◌&&◌, ◌||◌, Bool, true, false, cond, not, sym, ◌∙◌, ap, subst, refl, arith, suc-ne-zero, drop_of_length-le, length, map, filter, List, [], ◌∷◌, ◌++◌, Option, Some, None, ◌⊎◌, inl, inr}
use Rattle.std.specs.List.{AllByRecursion, IsDistinct, list_any}
use Rattle.std.proofs.lemmas.Bool.{and_parts, eq-eqb, eqb-false, eqb-true, false≢true, ne_eqb}
use Rattle.std.proofs.lemmas.List.{length-map}
use Rattle.std.proofs.lemmas.List.Sums.{count_by-le-length, length-filter}
use Rattle.std.proofs.lemmas.Map.Steps.{length-le_from_distinct_below}
use Rattle.es_event.specs.declared.ledger_event.Act.{Act}
use Rattle.es_event.specs.declared.ledger_event.Act.TheVariants.{Ended, Slept, Notified, Woke, TimedOut}
use Rattle.es_event.specs.declared.ledger_event.LedgerEvent.{LedgerEvent}
use Rattle.es_event.specs.declared.ledger_event.LedgerEvent.TheVariants.{Acted}
use Rattle.es_event.specs.declared.row.Row.{Row}
use Rattle.es_event.specs.declared.waiter.Waiter.{Waiter}
use Rattle.es_event.specs.Ledger.{Ledger, holder_of}
use Rattle.es_event.specs.LegalLedger.{ComesNext, LegalSoFar, ReachesAs, owed}
use Rattle.es_event.specs.Waiters.{asleep, block_by, is_at, is_listed, list_at, waiter, waiters}
use Rattle.es_ledger.specs.Wakings.{Takes, was_taken}
use Rattle.es_ledger.proofs.Leaving.{filtered_first}
use Rattle.es_ledger.proofs.Waking.{awake_before, has, has_more, has_some, has_without, later, listed_asleep, listed_once, times, untaken}
use Rattle.es_ledger.proofs.Within.{holder_within}

-- One event

-- sleeping on, and not listed anew
stays_taken : (l m : Ledger) (a : ℕ) → asleep m a ≡ asleep l a → (is_listed m a ≡ true → is_listed l a ≡ true) → was_taken l a ≡ true → was_taken m a ≡ true
stays_taken l m a sleeps back taken = by (is_listed m a) refl
  where
    parts : (asleep l a ≡ true) × (not (is_listed l a) ≡ true)
    parts = and_parts (asleep l a) (not (is_listed l a)) taken

    by : (t : Bool) → is_listed m a ≡ t → was_taken m a ≡ true
    by true is = absurd (false≢true (ap not (sym (back is)) ∙ parts.1))
    by false is = ap (λ t. asleep m a && not t) is ∙ ap (λ t. t && true) (sleeps ∙ parts.0)

unlisted : (l : Ledger) (a : ℕ) → was_taken l a ≡ true → is_listed l a ≡ false
unlisted l a taken = by (is_listed l a) (and_parts (asleep l a) (not (is_listed l a)) taken).1
  where
    by : (t : Bool) → not t ≡ true → t ≡ false
    by true is = absurd (false≢true is)
    by false is = refl

is_asleep : (l : Ledger) (a : ℕ) → was_taken l a ≡ true → asleep l a ≡ true
is_asleep l a taken = (and_parts (asleep l a) (not (is_listed l a)) taken).0

listed_before : (n : ℕ) (l : Ledger) (c : ℕ) (o : Option ℕ) → ComesNext n l (Acted c TimedOut) o → is_listed l c ≡ true
listed_before n l c None may = may.0
listed_before n l c (Some s) may = cc

asleep_before : (n : ℕ) (l : Ledger) (c : ℕ) (o : Option ℕ) → ComesNext n l (Acted c Woke) o → asleep l c ≡ true
asleep_before n l c None may = may.0
asleep_before n l c (Some s) may = cc

-- of whom one thing is said, and of another not, they are two
apart : (f : ℕ → Bool) (c a : ℕ) → f c ≡ true → f a ≡ false → (c == a) ≡ false
apart f c a is isnt = by (c == a) refl
  where
    by : (t : Bool) → (c == a) ≡ t → t ≡ false
    by true e = absurd (false≢true (sym isnt ∙ ap f (sym (eqb-true c a e)) ∙ is))
    by false e = refl

abbrev Goes : Ledger → LedgerEvent → ℕ → Type 0
Goes l e a = (was_taken (e ∷ l) a ≡ true) ⊎ (e ≡ Acted a Woke) ⊎ (e ≡ Acted a Ended)

goes_awake : (n : ℕ) (l : Ledger) (c a : ℕ) (d : Act) → was_taken l a ≡ true → ((c == a) ≡ true → Goes l (Acted c d) a) → ((c == a) ≡ false → was_taken (Acted c d ∷ l) a ≡ true) → Goes l (Acted c d) a
goes_awake n l c a d taken same other = by (c == a) refl
  where
    by : (t : Bool) → (c == a) ≡ t → Goes l (Acted c d) a
    by true e = same e
    by false e = inl (other e)

pub taken_till_woken : (n : ℕ) (l : Ledger) (e : LedgerEvent) (a : ℕ) → LegalSoFar n (e ∷ l) → was_taken l a ≡ true → Goes l e a
taken_till_woken n l (Acted c Ended) a legal taken =
    goes_awake n l c a Ended taken (λ e. inr (inr (ap (λ a. Acted a Ended) (eqb-true c a e))))
    (λ e. stays_taken l (Acted c Ended ∷ l) a (ap (λ t. cond t false (asleep l a)) e) (has_some a (λ w. not (w.agent == c)) (waiters l)) taken)
taken_till_woken n l (Acted c Woke) a legal taken =
    goes_awake n l c a Woke taken (λ e. inr (inl (ap (λ a. Acted a Woke) (eqb-true c a e))))
    (λ e. stays_taken l (Acted c Woke ∷ l) a (ap (λ t. cond t false (asleep l a)) e) (λ is. is) taken)
taken_till_woken n l (Acted c TimedOut) a legal taken =
    let off = apart (is_listed l) c a (listed_before n l c (owed l) legal.0) (unlisted l a taken) in
    inl (stays_taken l (Acted c TimedOut ∷ l) a (ap (λ t. cond t false (asleep l a)) off) (has_some a (λ w. not (w.agent == c)) (waiters l)) taken)
taken_till_woken n l (Acted c (Slept s i w)) a legal taken =
    let off = apart (λ x. not (asleep l x)) c a (ap not (awake_before n l c s i w (owed l) legal.0)) (ap not (is_asleep l a taken)) in
    inl (stays_taken l (Acted c (Slept s i w) ∷ l) a (ap (λ t. cond t true (asleep l a)) off) (λ is. has_more a (waiters l) (waiter c (block_by l s) i) is off) taken)
taken_till_woken n l (Acted c (Notified s i m k)) a legal taken = inl (stays_taken l (Acted c (Notified s i m k) ∷ l) a refl (has_without a (block_by l s) i m (waiters l)) taken)
taken_till_woken n l _ a legal taken = inl taken

pub woken_was_taken : (n : ℕ) (l : Ledger) (a : ℕ) → LegalSoFar n (Acted a Woke ∷ l) → was_taken l a ≡ true
woken_was_taken n l a legal = ap (λ t. asleep l a && not t) (untaken n l a (owed l) legal.0) ∙ ap (λ t. t && true) (asleep_before n l a (owed l) legal.0)

-- Who is listed

kept_or : (h b c : Bool) → (b ≡ true → c ≡ true) → (h || b) ≡ true → (h || c) ≡ true
kept_or true b c rest is = refl
kept_or false b c rest is = rest is

has_still : (a : ℕ) (ws : List Waiter) (x : Waiter) → has a ws ≡ true → has a (ws ++ x ∷ []) ≡ true
has_still a [] x is = absurd (false≢true is)
has_still a (w ∷ ws) x is = kept_or (w.agent == a) (has a ws) (has a (ws ++ x ∷ [])) (has_still a ws x) is

-- another that leaves takes nobody along
has_beside : (c a : ℕ) (ws : List Waiter) → (c == a) ≡ false → has a ws ≡ true → has a (filter (λ w. not (w.agent == c)) ws) ≡ true
has_beside c a [] off is = absurd (false≢true is)
has_beside c a (w ∷ ws) off is = by (w.agent == c) refl (has_beside c a ws off)
  where
    by : (t : Bool) → (w.agent == c) ≡ t → (has a ws ≡ true → has a (filter (λ w. not (w.agent == c)) ws) ≡ true)
        → has a (cond (not t) (w ∷ filter (λ w. not (w.agent == c)) ws) (filter (λ w. not (w.agent == c)) ws)) ≡ true
    by true e rest = rest (sym (ap (λ t. t || has a ws) (ap (λ x. x == a) (eqb-true w.agent c e) ∙ off)) ∙ is)
    by false e rest = kept_or (w.agent == a) (has a ws) _ rest is

abbrev Leaves : Ledger → LedgerEvent → ℕ → Type 0
Leaves l e a = (is_listed (e ∷ l) a ≡ true) ⊎ Takes l e a ⊎ (e ≡ Acted a TimedOut) ⊎ (e ≡ Acted a Ended)

notified : (n : ℕ) (l : Ledger) (c s i m k a : ℕ) → LegalSoFar n l → is_listed l a ≡ true → Leaves l (Acted c (Notified s i m k)) a
notified n l c s i m k a legal is = by (is_listed (Acted c (Notified s i m k) ∷ l) a) refl
  where
    by : (t : Bool) → is_listed (Acted c (Notified s i m k) ∷ l) a ≡ t → Leaves l (Acted c (Notified s i m k)) a
    by true e = inl e
    by false e = inr (inl ((c, s, i, m, k, refl), ap (λ t. asleep l a && not t) e ∙ ap (λ t. t && true) (listed_asleep n l a legal is)))

pub listed_till_taken : (n : ℕ) (l : Ledger) (e : LedgerEvent) (a : ℕ) → LegalSoFar n (e ∷ l) → is_listed l a ≡ true → Leaves l e a
listed_till_taken n l (Acted c Ended) a legal is = by (c == a) refl
  where
    by : (t : Bool) → (c == a) ≡ t → Leaves l (Acted c Ended) a
    by true e = inr (inr (inr (ap (λ a. Acted a Ended) (eqb-true c a e))))
    by false e = inl (has_beside c a (waiters l) e is)
listed_till_taken n l (Acted c TimedOut) a legal is = by (c == a) refl
  where
    by : (t : Bool) → (c == a) ≡ t → Leaves l (Acted c TimedOut) a
    by true e = inr (inr (inl (ap (λ a. Acted a TimedOut) (eqb-true c a e))))
    by false e = inl (has_beside c a (waiters l) e is)
listed_till_taken n l (Acted c (Slept s i w)) a legal is = inl (has_still a (waiters l) (waiter c (block_by l s) i) is)
listed_till_taken n l (Acted c (Notified s i m k)) a legal is = notified n l c s i m k a legal.1 is
listed_till_taken n l _ a legal is = inl is

-- A notify of all

-- the agents of a list, in its order
abbrev names : List Waiter → List ℕ
names ws = map (λ (w : Waiter). w.agent) ws

fewer : (a : ℕ) (w : Waiter) (ws : List Waiter) → times a ws ≤ times a (w ∷ ws)
fewer a w ws = by (w.agent == a)
  where
    by : (t : Bool) → times a ws ≤ length (cond t (w ∷ filter (λ (w : Waiter). w.agent == a) ws) (filter (λ (w : Waiter). w.agent == a) ws))
    by true = omega arith
    by false = omega arith

none_other : (a : ℕ) (ws : List Waiter) → times a ws ≡ 0 → AllByRecursion (λ b. (a == b) ≡ false) (names ws)
none_other a [] none = tt
none_other a (w ∷ ws) none = by (w.agent == a) refl none (none_other a ws)
  where
    by : (t : Bool) → (w.agent == a) ≡ t → length (cond t (w ∷ filter (λ (w : Waiter). w.agent == a) ws) (filter (λ (w : Waiter). w.agent == a) ws)) ≡ 0
        → (times a ws ≡ 0 → AllByRecursion (λ b. (a == b) ≡ false) (names ws)) → AllByRecursion (λ b. (a == b) ≡ false) (names (w ∷ ws))
    by true e none rest = absurd (suc-ne-zero _ none)
    by false e none rest = (ne_eqb a w.agent (λ same. eqb-false w.agent a e (sym same)), rest none)

once_there : (w : Waiter) (ws : List Waiter) → times w.agent (w ∷ ws) ≤ 1 → times w.agent ws ≡ 0
once_there w ws once =
    let all : times w.agent (w ∷ ws) ≡ length (w ∷ filter (λ (x : Waiter). x.agent == w.agent) ws) = ap (λ t. length (cond t (w ∷ filter (λ (x : Waiter). x.agent == w.agent) ws) (filter (λ (x : Waiter). x.agent == w.agent) ws))) (eq-eqb w.agent w.agent refl) in
    omega (arith, all, once)

distinct : (ws : List Waiter) → ((a : ℕ) → times a ws ≤ 1) → IsDistinct eqb (names ws)
unfolding IsDistinct
distinct [] once = tt
distinct (w ∷ ws) once = (none_other w.agent ws (once_there w ws (once w.agent)), distinct ws (λ a. let few = fewer a w ws in let one = once a in omega (arith, few, one)))

named : (a : ℕ) (ws : List Waiter) → list_any (eqb a) (names ws) ≡ true → has a ws ≡ true
named a [] is = is
named a (w ∷ ws) is = by (a == w.agent) refl is (named a ws)
  where
    by : (t : Bool) → (a == w.agent) ≡ t → (t || list_any (eqb a) (names ws)) ≡ true → (list_any (eqb a) (names ws) ≡ true → has a ws ≡ true) → has a (w ∷ ws) ≡ true
    by true e is rest = ap (λ t. t || has a ws) (eq-eqb w.agent a (sym (eqb-true a w.agent e)))
    by false e is rest = later (w.agent == a) (has a ws) (rest is)

-- the ticket that an agent reaches a word by
pub held_as : (o : Option (ℕ × Row)) (a i : ℕ) (asked : Row → Type 0) → ReachesAs a o i asked → (r : Row) × (o ≡ Some (a, r))
held_as None a i asked is = absurd is
held_as (Some p) a i asked is = (p.1, ap (λ n. Some (n, p.1)) is.0)

pub sleeper_below : (n : ℕ) (l : Ledger) (c s i w : ℕ) (o : Option ℕ) → LegalSoFar n l → ComesNext n l (Acted c (Slept s i w)) o → c < n
sleeper_below n l c s i w None legal may = let held = held_as (holder_of l s) c i _ may.0 in holder_within n l s c held.0 legal held.1
sleeper_below n l c s i w (Some k) legal may = cc

listed_below : (n : ℕ) (l : Ledger) (a : ℕ) → LegalSoFar n l → is_listed l a ≡ true → a < n
listed_below n [] a legal is = absurd (false≢true is)
listed_below n (Acted c (Slept s i w) ∷ l) a legal is = by (c == a) refl (listed_below n l a legal.1)
  where
    by : (t : Bool) → (c == a) ≡ t → (is_listed l a ≡ true → a < n) → a < n
    by true e rest = subst (λ a. a < n) (eqb-true c a e) (sleeper_below n l c s i w (owed l) legal.1 legal.0)
    by false e rest = rest (has_more a (waiters l) (waiter c (block_by l s) i) is e)
listed_below n (Acted c (Notified s i m k) ∷ l) a legal is = listed_below n l a legal.1 (has_without a (block_by l s) i m (waiters l) is)
listed_below n (Acted c TimedOut ∷ l) a legal is = listed_below n l a legal.1 (has_some a (λ w. not (w.agent == c)) (waiters l) is)
listed_below n (Acted c Ended ∷ l) a legal is = listed_below n l a legal.1 (has_some a (λ w. not (w.agent == c)) (waiters l) is)
listed_below n (_ ∷ l) a legal is = listed_below n l a legal.1 is

few_listed : (n : ℕ) (l : Ledger) (b i : ℕ) → LegalSoFar n l → length (list_at l b i) ≤ n
few_listed n l b i legal =
    let all = length-le_from_distinct_below (names (waiters l)) n (distinct (waiters l) (λ a. listed_once n l a legal)) (λ a is. listed_below n l a legal (named a (waiters l) is)) in
    let same = length-map (waiters l) (λ (w : Waiter). w.agent) in
    let there = length-filter (is_at b i) (waiters l) in
    let few = count_by-le-length (is_at b i) (waiters l) in
    omega (arith, all, same, there, few)

pub leaves_nobody : (n : ℕ) (l : Ledger) (a s i c k : ℕ) → LegalSoFar n (Acted a (Notified s i c k) ∷ l) → n ≤ c → list_at (Acted a (Notified s i c k) ∷ l) (block_by l s) i ≡ []
leaves_nobody n l a s i c k legal enough =
    let few = few_listed n l (block_by l s) i legal.1 in
    filtered_first (block_by l s) i c (waiters l) ∙ drop_of_length-le (list_at l (block_by l s) i) (omega (arith, few, enough))
