-- Who is in a WaiterList sleeps, and nobody is in two; and whom a notify takes.
use Rattle.std.proofs.Common.{◌≡◌, ℕ, zero, suc, ◌+◌, ◌≤◌, ◌==◌, ◌&&◌, ◌||◌, Bool, true, false, cond, not, sym, ◌∙◌, ap, refl, arith, length, List, [], ◌∷◌, ◌++◌, filter, Option, Some, None}
use Rattle.std.specs.List.{list_any}
use Rattle.std.specs.Option.{option_map_or}
use Rattle.std.proofs.lemmas.Bool.{and_parts, eqb-true, false≢true}
use Rattle.es_event.specs.declared.ledger_event.LedgerEvent.TheVariants.{Acted}
use Rattle.es_event.specs.declared.ledger_event.Act.TheVariants.{Ended, Slept, Notified, Woke, TimedOut}
use Rattle.es_event.specs.declared.waiter.Waiter.{Waiter}
use Rattle.es_event.specs.declared.row.Row.{Row}
use Rattle.es_event.specs.Ledger.{Ledger, holder_of}
use Rattle.es_ledger.specs.Wakings.{TakesTheFirst}
use Rattle.es_ledger.proofs.Leaving.{filtered_first}
use Rattle.es_event.specs.LegalLedger.{ComesNext, LegalSoFar, ReachesAs, owed}
use Rattle.es_event.specs.Waiters.{asleep, block_by, is_at, is_listed, taken_there, waiter, waiters, without_first, without_one}

abbrev pub has : ℕ → List Waiter → Bool
has a ws = list_any (λ (w : Waiter). w.agent == a) ws

either : (h b c : Bool) → (b ≡ true → c ≡ true) → (h || b) ≡ true → (h || c) ≡ true
either true b c rest is = refl
either false b c rest is = rest is

-- one that is in the longer list is in the shorter one, or came last
pub has_more : (a : ℕ) (ws : List Waiter) (x : Waiter) → has a (ws ++ x ∷ []) ≡ true → (x.agent == a) ≡ false → has a ws ≡ true
has_more a [] x is other = absurd (false≢true (sym (ap (λ b. b || false) other) ∙ is))
has_more a (w ∷ ws) x is other = either (w.agent == a) (has a (ws ++ x ∷ [])) (has a ws) (λ is. has_more a ws x is other) is

pub later : (h b : Bool) → b ≡ true → (h || b) ≡ true
later true b is = refl
later false b is = is

has_without_one : (a b i : ℕ) (ws : List Waiter) → has a (without_one b i ws) ≡ true → has a ws ≡ true
has_without_one a b i [] is = is
has_without_one a b i (w ∷ ws) is = by (is_at b i w) is (has_without_one a b i ws)
  where
    by : (t : Bool) → has a (cond t ws (w ∷ without_one b i ws)) ≡ true → (has a (without_one b i ws) ≡ true → has a ws ≡ true) → ((w.agent == a) || has a ws) ≡ true
    by true is rest = later (w.agent == a) (has a ws) is
    by false is rest = either (w.agent == a) (has a (without_one b i ws)) (has a ws) rest is

pub has_without : (a b i n : ℕ) (ws : List Waiter) → has a (without_first b i n ws) ≡ true → has a ws ≡ true
has_without a b i zero ws is = is
has_without a b i (suc n) ws is = has_without a b i n ws (has_without_one a b i (without_first b i n ws) is)

pub has_some : (a : ℕ) (test : Waiter → Bool) (ws : List Waiter) → has a (filter test ws) ≡ true → has a ws ≡ true
has_some a test [] is = is
has_some a test (w ∷ ws) is = by (test w) is (has_some a test ws)
  where
    by : (t : Bool) → has a (cond t (w ∷ filter test ws) (filter test ws)) ≡ true → (has a (filter test ws) ≡ true → has a ws ≡ true) → ((w.agent == a) || has a ws) ≡ true
    by true is rest = either (w.agent == a) (has a (filter test ws)) (has a ws) rest is
    by false is rest = later (w.agent == a) (has a ws) (rest is)

-- who leaves is there no more
has_left : (a : ℕ) (ws : List Waiter) → has a (filter (λ w. not (w.agent == a)) ws) ≡ false
has_left a [] = refl
has_left a (w ∷ ws) = by (w.agent == a) refl (has_left a ws)
  where
    by : (t : Bool) → (w.agent == a) ≡ t → has a (filter (λ w. not (w.agent == a)) ws) ≡ false → has a (cond (not t) (w ∷ filter (λ w. not (w.agent == a)) ws) (filter (λ w. not (w.agent == a)) ws)) ≡ false
    by true is rest = rest
    by false is rest = ap (λ t. t || has a (filter (λ w. not (w.agent == a)) ws)) is ∙ rest

-- One act

pub untaken : (n : ℕ) (l : Ledger) (c : ℕ) (o : Option ℕ) → ComesNext n l (Acted c Woke) o → is_listed l c ≡ false
untaken n l c None may = may.1
untaken n l c (Some s) may = cc

-- an agent that goes on or ends is in no list
stays_asleep : (l : Ledger) (c a : ℕ) (listed : Bool) → ((c == a) ≡ true → listed ≡ false) → listed ≡ true → asleep l a ≡ true → cond (c == a) false (asleep l a) ≡ true
stays_asleep l c a listed gone is before = by (c == a) refl
  where
    by : (t : Bool) → (c == a) ≡ t → cond t false (asleep l a) ≡ true
    by true e = absurd (false≢true (sym (gone e) ∙ is))
    by false e = before

lies : (l : Ledger) (c a : ℕ) (x : Waiter) → x.agent ≡ c → has a (waiters l ++ x ∷ []) ≡ true → (is_listed l a ≡ true → asleep l a ≡ true) → cond (c == a) true (asleep l a) ≡ true
lies l c a x same is before = by (c == a) refl
  where
    by : (t : Bool) → (c == a) ≡ t → cond t true (asleep l a) ≡ true
    by true e = refl
    by false e = before (has_more a (waiters l) x is (ap (λ c. c == a) same ∙ e))

left : (l : Ledger) (c a : ℕ) → (c == a) ≡ true → has a (filter (λ w. not (w.agent == c)) (waiters l)) ≡ false
left l c a e = ap (λ c. has a (filter (λ w. not (w.agent == c)) (waiters l))) (eqb-true c a e) ∙ has_left a (waiters l)

-- All

pub listed_asleep : (n : ℕ) (l : Ledger) (a : ℕ) → LegalSoFar n l → is_listed l a ≡ true → asleep l a ≡ true
listed_asleep n [] a legal is = cc
listed_asleep n (Acted c (Slept s i w) ∷ l) a legal is = lies l c a (waiter c (block_by l s) i) refl is (listed_asleep n l a legal.1)
listed_asleep n (Acted c (Notified s i m k) ∷ l) a legal is = listed_asleep n l a legal.1 (has_without a (block_by l s) i m (waiters l) is)
listed_asleep n (Acted c Woke ∷ l) a legal is =
    stays_asleep l c a (is_listed l a) (λ e. ap (is_listed l) (sym (eqb-true c a e)) ∙ untaken n l c (owed l) legal.0) is (listed_asleep n l a legal.1 is)
listed_asleep n (Acted c TimedOut ∷ l) a legal is = stays_asleep l c a _ (left l c a) is (listed_asleep n l a legal.1 (has_some a (λ w. not (w.agent == c)) (waiters l) is))
listed_asleep n (Acted c Ended ∷ l) a legal is = stays_asleep l c a _ (left l c a) is (listed_asleep n l a legal.1 (has_some a (λ w. not (w.agent == c)) (waiters l) is))
listed_asleep n (_ ∷ l) a legal is = listed_asleep n l a legal.1 is

-- so who is awake is in none
pub awake_unlisted : (n : ℕ) (l : Ledger) (a : ℕ) → LegalSoFar n l → asleep l a ≡ false → is_listed l a ≡ false
awake_unlisted n l a legal awake = by (is_listed l a) refl
  where
    by : (t : Bool) → is_listed l a ≡ t → is_listed l a ≡ false
    by true is = absurd (false≢true (sym awake ∙ listed_asleep n l a legal is))
    by false is = is

-- At most once

-- how often an agent is in a list
abbrev pub times : ℕ → List Waiter → ℕ
times a ws = length (filter (λ (w : Waiter). w.agent == a) ws)

none_there : (a : ℕ) (ws : List Waiter) → has a ws ≡ false → times a ws ≡ 0
none_there a [] none = refl
none_there a (w ∷ ws) none = by (w.agent == a) none (none_there a ws)
  where
    by : (t : Bool) → (t || has a ws) ≡ false → (has a ws ≡ false → times a ws ≡ 0) → length (cond t (w ∷ filter (λ (w : Waiter). w.agent == a) ws) (filter (λ (w : Waiter). w.agent == a) ws)) ≡ 0
    by true none rest = cc
    by false none rest = rest none

times_more : (a : ℕ) (ws : List Waiter) (x : Waiter) → times a (ws ++ x ∷ []) ≡ times a ws + cond (x.agent == a) 1 0
times_more a [] x = by (x.agent == a)
  where
    by : (t : Bool) → length {A = Waiter} (cond t (x ∷ []) []) ≡ 0 + cond t 1 0
    by true = omega arith
    by false = omega arith
times_more a (w ∷ ws) x = by (w.agent == a) (times_more a ws x)
  where
    by : (t : Bool) → times a (ws ++ x ∷ []) ≡ times a ws + cond (x.agent == a) 1 0
        → length (cond t (w ∷ filter (λ (w : Waiter). w.agent == a) (ws ++ x ∷ [])) (filter (λ (w : Waiter). w.agent == a) (ws ++ x ∷ [])))
        ≡ length (cond t (w ∷ filter (λ (w : Waiter). w.agent == a) ws) (filter (λ (w : Waiter). w.agent == a) ws)) + cond (x.agent == a) 1 0
    by true rest = omega (arith, rest)
    by false rest = rest

times_without_one : (a b i : ℕ) (ws : List Waiter) → times a (without_one b i ws) ≤ times a ws
times_without_one a b i [] = omega arith
times_without_one a b i (w ∷ ws) = by (is_at b i w) (w.agent == a) (times_without_one a b i ws)
  where
    by : (t h : Bool) → times a (without_one b i ws) ≤ times a ws → times a (cond t ws (w ∷ without_one b i ws)) ≤ length (cond (w.agent == a) (w ∷ filter (λ (w : Waiter). w.agent == a) ws) (filter (λ (w : Waiter). w.agent == a) ws))
    by true h rest = skip (w.agent == a)
      where
        skip : (h : Bool) → times a ws ≤ length (cond h (w ∷ filter (λ (w : Waiter). w.agent == a) ws) (filter (λ (w : Waiter). w.agent == a) ws))
        skip true = omega arith
        skip false = omega arith
    by false h rest = keep (w.agent == a)
      where
        keep : (h : Bool) → length (cond h (w ∷ filter (λ (w : Waiter). w.agent == a) (without_one b i ws)) (filter (λ (w : Waiter). w.agent == a) (without_one b i ws))) ≤ length (cond h (w ∷ filter (λ (w : Waiter). w.agent == a) ws) (filter (λ (w : Waiter). w.agent == a) ws))
        keep true = omega (arith, rest)
        keep false = rest

times_without : (a b i n : ℕ) (ws : List Waiter) → times a (without_first b i n ws) ≤ times a ws
times_without a b i zero ws = omega arith
times_without a b i (suc n) ws =
    let one = times_without_one a b i (without_first b i n ws) in
    let rest = times_without a b i n ws in
    omega (arith, one, rest)

times_some : (a : ℕ) (test : Waiter → Bool) (ws : List Waiter) → times a (filter test ws) ≤ times a ws
times_some a test [] = omega arith
times_some a test (w ∷ ws) = by (test w) (times_some a test ws)
  where
    by : (t : Bool) → times a (filter test ws) ≤ times a ws → times a (cond t (w ∷ filter test ws) (filter test ws)) ≤ length (cond (w.agent == a) (w ∷ filter (λ (w : Waiter). w.agent == a) ws) (filter (λ (w : Waiter). w.agent == a) ws))
    by true rest = keep (w.agent == a)
      where
        keep : (h : Bool) → length (cond h (w ∷ filter (λ (w : Waiter). w.agent == a) (filter test ws)) (filter (λ (w : Waiter). w.agent == a) (filter test ws))) ≤ length (cond h (w ∷ filter (λ (w : Waiter). w.agent == a) ws) (filter (λ (w : Waiter). w.agent == a) ws))
        keep true = omega (arith, rest)
        keep false = rest
    by false rest = skip (w.agent == a)
      where
        skip : (h : Bool) → times a (filter test ws) ≤ length (cond h (w ∷ filter (λ (w : Waiter). w.agent == a) ws) (filter (λ (w : Waiter). w.agent == a) ws))
        skip true = omega (arith, rest)
        skip false = rest

-- who lies down did not sleep
pub awake_before : (n : ℕ) (l : Ledger) (c s i w : ℕ) (o : Option ℕ) → ComesNext n l (Acted c (Slept s i w)) o → asleep l c ≡ false
awake_before n l c s i w None may = may.3
awake_before n l c s i w (Some k) may = cc

one_more : (n : ℕ) (l : Ledger) (c a : ℕ) (x : Waiter) → x.agent ≡ c → LegalSoFar n l → asleep l c ≡ false → times a (waiters l) ≤ 1 → times a (waiters l ++ x ∷ []) ≤ 1
one_more n l c a x same legal awake few = by (c == a) refl
  where
    whole : times a (waiters l ++ x ∷ []) ≡ times a (waiters l) + cond (c == a) 1 0
    whole = times_more a (waiters l) x ∙ ap (λ c. times a (waiters l) + cond (c == a) 1 0) same

    by : (t : Bool) → (c == a) ≡ t → times a (waiters l ++ x ∷ []) ≤ 1
    by true e =
        let none = none_there a (waiters l) (ap (is_listed l) (sym (eqb-true c a e)) ∙ awake_unlisted n l c legal awake) in
        let all : times a (waiters l ++ x ∷ []) ≡ times a (waiters l) + 1 = whole ∙ ap (λ t. times a (waiters l) + cond t 1 0) e in
        omega (arith, all, none)
    by false e =
        let all : times a (waiters l ++ x ∷ []) ≡ times a (waiters l) + 0 = whole ∙ ap (λ t. times a (waiters l) + cond t 1 0) e in
        omega (arith, all, few)

pub listed_once : (n : ℕ) (l : Ledger) (a : ℕ) → LegalSoFar n l → times a (waiters l) ≤ 1
listed_once n [] a legal = omega arith
listed_once n (Acted c (Slept s i w) ∷ l) a legal = one_more n l c a (waiter c (block_by l s) i) refl legal.1 (awake_before n l c s i w (owed l) legal.0) (listed_once n l a legal.1)
listed_once n (Acted c (Notified s i m k) ∷ l) a legal = let few = times_without a (block_by l s) i m (waiters l) in let rest = listed_once n l a legal.1 in omega (arith, few, rest)
listed_once n (Acted c TimedOut ∷ l) a legal = let few = times_some a (λ w. not (w.agent == c)) (waiters l) in let rest = listed_once n l a legal.1 in omega (arith, few, rest)
listed_once n (Acted c Ended ∷ l) a legal = let few = times_some a (λ w. not (w.agent == c)) (waiters l) in let rest = listed_once n l a legal.1 in omega (arith, few, rest)
listed_once n (_ ∷ l) a legal = listed_once n l a legal.1

-- Whom a notify takes

other_one : (b i d j : ℕ) (ws : List Waiter) → ((b == d) && (i == j)) ≡ false → filter (is_at d j) (without_one b i ws) ≡ filter (is_at d j) ws
other_one b i d j [] apart = refl
other_one b i d j (w ∷ ws) apart = by (is_at b i w) refl (other_one b i d j ws apart)
  where
    by : (t : Bool) → is_at b i w ≡ t → filter (is_at d j) (without_one b i ws) ≡ filter (is_at d j) ws
        → filter (is_at d j) (cond t ws (w ∷ without_one b i ws)) ≡ cond (is_at d j w) (w ∷ filter (is_at d j) ws) (filter (is_at d j) ws)
    by true is rest =
        let at = and_parts (w.block == b) (w.index == i) is in
        let off : is_at d j w ≡ false = ap (λ b. (b == d) && (w.index == j)) (eqb-true w.block b at.0) ∙ ap (λ i. (b == d) && (i == j)) (eqb-true w.index i at.1) ∙ apart in
        sym (ap (λ t. cond t (w ∷ filter (is_at d j) ws) (filter (is_at d j) ws)) off)
    by false is rest = ap (λ x. cond (is_at d j w) (w ∷ x) x) rest

others_there : (b i d j n : ℕ) (ws : List Waiter) → ((b == d) && (i == j)) ≡ false → filter (is_at d j) (without_first b i n ws) ≡ filter (is_at d j) ws
others_there b i d j zero ws apart = refl
others_there b i d j (suc n) ws apart = other_one b i d j (without_first b i n ws) apart ∙ others_there b i d j n ws apart

told_so : (l : Ledger) (a i c k : ℕ) (o : Option (ℕ × Row)) → ReachesAs a o i (λ r. k ≡ taken_there l r.block i c) → k ≡ taken_there l (option_map_or (λ p. p.1.block) o 0) i c
told_so l a i c k None is = absurd is
told_so l a i c k (Some p) is = is.2

may_notify : (n : ℕ) (l : Ledger) (a s i c k : ℕ) (o : Option ℕ) → ComesNext n l (Acted a (Notified s i c k)) o → k ≡ taken_there l (block_by l s) i c
may_notify n l a s i c k None may = told_so l a i c k (holder_of l s) may
may_notify n l a s i c k (Some t) may = cc

pub takes_the_first : (n : ℕ) (l : Ledger) (a s i c k : ℕ) → LegalSoFar n (Acted a (Notified s i c k) ∷ l) → TakesTheFirst l (Acted a (Notified s i c k) ∷ l) (block_by l s) i c k
takes_the_first n l a s i c k legal = record {
  left = filtered_first (block_by l s) i c (waiters l);
  many = may_notify n l a s i c k (owed l) legal.0;
  others = λ d j apart. others_there (block_by l s) i d j c (waiters l) apart;
}
