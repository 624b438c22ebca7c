-- What is drained leaves all but messages and who holds what, and in whatever order it is drained, the same is left.
use Rattle.std.proofs.Common.{◌≡◌, ℕ, ◌+◌, ◌<◌, ◌≤◌, ◌==◌, ◌&&◌, ◌||◌, not, Bool, true, false, cond, sym, ◌∙◌, ap, refl, subst, arith, List, [], ◌∷◌, ◌++◌, append-nil, drop, length, map, Option, Some, None, ◌⊎◌, inl, inr, eq-eqb, eqb-true, length-append}
use Rattle.std.specs.Prelude.{count_by, is_some, slice_get}
use Rattle.std.specs.Option.{option_and_then, option_map}
use Rattle.std.proofs.lemmas.Bool.{false≢true, or_right}
use Rattle.std.proofs.lemmas.List.Sums.{sum_by-cons}
use Rattle.es_event.specs.declared.ledger_event.Body.{Body}
use Rattle.es_event.specs.declared.ledger_event.LedgerEvent.{LedgerEvent}
use Rattle.es_event.specs.declared.ledger_event.LedgerEvent.TheVariants.{Posted, Taken, Spent, Accessed, Drained}
use Rattle.es_event.specs.declared.row.Row.{Row}
use Rattle.es_event.specs.declared.row.Entry.{Entry}
use Rattle.es_event.specs.declared.row.Holder.{Holder}
use Rattle.es_event.specs.declared.row.Holder.TheVariants.{Agent, Port, Nobody}
use Rattle.es_event.specs.Rows.{count_of, held, held_by, is_agent, is_somebody, line_of, moved, rows_by, unspent}
use Rattle.es_event.specs.Access.{written}
use Rattle.es_event.specs.Ledger.{Ledger, by_agent, count, holder_of, is_at, newest_word, opened, port_of, rows, serials, table, word}
use Rattle.es_event.specs.LegalLedger.{ComesNext, LegalSoFar, MayCome, Reaches, has_message, owed}
use Rattle.es_event.specs.Totals.{drained, is_drained, is_posted, is_taken, posted, taken}
use Rattle.es_ledger.specs.Laws.{sum_below}
use Rattle.es_ledger.proofs.Emptying.{none_beyond}
use Rattle.es_ledger.proofs.Lines.{rows_moved}
use Rattle.es_ledger.proofs.Sums.{sum_none, sum_one, sum_plus, sum_same, sum_zero}
use Rattle.es_match.specs.Deeds.{Deed, Accesses, Spends, deed, part, part_of}
use Rattle.es_match.specs.Patience.{drained_last, has_drained, is_nobodys, is_patient, patient}
use Rattle.es_match.specs.Cluster.{Account, DeedsMeet, IsClusterOf, account_of}
use Rattle.es_cluster.proofs.Draining.{Outlasts}
use Rattle.es_theorems.specs.Ahead.{Acts, Steps, ahead, played}
use Rattle.es_theorems.specs.Through.{IsIdle}
use Rattle.es_theorems.specs.Unmoved.{Kept, NoneHeld, Ownerless, Unmoved, letters}
use Rattle.es_theorems.proofs.Starting.{less_or}
use Rattle.es_theorems.proofs.Spending.{uncounted}
use Rattle.es_ledger.proofs.Numbered.{none_only, numbered, only_by}

-- What follows is nobody's

drained_rest : (n : ℕ) (es : List LedgerEvent) (l : Ledger) → Steps n es l → has_drained l ≡ true → Ownerless es l
drained_rest n [] l steps is = tt
drained_rest n (e ∷ es) l steps is = (at (deed l e) refl, drained_rest n es (e ∷ l) steps.1 (ap (λ b. is_drained e || b) is ∙ or_right (is_drained e) true refl))
  where
    at : (o : Option (ℕ × Deed)) → deed l e ≡ o → deed l e ≡ None
    at None none = none
    at (Some p) some = let acts : Acts n l (Some p) = subst (Acts n l) some steps.0.acts in absurd (false≢true (sym acts.2 ∙ is))

is_some_none : (o : Option (ℕ × Row)) (d : Deed) → option_map {U = ℕ × Deed} (λ p. (p.0, d)) o ≡ None → is_some o ≡ true → ⊥
is_some_none None d none some = cc
is_some_none (Some p) d none some = cc

reaches_none : (o : Option (ℕ × Row)) (i : ℕ) (f : Row → Type 0) (d : Deed) → option_map {U = ℕ × Deed} (λ p. (p.0, d)) o ≡ None → Reaches o i f → ⊥
reaches_none None i f d none is = is
reaches_none (Some p) i f d none is = cc

drain_first : (n : ℕ) (l : Ledger) (e : LedgerEvent) → MayCome n l e → deed l e ≡ None → is_drained e ≡ true
drain_first n l (Drained s r) may none = refl
drain_first n l (Spent s) may none = absurd (is_some_none (holder_of l s) (Spends s) none may)
drain_first n l (Accessed s i m old) may none = absurd (reaches_none (holder_of l s) i _ (Accesses s i m old) none may)
drain_first n l _ may none = cc

pub idle_all : (n : ℕ) (es : List LedgerEvent) (l : Ledger) → Steps n es l → owed l ≡ None → IsIdle es l → Ownerless es l
idle_all n [] l steps paid idle = tt
idle_all n (e ∷ es) l steps paid idle =
    (idle, drained_rest n es (e ∷ l) steps.1 (ap (λ b. b || has_drained l) (drain_first n l e (subst (ComesNext n l e) paid steps.0.legal) idle)))

pub ownerless_ahead : (es : List LedgerEvent) (l : Ledger) (a : ℕ) → Ownerless es l → ahead es l a ≡ []
ownerless_ahead [] l a none = refl
ownerless_ahead (e ∷ es) l a none = ap (λ o. part_of a o ++ ahead es (e ∷ l) a) none.0 ∙ ownerless_ahead es (e ∷ l) a none.1

-- What is left alone

pub unmoved_same : (l : Ledger) → Unmoved l l
unmoved_same l = record { opened = refl; serials = refl; sizes = λ b. refl; rows = refl; words = λ b i. refl; lists = refl; asleep = λ a. refl; ends = λ a. refl; posted = refl; taken = refl; parts = λ a. refl }

none_more : (n : ℕ) → 0 + n ≡ n
none_more n = omega arith

unmoved_drained : (l m : Ledger) (s r : ℕ) → Unmoved l m → Unmoved l (Drained s r ∷ m)
unmoved_drained l m s r u = record {
  opened = none_more (opened m) ∙ u.opened;
  serials = none_more (serials m) ∙ u.serials;
  sizes = u.sizes;
  rows = u.rows;
  words = u.words;
  lists = u.lists;
  asleep = u.asleep;
  ends = u.ends;
  posted = uncounted is_posted m (Drained s r) refl ∙ u.posted;
  taken = uncounted is_taken m (Drained s r) refl ∙ u.taken;
  parts = λ a. append-nil (part m a) ∙ u.parts a;
}

rows_still : (k : ℕ) (who : Holder) (t : List Entry) → map (λ e. e.row) (moved k who t) ≡ map (λ e. e.row) t
rows_still k who [] = refl
rows_still k who (e ∷ t) = step (e.row.serial == k) (rows_still k who t)
  where
    step : (b : Bool) → map (λ e. e.row) (moved k who t) ≡ map (λ e. e.row) t → map (λ e. e.row) (cond b (held_by who e.row) e ∷ moved k who t) ≡ map (λ e. e.row) (e ∷ t)
    step true ih = ap (λ l. e.row ∷ l) ih
    step false ih = ap (λ l. e.row ∷ l) ih

unmoved_spent : (l m : Ledger) (k : ℕ) → deed m (Spent k) ≡ None → Unmoved l m → Unmoved l (Spent k ∷ m)
unmoved_spent l m k none u = record {
  opened = none_more (opened m) ∙ u.opened;
  serials = none_more (serials m) ∙ u.serials;
  sizes = u.sizes;
  rows = rows_still k Nobody (table m) ∙ u.rows;
  words = u.words;
  lists = u.lists;
  asleep = u.asleep;
  ends = u.ends;
  posted = uncounted is_posted m (Spent k) refl ∙ u.posted;
  taken = uncounted is_taken m (Spent k) refl ∙ u.taken;
  parts = λ a. ap (λ o. part m a ++ part_of a o) none ∙ append-nil (part m a) ∙ u.parts a;
}

nobody_holds : (o : Option (ℕ × Row)) (d : Deed) → option_map {U = ℕ × Deed} (λ p. (p.0, d)) o ≡ None → o ≡ None
nobody_holds None d none = refl
nobody_holds (Some p) d none = cc

pub unmoved_far : (es : List LedgerEvent) (l m : Ledger) → Ownerless es m → Unmoved l m → Unmoved l (played es m)
unmoved_far [] l m none u = u
unmoved_far (e ∷ es) l m none u = unmoved_far es l (e ∷ m) none.1 (at e none.0)
  where
    at : (e : LedgerEvent) → deed m e ≡ None → Unmoved l (e ∷ m)
    at (Drained s r) none = unmoved_drained l m s r u
    at (Spent k) none = unmoved_spent l m k none u
    at (Accessed s i c old) none = record {
      opened = none_more (opened m) ∙ u.opened;
      serials = none_more (serials m) ∙ u.serials;
      sizes = u.sizes;
      rows = u.rows;
      words = λ b j. ap (λ o. newest_word o b j (word m b j)) (unwritten (written c old) (holder_of m s) (nobody_holds (holder_of m s) (Accesses s i c old) none)) ∙ u.words b j;
      lists = u.lists;
      asleep = u.asleep;
      ends = u.ends;
      posted = uncounted is_posted m (Accessed s i c old) refl ∙ u.posted;
      taken = uncounted is_taken m (Accessed s i c old) refl ∙ u.taken;
      parts = λ a. ap (λ o. part m a ++ part_of a o) none ∙ append-nil (part m a) ∙ u.parts a;
    }
      where
        unwritten : (w : Option ℕ) (o : Option (ℕ × Row)) → o ≡ None → option_and_then {U = ℕ × ℕ × ℕ} (λ w. option_map (λ p. (p.1.block, i, w)) o) w ≡ None
        unwritten None o none = refl
        unwritten (Some w) None none = refl
        unwritten (Some w) (Some p) none = cc
    at _ none = cc

-- Who holds a ticket

not_by : (a : ℕ) (r : Row) (h : Holder) → by_agent (held_by h r) ≡ None → is_agent a h ≡ false
not_by a r (Agent b) none = cc
not_by a r (Port s t) none = refl
not_by a r Nobody none = refl

held_spent : (n : ℕ) (l : Ledger) (k a : ℕ) (o : Option Entry) → LegalSoFar n l → line_of k (table l) ≡ o → option_and_then by_agent o ≡ None → held a (moved k Nobody (table l)) ≡ held a (table l)
held_spent n l k a None legal line none = rows_moved (is_agent a) k Nobody Nobody (table l) refl refl (none_only k Nobody (table l) line)
held_spent n l k a (Some x) legal line none =
    rows_moved (is_agent a) k x.holder Nobody (table l) (not_by a x.row x.holder none) refl (only_by l k x.holder (numbered n l legal) (ap (option_map (λ e. e.holder)) line))

held_still : (n : ℕ) (l : Ledger) (e : LedgerEvent) (a : ℕ) → LegalSoFar n l → deed l e ≡ None → held a (table (e ∷ l)) ≡ held a (table l)
held_still n l (Drained s r) a legal none = refl
held_still n l (Spent k) a legal none = held_spent n l k a (line_of k (table l)) legal refl (nobody_holds (holder_of l k) (Spends k) none)
held_still n l (Accessed s i m old) a legal none = refl
held_still n l _ a legal none = cc

pub held_before : (n : ℕ) (es : List LedgerEvent) (l : Ledger) (a : ℕ) → LegalSoFar n l → Steps n es l → Ownerless es l → held a (table (played es l)) ≡ held a (table l)
held_before n [] l a legal steps none = refl
held_before n (e ∷ es) l a legal steps none = held_before n es (e ∷ l) a (steps.0.legal, legal) steps.1 none.1 ∙ held_still n l e a legal none.0

-- where none is held, none is after a spending
none_moved : (test : Holder → Bool) (k : ℕ) (t : List Entry) → test Nobody ≡ false → rows_by test t ≡ [] → rows_by test (moved k Nobody t) ≡ []
none_moved test k [] off none = refl
none_moved test k (e ∷ t) off none = step (e.row.serial == k) (test e.holder) refl none (λ none. none_moved test k t off none)
  where
    step : (b c : Bool) → test e.holder ≡ c → cond c (e.row ∷ rows_by test t) (rows_by test t) ≡ [] → (rows_by test t ≡ [] → rows_by test (moved k Nobody t) ≡ []) → rows_by test (cond b (held_by Nobody e.row) e ∷ moved k Nobody t) ≡ []
    step b true is none ih = cc
    step true false is none ih = ap (λ c. cond c (e.row ∷ rows_by test (moved k Nobody t)) (rows_by test (moved k Nobody t))) off ∙ ih none
    step false false is none ih = ap (λ c. cond c (e.row ∷ rows_by test (moved k Nobody t)) (rows_by test (moved k Nobody t))) is ∙ ih none

-- no ticket is left
none_unspent : (rs : List Row) → ((b : ℕ) → count_of rs b ≡ 0) → rs ≡ []
none_unspent [] none = refl
none_unspent (r ∷ rs) none =
    absurd (let all = none r.block in
    let cons = sum_by-cons (λ q. cond {A = ℕ} (q.block == r.block) 1 0) r rs in
    let one = ap (λ t. cond {A = ℕ} t 1 0) (eq-eqb r.block r.block refl) in
    omega (arith, all, cons, one))

pub none_left : (l : Ledger) → ((b : ℕ) → count l b ≡ 0) → unspent (table l) ≡ []
none_left l none = none_unspent (rows l) none

none_somebody : (a : ℕ) (t : List Entry) → rows_by is_somebody t ≡ [] → rows_by (is_agent a) t ≡ []
none_somebody a [] none = refl
none_somebody a (e ∷ t) none = step e.holder refl none (λ none. none_somebody a t none)
  where
    step : (h : Holder) → e.holder ≡ h → cond (is_somebody h) (e.row ∷ rows_by is_somebody t) (rows_by is_somebody t) ≡ [] → (rows_by is_somebody t ≡ [] → rows_by (is_agent a) t ≡ []) → rows_by (is_agent a) (e ∷ t) ≡ []
    step (Agent b) is none ih = cc
    step (Port s r) is none ih = cc
    step Nobody is none ih = ap (λ h. cond (is_agent a h) (e.row ∷ rows_by (is_agent a) t) (rows_by (is_agent a) t)) is ∙ ih none

pub none_holds : (l : Ledger) → ((b : ℕ) → count l b ≡ 0) → NoneHeld l
none_holds l none a = none_somebody a (table l) (none_left l none)

-- two tables of spent tickets with the same rows are the same
pub same_tables : (t u : List Entry) → unspent t ≡ [] → unspent u ≡ [] → map (λ e. e.row) t ≡ map (λ e. e.row) u → t ≡ u
same_tables [] [] a b is = refl
same_tables [] (e ∷ u) a b is = cc
same_tables (e ∷ t) [] a b is = cc
same_tables (e ∷ t) (f ∷ u) a b is =
    let row : e.row ≡ f.row = cc in
    let rest : map (λ e. e.row) t ≡ map (λ e. e.row) u = cc in
    let x = spent_first e t a in
    let y = spent_first f u b in
    ap (λ g. g ∷ t) (entry e x.0 ∙ ap (held_by Nobody) row ∙ sym (entry f y.0)) ∙ ap (λ us. f ∷ us) (same_tables t u x.1 y.1 rest)
  where
    spent_first : (e : Entry) (t : List Entry) → unspent (e ∷ t) ≡ [] → (e.holder ≡ Nobody) × (unspent t ≡ [])
    spent_first e t none = step e.holder refl none
      where
        step : (h : Holder) → e.holder ≡ h → cond (is_somebody h) (e.row ∷ unspent t) (unspent t) ≡ [] → (e.holder ≡ Nobody) × (unspent t ≡ [])
        step (Agent b) is none = cc
        step (Port s r) is none = cc
        step Nobody is none = (is, none)

    entry : (e : Entry) → e.holder ≡ Nobody → e ≡ held_by Nobody e.row
    entry e is = λ i. record { row = e.row; holder = is i }

-- What is kept

nobodys : (all : List Account) (l : Ledger) (e : LedgerEvent) → deed l e ≡ None → IsClusterOf all l → IsClusterOf all (e ∷ l)
nobodys all l e none c = record {
  parts = λ a. (let was = c.parts a in (was.0, subst (λ p. DeedsMeet (account_of all a).history p was.0) (sym (ap (λ o. part l a ++ part_of a o) none ∙ append-nil (part l a))) was.1, was.2));
  waits = ap (λ o. is_patient l o && patient l) none ∙ c.waits;
  drains = ap (λ o. (is_nobodys o || not (has_drained l)) && drained_last l) none ∙ c.drains;
}

pub kept_outlasts : (all : List Account) (l : Ledger) → Outlasts (Kept all l)
kept_outlasts all l = record {
  drains = λ m r s k. record { cluster = nobodys all m (Drained s r) refl k.cluster; held = k.held; unmoved = unmoved_drained l m s r k.unmoved };
  spends = λ m q none k. record {
    cluster = nobodys all m (Spent q) none k.cluster;
    held = λ a. none_moved (is_agent a) q (table m) refl (k.held a);
    unmoved = unmoved_spent l m q none k.unmoved;
  };
}

-- How many messages there are

port_one : (n : ℕ) (f g : ℕ → ℕ → ℕ) (s r : ℕ) → s < n → r < n → ((t u : ℕ) → f t u ≡ g t u + cond (u == r) (cond {A = ℕ} (t == s) 1 0) 0) → sum_below n (λ t. sum_below n (λ u. f t u)) ≡ sum_below n (λ t. sum_below n (λ u. g t u)) + 1
port_one n f g s r sender receiver each =
    let inner : (t : ℕ) → sum_below n (λ u. f t u) ≡ sum_below n (λ u. g t u) + cond {A = ℕ} (t == s) 1 0 =
    λ t. sum_plus n (λ u. f t u) (λ u. g t u) (λ u. cond (u == r) (cond {A = ℕ} (t == s) 1 0) 0) (each t) ∙ ap (λ k. sum_below n (λ u. g t u) + k) (sum_one n r (cond {A = ℕ} (t == s) 1 0) receiver)
    in
    sum_plus n (λ t. sum_below n (λ u. f t u)) (λ t. sum_below n (λ u. g t u)) (λ t. cond {A = ℕ} (t == s) 1 0) inner
    ∙ ap (λ k. sum_below n (λ t. sum_below n (λ u. g t u)) + k) (sum_one n s 1 sender)

same_letters : (n : ℕ) (l m : Ledger) → ((s r : ℕ) → port_of m s r ≡ port_of l s r) → letters n m ≡ letters n l
same_letters n l m same = sum_same n (λ s. sum_below n (λ r. length (port_of m s r))) (λ s. sum_below n (λ r. length (port_of l s r))) (λ s. sum_same n (λ r. length (port_of m s r)) (λ r. length (port_of l s r)) (λ r. ap length (same s r)))

posted_length : (q : List Body) (m : Body) (a b : Bool) → length (cond (b && a) (q ++ m ∷ []) q) ≡ length q + cond a (cond {A = ℕ} b 1 0) 0
posted_length q m true true = length-append q (m ∷ [])
posted_length q m true false = omega arith
posted_length q m false true = omega arith
posted_length q m false false = omega arith

letters_posted : (n : ℕ) (l : Ledger) (s r : ℕ) (m : Body) → s < n → r < n → letters n (Posted s r m ∷ l) ≡ letters n l + 1
letters_posted n l s r m sender receiver =
    port_one n (λ t u. length (port_of (Posted s r m ∷ l) t u)) (λ t u. length (port_of l t u)) s r sender receiver (λ t u. posted_length (port_of l t u) m (u == r) (t == s))

taken_length : (q : List Body) (a b : Bool) → (a ≡ true → b ≡ true → is_some (slice_get q 0) ≡ true) → length q ≡ length (cond (b && a) (drop 1 q) q) + cond a (cond {A = ℕ} b 1 0) 0
taken_length [] true true some = let clash = some refl refl in cc
taken_length (m ∷ q) true true some = omega arith
taken_length q true false some = omega arith
taken_length q false true some = omega arith
taken_length q false false some = omega arith

-- after a message went out of its port
letters_out : (n : ℕ) (l : Ledger) (e : LedgerEvent) (s r : ℕ) → s < n → r < n → has_message l s r ≡ true → ((t u : ℕ) → port_of (e ∷ l) t u ≡ cond (is_at t u s r) (drop 1 (port_of l t u)) (port_of l t u)) → letters n l ≡ letters n (e ∷ l) + 1
letters_out n l e s r sender receiver some out =
    port_one n (λ t u. length (port_of l t u)) (λ t u. length (port_of (e ∷ l) t u)) s r sender receiver
    (λ t u. taken_length (port_of l t u) (u == r) (t == s) (λ a b. ap (λ u. has_message l t u) (eqb-true u r a) ∙ ap (λ t. has_message l t r) (eqb-true t s b) ∙ some)
    ∙ ap (λ q. length q + cond (u == r) (cond {A = ℕ} (t == s) 1 0) 0) (sym (out t u)))

pub counted : (p : LedgerEvent → Bool) (l : Ledger) (e : LedgerEvent) → count_by p (e ∷ l) ≡ cond {A = ℕ} (p e) 1 0 + count_by p l
counted p l e = sum_by-cons (λ e. cond {A = ℕ} (p e) 1 0) e l

-- the sender and the receiver of a message that lies there are agents
pub its_agents : (n : ℕ) (l : Ledger) (s r : ℕ) → LegalSoFar n l → has_message l s r ≡ true → (s < n) × (r < n)
its_agents n l s r legal some = at (less_or s n) (less_or r n)
  where
    never : ((s < n) → (r < n) → ⊥) → ⊥
    never out = false≢true (sym (ap (λ q. is_some (slice_get q 0)) (none_beyond n l s r legal out)) ∙ some)

    at : (s < n) ⊎ (n ≤ s) → (r < n) ⊎ (n ≤ r) → (s < n) × (r < n)
    at (inl a) (inl b) = (a, b)
    at (inr a) b = absurd (never (λ c d. omega (arith, a, c)))
    at (inl a) (inr b) = absurd (never (λ c d. omega (arith, b, d)))

-- each message that was posted was taken, or drained, or lies in a port
pub all_letters : (n : ℕ) (l : Ledger) → LegalSoFar n l → posted l ≡ taken l + drained l + letters n l
all_letters n [] legal = let none = sum_zero n (λ s. sum_below n (λ r. 0)) (λ s less. sum_none n) in omega (arith, none)
all_letters n (e ∷ l) legal = at e (owed l) refl legal.0 (all_letters n l legal.1)
  where
    still : (e : LedgerEvent) → is_posted e ≡ false → is_taken e ≡ false → is_drained e ≡ false → ((s r : ℕ) → port_of (e ∷ l) s r ≡ port_of l s r) → posted l ≡ taken l + drained l + letters n l
        → posted (e ∷ l) ≡ taken (e ∷ l) + drained (e ∷ l) + letters n (e ∷ l)
    still e a b c same before =
        let x = uncounted is_posted l e a in
        let y = uncounted is_taken l e b in
        let z = uncounted is_drained l e c in
        let w = same_letters n l (e ∷ l) same in
        omega (arith, x, y, z, w, before)

    at : (e : LedgerEvent) (o : Option ℕ) → owed l ≡ o → ComesNext n l e o → posted l ≡ taken l + drained l + letters n l → posted (e ∷ l) ≡ taken (e ∷ l) + drained (e ∷ l) + letters n (e ∷ l)
    at e (Some k) owes comes before = subst (λ e. posted (e ∷ l) ≡ taken (e ∷ l) + drained (e ∷ l) + letters n (e ∷ l)) (sym comes) (still (Spent k) refl refl refl (λ s r. refl) before)
    at (Posted s r m) None owes comes before =
        let x = counted is_posted l (Posted s r m) in
        let y = uncounted is_taken l (Posted s r m) refl in
        let z = uncounted is_drained l (Posted s r m) refl in
        let w = letters_posted n l s r m comes.0 comes.1 in
        omega (arith, x, y, z, w, before)
    at (Taken s r) None owes comes before =
        let who = its_agents n l s r legal.1 comes in
        let x = uncounted is_posted l (Taken s r) refl in
        let y = counted is_taken l (Taken s r) in
        let z = uncounted is_drained l (Taken s r) refl in
        let w = letters_out n l (Taken s r) s r who.0 who.1 comes (λ t u. refl) in
        omega (arith, x, y, z, w, before)
    at (Drained s r) None owes comes before =
        let who = its_agents n l s r legal.1 comes.1 in
        let x = uncounted is_posted l (Drained s r) refl in
        let y = uncounted is_taken l (Drained s r) refl in
        let z = counted is_drained l (Drained s r) in
        let w = letters_out n l (Drained s r) s r who.0 who.1 comes.1 (λ t u. refl) in
        omega (arith, x, y, z, w, before)
    at e None owes comes before = still e refl refl refl (λ s r. refl) before

-- so where none lies in a port
pub none_letters : (n : ℕ) (l : Ledger) → LegalSoFar n l → ((s r : ℕ) → port_of l s r ≡ []) → posted l ≡ taken l + drained l
none_letters n l legal empty =
    let all = all_letters n l legal in
    let none : letters n l ≡ 0 = sum_zero n (λ s. sum_below n (λ r. length (port_of l s r))) (λ s less. sum_zero n (λ r. length (port_of l s r)) (λ r few. ap length (empty s r))) in
    omega (arith, all, none)
