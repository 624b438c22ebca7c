-- What the ports and the waits of a ledger keep says what its history says, one event after another.
use Rattle.std.proofs.Common.{◌≡◌, ◌≢◌, ℕ, zero, suc, ◌+◌, ◌<◌, ◌≤◌, ◌==◌, List, [], ◌∷◌, ◌++◌, drop, Option, Some, None, Bool, true, false, cond, refl, sym, ap, ◌∙◌, subst, arith, length, length-set, eq-eqb, ne_eqb}
use Rattle.std.proofs.lemmas.Bool.{eqb-true, false≢true, and_parts, and_from}
use Rattle.std.proofs.lemmas.List.{get_or-set_same, get_or-set_other, map-append}
use Rattle.std.specs.Prelude.{map, slice_set, slice_index_or, is_some}
use Rattle.std.specs.Option.{option_map, option_and_then}
use Rattle.es_event.specs.declared.ledger_event.LedgerEvent.{LedgerEvent}
use Rattle.es_event.specs.declared.ledger_event.LedgerEvent.TheVariants.{Opened, Posted, Taken, Spent}
use Rattle.es_event.specs.declared.row.Entry.{Entry}
use Rattle.es_event.specs.declared.row.Row.{Row}
use Rattle.es_event.specs.declared.row.Holder.{Holder}
use Rattle.es_event.specs.declared.row.Holder.TheVariants.{Agent, Nobody}
use Rattle.es_event.specs.Rows.{held_by, moved, line_of}
use Rattle.es_event.specs.Ledger.{Ledger, table, waits as awaits, port_of, is_at, moved_if, front, serial_in}
use Rattle.es_ledger.specs.declared.message.Letter.{Letter}
use Rattle.es_ledger.specs.declared.message.Letter.TheVariants.{Plain, Block}
use Rattle.es_ledger.specs.Letters.{body_of}
use Rattle.es_ledger.specs.Ports.{QueueView, letters_at}
use Rattle.es_ledger.specs.Laws.{sum_below}
use Rattle.es_event.specs.declared.waiter.Waiter.{Waiter}
use Rattle.es_event.specs.Waiters.{asleep, waiters}
use Rattle.es_ledger.specs.Ties.{row_at, IsNamed, AreNamed, Mail, Sleepers, waiting}

-- The row of a serial stays

row_append : (k : ℕ) (x : Row) (t us : List Entry) → row_at k t ≡ Some x → row_at k (t ++ us) ≡ Some x
row_append k x [] us e = cc
row_append k x (y ∷ ys) us e = step (y.row.serial == k) e (row_append k x ys us)
  where
    step : (b : Bool) → option_map (λ e. e.row) (cond b (Some y) (line_of k ys)) ≡ Some x → (row_at k ys ≡ Some x → row_at k (ys ++ us) ≡ Some x)
        → option_map (λ e. e.row) (cond b (Some y) (line_of k (ys ++ us))) ≡ Some x
    step true e ih = e
    step false e ih = ih e

row_moved : (k j : ℕ) (who : Holder) (t : List Entry) → row_at k (moved j who t) ≡ row_at k t
row_moved k j who [] = refl
row_moved k j who (e ∷ es) = step (e.row.serial == j) (row_moved k j who es)
  where
    later : (x : Entry) (b : Bool) → row_at k (moved j who es) ≡ row_at k es
        → option_map (λ e. e.row) (cond b (Some x) (line_of k (moved j who es))) ≡ option_map (λ e. e.row) (cond b (Some x) (line_of k es))
    later x true ih = refl
    later x false ih = ih

    same : (b : Bool) → row_at k (moved j who es) ≡ row_at k es
        → option_map (λ e. e.row) (cond b (Some (held_by who e.row)) (line_of k (moved j who es))) ≡ option_map (λ e. e.row) (cond b (Some e) (line_of k es))
    same true ih = refl
    same false ih = ih

    step : (b : Bool) → row_at k (moved j who es) ≡ row_at k es → row_at k (cond b (held_by who e.row) e ∷ moved j who es) ≡ row_at k (e ∷ es)
    step true ih = same (e.row.serial == k) ih
    step false ih = later e (e.row.serial == k) ih

module _ {L : Type 0} where
  named_append : (t us : List Entry) (x : Letter L) → IsNamed t x → IsNamed (t ++ us) x
  named_append t us (Plain v) is = tt
  named_append t us (Block row) is = row_append row.serial row t us is

  all_append : (t us : List Entry) (q : List (Letter L)) → AreNamed t q → AreNamed (t ++ us) q
  all_append t us [] are = tt
  all_append t us (x ∷ q) are = (named_append t us x are.0, all_append t us q are.1)

  named_moved : (j : ℕ) (who : Holder) (t : List Entry) (x : Letter L) → IsNamed t x → IsNamed (moved j who t) x
  named_moved j who t (Plain v) is = tt
  named_moved j who t (Block row) is = row_moved row.serial j who t ∙ is

  all_moved : (j : ℕ) (who : Holder) (t : List Entry) (q : List (Letter L)) → AreNamed t q → AreNamed (moved j who t) q
  all_moved j who t [] are = tt
  all_moved j who t (x ∷ q) are = (named_moved j who t x are.0, all_moved j who t q are.1)

  all_moved_if : (o : Option ℕ) (who : Holder) (t : List Entry) (q : List (Letter L)) → AreNamed t q → AreNamed (moved_if o who t) q
  all_moved_if None who t q are = are
  all_moved_if (Some j) who t q are = all_moved j who t q are

  -- whatever happens
  pub all_after : (l : Ledger) (e : LedgerEvent) (q : List (Letter L)) → AreNamed (table l) q → AreNamed (table (e ∷ l)) q
  all_after l (Opened b w k a) q are = all_append (table l) _ q are
  all_after l (Posted a r m) q are = all_append (table l) _ q are
  all_after l (Taken s r) q are = all_moved_if (option_and_then serial_in (front l s r)) (Agent r) (table l) q are
  all_after l (Spent k) q are = all_moved k Nobody (table l) q are
  all_after l _ q are = are

  all_more : (t : List Entry) (q : List (Letter L)) (x : Letter L) → AreNamed t q → IsNamed t x → AreNamed t (q ++ x ∷ [])
  all_more t [] x are is = (is, tt)
  all_more t (y ∷ q) x are is = (are.0, all_more t q x are.1 is)

-- Ports

either : {A : Type 0} (P : A → Type 0) (b : Bool) (q p : A) → (b ≡ true → P q) → (b ≡ false → P p) → P (cond b q p)
either P true q p at off = at refl
either P false q p at off = off refl

is_there : (s r t u : ℕ) → is_at s r t u ≡ true → (s ≡ t) × (r ≡ u)
is_there s r t u e = let parts = and_parts (s == t) (r == u) e in (eqb-true s t parts.0, eqb-true r u parts.1)

is_away : (s r t u : ℕ) → is_at s r t u ≡ false → s ≡ t → r ≡ u → ⊥
is_away s r t u e same also = false≢true (sym e ∙ and_from (s == t) (r == u) (eq-eqb s t same) (eq-eqb r u also))

-- an event that changes no port and no wait
pub mail_same : {L : Type 0} (n : ℕ) (l : Ledger) (ws : List (Option ℕ)) (qs : List (QueueView L)) (e : LedgerEvent)
    → Mail n l ws qs → ((s r : ℕ) → port_of (e ∷ l) s r ≡ port_of l s r) → ((a : ℕ) → awaits (e ∷ l) a ≡ awaits l a) → Mail n (e ∷ l) ws qs
mail_same n l ws qs e mail ported waited = record {
  columns = mail.columns;
  ports = λ s r sender receiver. mail.ports s r sender receiver ∙ sym (ported s r);
  named = λ s r sender receiver. all_after l e (letters_at qs s r) (mail.named s r sender receiver);
  agents = mail.agents;
  awaited = λ a below. mail.awaited a below ∙ sym (waited a);
  senders = λ a s below is. mail.senders a s below (sym (waited a) ∙ is);
}

-- a letter is put into a port
pub mail_posted : {L : Type 0} (n : ℕ) (l : Ledger) (ws : List (Option ℕ)) (qs more : List (QueueView L)) (t u : ℕ) (x : Letter L)
    → Mail n l ws qs → n < 9 → length more ≡ length qs → letters_at more t u ≡ letters_at qs t u ++ x ∷ []
    → ((s r : ℕ) → r < 8 → (s ≡ t → r ≡ u → ⊥) → letters_at more s r ≡ letters_at qs s r)
    → IsNamed (table (Posted t u (body_of x) ∷ l)) x → Mail n (Posted t u (body_of x) ∷ l) ws more
mail_posted n l ws qs more t u x mail few size here others is = record {
  columns = size ∙ mail.columns;
  ports = λ s r sender receiver.
      either (λ p. map body_of (letters_at more s r) ≡ p) (is_at s r t u) (port_of l s r ++ body_of x ∷ []) (port_of l s r)
      (λ at.
      let same = is_there s r t u at in
      let got : letters_at more s r ≡ letters_at qs s r ++ x ∷ [] =
      subst (λ s. letters_at more s r ≡ letters_at qs s r ++ x ∷ []) (sym same.0) (subst (λ r. letters_at more t r ≡ letters_at qs t r ++ x ∷ []) (sym same.1) here) in
      ap (map body_of) got ∙ map-append body_of (letters_at qs s r) (x ∷ []) ∙ ap (λ p. p ++ body_of x ∷ []) (mail.ports s r sender receiver))
      (λ off. ap (map body_of) (others s r receiver (is_away s r t u off)) ∙ mail.ports s r sender receiver);
  named = λ s r sender receiver. by_port s r (is_at s r t u) refl receiver (all_after l (Posted t u (body_of x)) (letters_at qs s r) (mail.named s r sender receiver));
  agents = mail.agents;
  awaited = mail.awaited;
  senders = mail.senders;
}
  where
    by_port : (s r : ℕ) (b : Bool) → is_at s r t u ≡ b → r < 8 → AreNamed (table (Posted t u (body_of x) ∷ l)) (letters_at qs s r) → AreNamed (table (Posted t u (body_of x) ∷ l)) (letters_at more s r)
    by_port s r true at receiver are =
        let same = is_there s r t u at in
        let got : letters_at more s r ≡ letters_at qs s r ++ x ∷ [] =
        subst (λ s. letters_at more s r ≡ letters_at qs s r ++ x ∷ []) (sym same.0) (subst (λ r. letters_at more t r ≡ letters_at qs t r ++ x ∷ []) (sym same.1) here) in
        subst (AreNamed (table (Posted t u (body_of x) ∷ l))) (sym got) (all_more _ (letters_at qs s r) x are is)
    by_port s r false off receiver are = subst (AreNamed (table (Posted t u (body_of x) ∷ l))) (sym (others s r receiver (is_away s r t u off))) are

-- a letter is taken out of a port
pub mail_popped : {L : Type 0} (n : ℕ) (l : Ledger) (ws left : List (Option ℕ)) (qs fewer : List (QueueView L)) (t u : ℕ) (x : Letter L) (e : LedgerEvent)
    → Mail n l ws qs → length fewer ≡ length qs → letters_at qs t u ≡ x ∷ letters_at fewer t u
    → ((s r : ℕ) → r < 8 → (s ≡ t → r ≡ u → ⊥) → letters_at fewer s r ≡ letters_at qs s r)
    → ((s r : ℕ) → port_of (e ∷ l) s r ≡ cond (is_at s r t u) (drop 1 (port_of l s r)) (port_of l s r))
    → length left ≡ length ws → ((a : ℕ) → a < n → slice_index_or left a None ≡ awaits (e ∷ l) a) → ((a s : ℕ) → a < n → awaits (e ∷ l) a ≡ Some s → awaits l a ≡ Some s)
    → Mail n (e ∷ l) left fewer
mail_popped n l ws left qs fewer t u x e mail size here others ported long waited kept = record {
  columns = size ∙ mail.columns;
  ports = λ s r sender receiver. by_port s r sender receiver (is_at s r t u) refl ∙ sym (ported s r);
  named = λ s r sender receiver. all_after l e (letters_at fewer s r) (still s r receiver (is_at s r t u) refl (mail.named s r sender receiver));
  agents = long ∙ mail.agents;
  awaited = waited;
  senders = λ a s below is. mail.senders a s below (kept a s below is);
}
  where
    got : (s r : ℕ) → is_at s r t u ≡ true → letters_at qs s r ≡ x ∷ letters_at fewer s r
    got s r at =
        let same = is_there s r t u at in
        subst (λ s. letters_at qs s r ≡ x ∷ letters_at fewer s r) (sym same.0) (subst (λ r. letters_at qs t r ≡ x ∷ letters_at fewer t r) (sym same.1) here)

    by_port : (s r : ℕ) → s < n → r < 8 → (b : Bool) → is_at s r t u ≡ b → map body_of (letters_at fewer s r) ≡ cond b (drop 1 (port_of l s r)) (port_of l s r)
    by_port s r sender receiver true at = ap (drop 1) (sym (ap (map body_of) (got s r at)) ∙ mail.ports s r sender receiver)
    by_port s r sender receiver false off = ap (map body_of) (others s r receiver (is_away s r t u off)) ∙ mail.ports s r sender receiver

    still : (s r : ℕ) → r < 8 → (b : Bool) → is_at s r t u ≡ b → AreNamed (table l) (letters_at qs s r) → AreNamed (table l) (letters_at fewer s r)
    still s r receiver true at are = (subst (AreNamed (table l)) (got s r at) are).1
    still s r receiver false off are = subst (AreNamed (table l)) (sym (others s r receiver (is_away s r t u off))) are

-- Waits

-- one wait is set
pub set_wait : (l : Ledger) (ws : List (Option ℕ)) (a : ℕ) (o : Option ℕ) (c n : ℕ) → length ws ≡ n → a < n → slice_index_or ws c None ≡ awaits l c → (b : Bool) → (a == c) ≡ b
    → slice_index_or (slice_set ws a o) c None ≡ cond b o (awaits l c)
set_wait l ws a o c n long below was true is = subst (λ d. slice_index_or (slice_set ws a o) d None ≡ o) (eqb-true a c is) (get_or-set_same ws a o None (omega (arith, long, below)))
set_wait l ws a o c n long below was false is = get_or-set_other ws a c o None (λ e. absurd (false≢true (sym is ∙ eq-eqb a c (sym e)))) ∙ was

-- an agent's wait is recorded, or ends
pub mail_waited : {L : Type 0} (n : ℕ) (l : Ledger) (ws : List (Option ℕ)) (qs : List (QueueView L)) (a : ℕ) (o : Option ℕ) (e : LedgerEvent)
    → Mail n l ws qs → a < n → ((s r : ℕ) → port_of (e ∷ l) s r ≡ port_of l s r) → ((c : ℕ) → awaits (e ∷ l) c ≡ cond (a == c) o (awaits l c)) → ((s : ℕ) → o ≡ Some s → s < n)
    → Mail n (e ∷ l) (slice_set ws a o) qs
mail_waited n l ws qs a o e mail below ported waited inside = record {
  columns = mail.columns;
  ports = λ s r sender receiver. mail.ports s r sender receiver ∙ sym (ported s r);
  named = λ s r sender receiver. all_after l e (letters_at qs s r) (mail.named s r sender receiver);
  agents = length-set ws a o ∙ mail.agents;
  awaited = λ c within. set_wait l ws a o c n mail.agents below (mail.awaited c within) (a == c) refl ∙ sym (waited c);
  senders = λ c s within is. by_test c s within (a == c) refl (sym (waited c) ∙ is);
}
  where
    by_test : (c s : ℕ) → c < n → (b : Bool) → (a == c) ≡ b → cond b o (awaits l c) ≡ Some s → s < n
    by_test c s within true at is = inside s is
    by_test c s within false at is = mail.senders c s within is

-- How many agents wait

sum_same : (n : ℕ) (f g : ℕ → ℕ) → ((a : ℕ) → a < n → f a ≡ g a) → sum_below n f ≡ sum_below n g
sum_same zero f g same = refl
sum_same (suc n) f g same =
    let one = same n (omega arith) in
    let rest = sum_same n f g (λ a below. same a (omega (arith, below))) in
    omega (arith, one, rest)

-- a sum that differs at one place
sum_one : (n k : ℕ) (f g : ℕ → ℕ) → k < n → ((a : ℕ) → a ≢ k → f a ≡ g a) → sum_below n f + g k ≡ sum_below n g + f k
sum_one zero k f g below same = absurd (omega (arith, below))
sum_one (suc n) k f g below same = by_test (n == k) refl (λ less. sum_one n k f g less same)
  where
    by_test : (b : Bool) → (n == k) ≡ b → (k < n → sum_below n f + g k ≡ sum_below n g + f k) → f n + sum_below n f + g k ≡ g n + sum_below n g + f k
    by_test true is earlier =
        let at = eqb-true n k is in
        let rest = sum_same n f g (λ a less. same a (λ e. absurd (omega (arith, e, at, less)))) in
        let fs : f n ≡ f k = ap f at in
        let gs : g n ≡ g k = ap g at in
        omega (arith, rest, fs, gs)
    by_test false is earlier =
        let off : n ≢ k = λ e. absurd (false≢true (sym is ∙ eq-eqb n k e)) in
        let rest = earlier (omega (arith, below, off)) in
        let here = same n off in
        omega (arith, rest, here)

abbrev pub one_if : Bool → ℕ
one_if b = cond b 1 0

at_most : (b : Bool) → one_if b ≤ 1
at_most false = omega arith
at_most true = omega arith

pub waiting_few : (l : Ledger) (n : ℕ) → waiting l n ≤ n + n
waiting_few l zero = omega arith
waiting_few l (suc n) = let rest = waiting_few l n in let one = at_most (is_some (awaits l n)) in let other = at_most (asleep l n) in omega (arith, rest, one, other)

-- what is to end of an agent's rests
abbrev pub rests : Ledger → ℕ → ℕ
rests l a = one_if (is_some (awaits l a)) + one_if (asleep l a)

-- one agent's rests are others
rests_one : (l : Ledger) (e : LedgerEvent) (n a : ℕ) (b c : Bool) → a < n → ((d : ℕ) → is_some (awaits (e ∷ l) d) ≡ cond (a == d) b (is_some (awaits l d))) → ((d : ℕ) → asleep (e ∷ l) d ≡ cond (a == d) c (asleep l d))
    → waiting (e ∷ l) n + rests l a ≡ waiting l n + (one_if b + one_if c)
rests_one l e n a b c below waited slept =
    let w : one_if (is_some (awaits (e ∷ l) a)) ≡ one_if b = ap one_if (waited a ∙ ap (λ t. cond t b (is_some (awaits l a))) (eq-eqb a a refl)) in
    let s : one_if (asleep (e ∷ l) a) ≡ one_if c = ap one_if (slept a ∙ ap (λ t. cond t c (asleep l a)) (eq-eqb a a refl)) in
    let all = sum_one n a (rests (e ∷ l)) (rests l) below (λ d apart.
    let other : (a == d) ≡ false = ne_eqb a d (λ e. absurd (apart (sym e))) in
    let w : one_if (is_some (awaits (e ∷ l) d)) ≡ one_if (is_some (awaits l d)) = ap one_if (waited d ∙ ap (λ t. cond t b (is_some (awaits l d))) other) in
    let s : one_if (asleep (e ∷ l) d) ≡ one_if (asleep l d) = ap one_if (slept d ∙ ap (λ t. cond t c (asleep l d)) other) in
    omega (arith, w, s)) in
    omega (arith, w, s, all)

-- what is said of one agent alone
same_if : {X : Type 0} (a d : ℕ) (f : ℕ → X) → f d ≡ cond (a == d) (f a) (f d)
same_if a d f = by (a == d) refl
  where
    by : (t : Bool) → (a == d) ≡ t → f d ≡ cond t (f a) (f d)
    by true is = ap f (sym (eqb-true a d is))
    by false is = refl

some_if : {X : Type 0} (t : Bool) (o p : Option X) → is_some (cond t o p) ≡ cond t (is_some o) (is_some p)
some_if true o p = refl
some_if false o p = refl

-- one agent's wait is another
pub waiting_one : (l : Ledger) (e : LedgerEvent) (n a : ℕ) (o : Option ℕ) → a < n → ((c : ℕ) → awaits (e ∷ l) c ≡ cond (a == c) o (awaits l c)) → ((c : ℕ) → asleep (e ∷ l) c ≡ asleep l c)
    → waiting (e ∷ l) n + one_if (is_some (awaits l a)) ≡ waiting l n + one_if (is_some o)
waiting_one l e n a o below waited slept =
    let all = rests_one l e n a (is_some o) (asleep l a) below (λ d. ap is_some (waited d) ∙ some_if (a == d) o (awaits l d)) (λ d. slept d ∙ same_if a d (asleep l)) in
    omega (arith, all)

-- one agent's sleep is another
pub sleeping_one : (l : Ledger) (e : LedgerEvent) (n a : ℕ) (b : Bool) → a < n → ((c : ℕ) → asleep (e ∷ l) c ≡ cond (a == c) b (asleep l c)) → ((c : ℕ) → awaits (e ∷ l) c ≡ awaits l c)
    → waiting (e ∷ l) n + one_if (asleep l a) ≡ waiting l n + one_if b
sleeping_one l e n a b below slept waited =
    let all = rests_one l e n a (is_some (awaits l a)) b below (λ d. ap is_some (waited d) ∙ same_if a d (λ d. is_some (awaits l d))) slept in
    omega (arith, all)

pub waiting_same : (l : Ledger) (e : LedgerEvent) (n : ℕ) → ((a : ℕ) → awaits (e ∷ l) a ≡ awaits l a) → ((a : ℕ) → asleep (e ∷ l) a ≡ asleep l a) → waiting (e ∷ l) n ≡ waiting l n
waiting_same l e n waited slept =
    sum_same n (rests (e ∷ l)) (rests l) (λ a below.
    let w : one_if (is_some (awaits (e ∷ l) a)) ≡ one_if (is_some (awaits l a)) = ap (λ o. one_if (is_some o)) (waited a) in
    let s : one_if (asleep (e ∷ l) a) ≡ one_if (asleep l a) = ap one_if (slept a) in
    omega (arith, w, s))

-- Sleepers

-- an event that changes no list and no sleep
pub sleepers_same : (n : ℕ) (l m : Ledger) (ws : List Waiter) (bs : List Bool) → Sleepers n l ws bs → waiters m ≡ waiters l → ((a : ℕ) → asleep m a ≡ asleep l a) → Sleepers n m ws bs
sleepers_same n l m ws bs are lists slept = record {
  lists = are.lists ∙ sym lists;
  agents = are.agents;
  each = λ a below. are.each a below ∙ sym (slept a);
}
