-- After two histories that tell the same, of waits and of sleeps too, the same may come, and means the same.
use Rattle.std.proofs.Common.{◌≡◌, ℕ, zero, suc, ◌+◌, ◌&&◌, ◌||◌, Bool, not, false, sym, ◌∙◌, ap, refl, subst, List, [], ◌∷◌, ◌++◌, Option, Some, None}
use Rattle.std.specs.Prelude.{nat_lt, is_some}
use Rattle.std.specs.Option.{option_and_then, option_map, option_map_or}
use Rattle.es_event.specs.declared.ledger_event.Body.{Body}
use Rattle.es_event.specs.declared.ledger_event.Body.TheVariants.{Plain, Block}
use Rattle.es_event.specs.declared.ledger_event.LedgerEvent.{LedgerEvent}
use Rattle.es_event.specs.declared.ledger_event.LedgerEvent.TheVariants.{Opened, Posted, Taken, Spent, Accessed, Drained, Acted}
use Rattle.es_event.specs.declared.ledger_event.Act.TheVariants.{Waiting, Passed, Ended, Slept, Notified, Woke, TimedOut}
use Rattle.es_event.specs.Access.{IsStorable}
use Rattle.es_event.specs.Rows.{count_of, held}
use Rattle.es_event.specs.Ledger.{Ledger, awaited, ended, front, holder_of, serial_in, waits, word}
use Rattle.es_event.specs.Waiters.{is_listed, taken_there}
use Rattle.es_event.specs.LegalLedger.{ComesNext, IsPostable, MayCome, Reaches, ReachesAs, all_ended, all_stuck, has_message, is_chosen, is_stuck, owed, skips}
use Rattle.es_event.specs.Totals.{is_drained}
use Rattle.es_match.specs.Deeds.{Owned, Accesses, Spends, Takes, deed, part_of, taking, acting, sleep_of, sleeps_after}
use Rattle.es_match.specs.Patience.{may_do, may_stir}
use Rattle.es_theorems.specs.Alike.{Alike}
use Rattle.es_theorems.specs.Ahead.{Acts, Like, May, Steps, ahead, played}
use Rattle.es_theorems.proofs.Telling.{after_one, same, same_front, same_holder, same_message, through}
use Rattle.es_theorems.proofs.Doing.{reaches_as, reaches_so, same_listed, same_taken, same_words_in}

pub like : (l : Ledger) → Like l l
like l = record { alike = same l; waits = λ a. refl; sleeps = λ a. refl; owes = refl; drained = refl }

pub like_through : (l m k : Ledger) → Like l m → Like m k → Like l k
like_through l m k a b = record { alike = through l m k a.alike b.alike; waits = λ n. a.waits n ∙ b.waits n; sleeps = λ n. a.sleeps n ∙ b.sleeps n; owes = a.owes ∙ b.owes; drained = a.drained ∙ b.drained }

-- One event more

owed_after : (l m : Ledger) (e : LedgerEvent) → Alike l m → owed (e ∷ l) ≡ owed (e ∷ m)
owed_after l m (Drained s r) a = ap (option_and_then serial_in) (same_front l m s r a)
owed_after l m _ a = refl

sleep_after : (l m : Ledger) (e : LedgerEvent) (a : ℕ) → sleep_of l a ≡ sleep_of m a → sleep_of (e ∷ l) a ≡ sleep_of (e ∷ m) a
sleep_after l m (Acted c act) a is = ap (sleeps_after c act a) is
sleep_after l m _ a is = is

pub like_after : (l m : Ledger) (e : LedgerEvent) → Like l m → Like (e ∷ l) (e ∷ m)
like_after l m e k = record {
  alike = after_one l m e k.alike;
  waits = λ a. ap (awaited e a) (k.waits a);
  sleeps = λ a. sleep_after l m e a (k.sleeps a);
  owes = owed_after l m e k.alike;
  drained = ap (λ b. is_drained e || b) k.drained;
}

pub like_played : (es : List LedgerEvent) (l m : Ledger) → Like l m → Like (played es l) (played es m)
like_played [] l m k = k
like_played (e ∷ es) l m k = like_played es (e ∷ l) (e ∷ m) (like_after l m e k)

-- What it means

same_taking : (l m : Ledger) (s r : ℕ) → Alike l m → taking l s (front l s r) ≡ taking m s (front m s r)
same_taking l m s r a = ap (λ b. taking l s b) (same_front l m s r a) ∙ ap (λ w. Takes s (front m s r) w) (same_words_in l m (front m s r) a)

pub same_deed : (l m : Ledger) (e : LedgerEvent) → Like l m → deed l e ≡ deed m e
same_deed l m (Taken s r) k = ap (λ d. Some (r, d)) (same_taking l m s r k.alike)
same_deed l m (Spent s) k = ap (λ o. option_map (λ p. (p.0, Spends s)) o) (same_holder l m s k.alike)
same_deed l m (Accessed s i d old) k = ap (λ o. option_map (λ p. (p.0, Accesses s i d old)) o) (same_holder l m s k.alike)
same_deed l m (Acted b act) k = ap (λ o. Some (b, acting o act)) (k.sleeps b)
same_deed l m _ k = refl

pub same_ahead : (es : List LedgerEvent) (l m : Ledger) (a : ℕ) → Like l m → ahead es l a ≡ ahead es m a
same_ahead [] l m a k = refl
same_ahead (e ∷ es) l m a k = ap (λ o. part_of a o ++ ahead es (e ∷ l) a) (same_deed l m e k) ∙ ap (λ ds. part_of a (deed m e) ++ ds) (same_ahead es (e ∷ l) (e ∷ m) a (like_after l m e k))

-- What may come

abbrev vain : Ledger → ℕ → Bool
vain l a = option_map_or (λ s. not (has_message l s a) && not (ended l s)) (waits l a) false

same_stuck : (l m : Ledger) (a : ℕ) → Like l m → is_stuck l a ≡ is_stuck m a
same_stuck l m a k = ap (λ b. b || vain l a) (same_listed l m a k.alike) ∙ ap (λ b. is_listed m a || b) (at (waits l a) (waits m a) (k.waits a))
  where
    at : (v w : Option ℕ) → v ≡ w → option_map_or (λ s. not (has_message l s a) && not (ended l s)) v false ≡ option_map_or (λ s. not (has_message m s a) && not (ended m s)) w false
    at None None is = refl
    at (Some s) None is = cc
    at None (Some s) is = cc
    at (Some s) (Some t) is =
        let same : s ≡ t = cc in
        ap (λ b. not b && not (ended l s)) (same_message l m s a k.alike) ∙ ap (λ e. not (has_message m s a) && not e) (k.alike.ends s) ∙ ap (λ s. not (has_message m s a) && not (ended m s)) same

pub same_all_stuck : (l m : Ledger) (n : ℕ) → Like l m → all_stuck l n ≡ all_stuck m n
same_all_stuck l m zero k = refl
same_all_stuck l m (suc n) k =
    ap (λ e. (e || is_stuck l n) && all_stuck l n) (k.alike.ends n) ∙ ap (λ s. (ended m n || s) && all_stuck l n) (same_stuck l m n k)
    ∙ ap (λ r. (ended m n || is_stuck m n) && r) (same_all_stuck l m n k)

pub same_all_ended : (l m : Ledger) (n : ℕ) → Alike l m → all_ended l n ≡ all_ended m n
same_all_ended l m zero a = refl
same_all_ended l m (suc n) a = ap (λ e. e && all_ended l n) (a.ends n) ∙ ap (λ r. ended m n && r) (same_all_ended l m n a)

same_chosen : (l m : Ledger) (n a : ℕ) → Like l m → is_chosen l n a ≡ is_chosen m n a
same_chosen l m n a k =
    ap (λ s. s && (all_ended l a && not (ended l a))) (same_all_stuck l m n k) ∙ ap (λ s. all_stuck m n && (s && not (ended l a))) (same_all_ended l m a k.alike)
    ∙ ap (λ e. all_stuck m n && (all_ended m a && not e)) (k.alike.ends a)

pub same_skips : (l m : Ledger) (n a s : ℕ) → Like l m → skips l n a s ≡ skips m n a s
same_skips l m n a s k =
    ap (λ b. not b && (ended l s || is_chosen l n a)) (same_message l m s a k.alike) ∙ ap (λ e. not (has_message m s a) && (e || is_chosen l n a)) (k.alike.ends s)
    ∙ ap (λ c. not (has_message m s a) && (ended m s || c)) (same_chosen l m n a k)

same_postable : (l m : Ledger) (a : ℕ) (b : Body) → Alike l m → IsPostable l a b → IsPostable m a b
same_postable l m a (Plain v) k is = is
same_postable l m a (Block b s) k is = (is.0 ∙ ap (λ n. n + 1) k.serials, ap (λ t. nat_lt 0 (count_of (held a t) b)) (sym k.tables) ∙ is.1)

may_come : (n : ℕ) (l m : Ledger) (e : LedgerEvent) → Like l m → MayCome n l e → MayCome n m e
may_come n l m (Opened b w s a) k is = (is.0 ∙ ap (λ n. n + 1) k.alike.opened, is.1 ∙ ap (λ n. n + 1) k.alike.serials, is.2)
may_come n l m (Posted a r b) k is = (is.0, is.1, is.2, same_postable l m a b k.alike is.3)
may_come n l m (Taken s r) k is = sym (same_message l m s r k.alike) ∙ is
may_come n l m (Spent s) k is = ap is_some (sym (same_holder l m s k.alike)) ∙ is
may_come n l m (Accessed s i d old) k is =
    subst (λ o. Reaches o i (λ r. (old ≡ word m r.block i) × IsStorable d)) (same_holder l m s k.alike)
    (reaches_so (holder_of l s) i (λ r. (old ≡ word l r.block i) × IsStorable d) (λ r. (old ≡ word m r.block i) × IsStorable d) (λ r e. (e.0 ∙ k.alike.words r.block i, e.1)) is)
may_come n l m (Acted a (Waiting s)) k is = (is.0, is.1, is.2, sym (same_message l m s a k.alike) ∙ is.3, sym (k.waits a) ∙ is.4, sym (k.alike.ends a) ∙ is.5, sym (k.alike.asleep a) ∙ is.6)
may_come n l m (Acted a (Passed s)) k is = (sym (k.waits a) ∙ is.0, sym (same_skips l m n a s k) ∙ is.1)
may_come n l m (Acted a Ended) k is = (is.0, sym (k.alike.ends a) ∙ is.1)
may_come n l m (Acted a (Slept s i w)) k is = (
  subst (λ o. ReachesAs a o i (λ r. w ≡ word m r.block i)) (same_holder l m s k.alike) (reaches_as (holder_of l s) a i (λ r. w ≡ word l r.block i) (λ r. w ≡ word m r.block i) (λ r e. e ∙ k.alike.words r.block i) is.0),
  sym (k.waits a) ∙ is.1,
  sym (k.alike.ends a) ∙ is.2,
  sym (k.alike.asleep a) ∙ is.3,
)
may_come n l m (Acted a (Notified s i c t)) k is =
    subst (λ o. ReachesAs a o i (λ r. t ≡ taken_there m r.block i c)) (same_holder l m s k.alike)
    (reaches_as (holder_of l s) a i (λ r. t ≡ taken_there l r.block i c) (λ r. t ≡ taken_there m r.block i c) (λ r e. e ∙ same_taken l m r.block i c k.alike) is)
may_come n l m (Acted a Woke) k is = (sym (k.alike.asleep a) ∙ is.0, sym (same_listed l m a k.alike) ∙ is.1)
may_come n l m (Acted a TimedOut) k is = (sym (same_listed l m a k.alike) ∙ is.0, sym (same_chosen l m n a k) ∙ is.1)
may_come n l m (Drained s r) k is = (sym (same_all_ended l m n k.alike) ∙ is.0, sym (same_message l m s r k.alike) ∙ is.1)

comes_next : (n : ℕ) (l m : Ledger) (e : LedgerEvent) (o : Option ℕ) → Like l m → ComesNext n l e o → ComesNext n m e o
comes_next n l m e None k is = may_come n l m e k is
comes_next n l m e (Some s) k is = is

same_acts : (n : ℕ) (l m : Ledger) (o : Owned) → Like l m → Acts n l o → Acts n m o
same_acts n l m None k is = is
same_acts n l m (Some p) k is = (is.0, sym (k.alike.ends p.0) ∙ is.1, sym k.drained ∙ is.2, ap (λ w. may_do w p.1) (sym (k.waits p.0)) ∙ is.3, ap (λ b. may_stir b p.1) (sym (k.alike.asleep p.0)) ∙ is.4)

pub same_may : (n : ℕ) (l m : Ledger) (e : LedgerEvent) → Like l m → May n l e → May n m e
same_may n l m e k is = record {
  legal = subst (ComesNext n m e) k.owes (comes_next n l m e (owed l) k is.legal);
  acts = subst (Acts n m) (same_deed l m e k) (same_acts n l m (deed l e) k is.acts);
}

pub same_steps : (n : ℕ) (es : List LedgerEvent) (l m : Ledger) → Like l m → Steps n es l → Steps n es m
same_steps n [] l m k is = is
same_steps n (e ∷ es) l m k is = (same_may n l m e k is.0, same_steps n es (e ∷ l) (e ∷ m) (like_after l m e k) is.1)
