-- What events leave that follow one after the other.
use Rattle.std.proofs.Common.{◌≡◌, ℕ, ◌&&◌, ◌||◌, not, Bool, true, false, cond, sym, ◌∙◌, ap, refl, subst, List, [], ◌∷◌, ◌++◌, append-nil, append_assoc, Option, Some, None, ◌⊎◌, inl, inr, ne_eqb, eq-eqb}
use Rattle.std.specs.Option.{option_and_then, option_map_or}
use Rattle.std.specs.Prelude.{ℤ}
use Rattle.std.proofs.lemmas.Bool.{and_parts, false≢true}
use Rattle.es_event.specs.declared.ledger_event.Body.{Body}
use Rattle.es_event.specs.declared.ledger_event.Body.TheVariants.{Plain, Block}
use Rattle.es_event.specs.declared.ledger_event.LedgerEvent.{LedgerEvent}
use Rattle.es_event.specs.declared.access.WaitResult.{WaitResult}
use Rattle.es_event.specs.Ledger.{Ledger, ended, is_end_of, waits}
use Rattle.es_event.specs.LegalLedger.{MayCome}
use Rattle.es_event.specs.Waiters.{asleep}
use Rattle.es_match.specs.Deeds.{Deed, Owned, Opens, Posts, Takes, Spends, Accesses, Waits, Passes, Ends, deed, is_sleep, is_wait, part, part_of, Sleeps, Notifies, Wakes, TimesOut}
use Rattle.es_match.specs.Patience.{drained_last, ends_sleep, ends_wait, has_drained, is_nobodys, is_patient, may_do, patient, may_stir}
use Rattle.es_match.specs.Asks.{Asking, nothing, to_open, to_measure, to_compare, to_access, to_miss, to_sleep, to_notify, to_post, to_receive, to_refuse, to_pass, to_empty, to_close}
use Rattle.es_match.specs.Meets.{Tickets, after, is_access, is_one, is_pass, is_post, is_refusal, no_more, opening, pair, receiving, serials_of, sole, spends, strike, within, is_end_of_sleep, is_miss, is_notify}
use Rattle.es_cluster.specs.Tied.{GrowsBy}
use Rattle.es_cluster.proofs.Growing.{grows_none, grows_on, grows_one}
use Rattle.es_theorems.specs.Ahead.{Acts, Steps, ahead, played}
use Rattle.es_theorems.specs.Found.{AllMine, AreSpends}
use Rattle.es_theorems.specs.Underway.{closes, has_end, is_end}
use Rattle.es_cluster.proofs.Midway.{still_awake}
use Rattle.es_theorems.specs.Doing.{event_of}
use Rattle.es_theorems.proofs.Doing.{event_is, meant}
use Rattle.es_theorems.proofs.Gathering.{part_mine}
use Rattle.es_theorems.proofs.Commands.{some_if_true, sole_of, one_of}
use Rattle.es_value.specs.declared.value.Value.{Value}

-- Parts

pub part_played : (es : List LedgerEvent) (l : Ledger) (a : ℕ) → part (played es l) a ≡ part l a ++ ahead es l a
part_played [] l a = sym (append-nil (part l a))
part_played (e ∷ es) l a = part_played es (e ∷ l) a ∙ append_assoc (part l a) (part_of a (deed l e)) (ahead es (e ∷ l) a)

pub ahead_append : (xs ys : List LedgerEvent) (l : Ledger) (a : ℕ) → ahead (xs ++ ys) l a ≡ ahead xs l a ++ ahead ys (played xs l) a
ahead_append [] ys l a = refl
ahead_append (x ∷ xs) ys l a = ap (λ ds. part_of a (deed l x) ++ ds) (ahead_append xs ys (x ∷ l) a) ∙ sym (append_assoc (part_of a (deed l x)) (ahead xs (x ∷ l) a) (ahead ys (played xs (x ∷ l)) a))

pub played_append : (xs ys : List LedgerEvent) (l : Ledger) → played (xs ++ ys) l ≡ played ys (played xs l)
played_append [] ys l = refl
played_append (x ∷ xs) ys l = played_append xs ys (x ∷ l)

pub mine_none : (a b : ℕ) (es : List LedgerEvent) (l : Ledger) → AllMine a es l → (b ≡ a → ⊥) → ahead es l b ≡ []
mine_none a b [] l mine other = refl
mine_none a b (e ∷ es) l mine other =
    ap (λ o. part_of b o ++ ahead es (e ∷ l) b) mine.0.1
    ∙ ap (λ t. cond (t && not (is_wait mine.0.0)) (mine.0.0 ∷ []) [] ++ ahead es (e ∷ l) b) (ne_eqb a b (λ same. other (sym same)))
    ∙ mine_none a b es (e ∷ l) mine.1 other

pub mine_grows : (a : ℕ) (es : List LedgerEvent) (l : Ledger) → AllMine a es l → GrowsBy a l (played es l)
mine_grows a [] l mine = grows_none a l
mine_grows a (e ∷ es) l mine = grows_on a l (e ∷ l) (played es (e ∷ l)) (grows_one a l (e ∷ l) e mine.0.0 refl mine.0.1) (mine_grows a es (e ∷ l) mine.1)

-- Patience

patient_one : (k : ℕ) (l : Ledger) (o : Owned) → Acts k l o → is_patient l o ≡ true
patient_one k l None acts = refl
patient_one k l (Some p) acts = ap (λ b. b && may_stir (asleep l p.0) p.1) acts.3 ∙ acts.4

last_one : (k : ℕ) (l : Ledger) (o : Owned) → Acts k l o → (is_nobodys o || not (has_drained l)) ≡ true
last_one k l None acts = refl
last_one k l (Some p) acts = ap not acts.2

pub patient_played : (k : ℕ) (es : List LedgerEvent) (l : Ledger) → Steps k es l → patient l ≡ true → patient (played es l) ≡ true
patient_played k [] l steps is = is
patient_played k (e ∷ es) l steps is = patient_played k es (e ∷ l) steps.1 (ap (λ b. b && patient l) (patient_one k l (deed l e) steps.0.acts) ∙ is)

pub last_played : (k : ℕ) (es : List LedgerEvent) (l : Ledger) → Steps k es l → drained_last l ≡ true → drained_last (played es l) ≡ true
last_played k [] l steps is = is
last_played k (e ∷ es) l steps is = last_played k es (e ∷ l) steps.1 (ap (λ b. b && drained_last l) (last_one k l (deed l e) steps.0.acts) ∙ is)

-- Waits

pub free_unless : (w : Option ℕ) (d : Deed) → may_do w d ≡ true → ((s : ℕ) → ends_wait s d ≡ false) → w ≡ None
free_unless None d may none = refl
free_unless (Some s) d may none = absurd (false≢true (sym (none s) ∙ may))

pub free_after : (l : Ledger) (x : LedgerEvent) (a : ℕ) (d : Deed) → deed l x ≡ Some (a, d) → is_wait d ≡ false → may_do (waits l a) d ≡ true → waits (x ∷ l) a ≡ None
free_after l x a d is quick may = ap (λ e. waits (e ∷ l) a) (event_is l x a d is) ∙ by d quick may
  where
    by : (d : Deed) → is_wait d ≡ false → may_do (waits l a) d ≡ true → waits (event_of a d ∷ l) a ≡ None
    by (Takes s m w) quick may = ap (λ t. cond t None (waits l a)) (eq-eqb a a refl)
    by (Passes s) quick may = ap (λ t. cond t None (waits l a)) (eq-eqb a a refl)
    by (Waits s) quick may = cc
    by d quick may = free_unless (waits l a) d may (λ s. refl)

pub free_played : (k : ℕ) (es : List LedgerEvent) (l : Ledger) (a : ℕ) → Steps k es l → AllMine a es l → waits l a ≡ None → waits (played es l) a ≡ None
free_played k [] l a steps mine free = free
free_played k (e ∷ es) l a steps mine free =
    free_played k es (e ∷ l) a steps.1 mine.1 (free_after l e a mine.0.0 mine.0.1 mine.0.2 (ap (λ w. may_do w mine.0.0) free))

-- Sleeps

no_sleep_begun : (d : Deed) → is_wait d ≡ false → is_sleep d ≡ false
no_sleep_begun (Sleeps s i w) quick = cc
no_sleep_begun _ quick = refl

risen : (l : Ledger) (a : ℕ) (d : Deed) → ends_sleep d ≡ true → asleep (event_of a d ∷ l) a ≡ false
risen l a (Wakes o) ends = ap (λ t. cond t false (asleep l a)) (eq-eqb a a refl)
risen l a (TimesOut o) ends = ap (λ t. cond t false (asleep l a)) (eq-eqb a a refl)
risen l a _ ends = cc

-- who did something else than to begin a sleep is awake
pub awake_after : (k : ℕ) (l : Ledger) (x : LedgerEvent) (a : ℕ) (d : Deed) → MayCome k l x → deed l x ≡ Some (a, d) → is_wait d ≡ false → may_stir (asleep l a) d ≡ true → asleep (x ∷ l) a ≡ false
awake_after k l x a d comes is quick stirs = by (asleep l a) refl stirs
  where
    by : (t : Bool) → asleep l a ≡ t → may_stir t d ≡ true → asleep (x ∷ l) a ≡ false
    by false up stirs = still_awake l x a d is (no_sleep_begun d quick) up
    by true down stirs = ap (λ e. asleep (e ∷ l) a) (meant k l x a d comes is).event ∙ risen l a d stirs

pub awake_played : (es : List LedgerEvent) (l : Ledger) (a : ℕ) → AllMine a es l → asleep l a ≡ false → asleep (played es l) a ≡ false
awake_played [] l a mine up = up
awake_played (e ∷ es) l a mine up = awake_played es (e ∷ l) a mine.1 (still_awake l e a mine.0.0 mine.0.1 (no_sleep_begun mine.0.0 mine.0.2) up)

-- Ends

end_by : (a : ℕ) (d : Deed) → is_end_of (event_of a d) a ≡ is_end d
end_by a Ends = eq-eqb a a refl
end_by a _ = refl

pub end_is : (l : Ledger) (x : LedgerEvent) (a : ℕ) (d : Deed) → deed l x ≡ Some (a, d) → is_end_of x a ≡ is_end d
end_is l x a d is = ap (λ e. is_end_of e a) (event_is l x a d is) ∙ end_by a d

or_swapped : (a b c : Bool) → (a || (b || c)) ≡ ((b || a) || c)
or_swapped true true c = refl
or_swapped true false c = refl
or_swapped false true c = refl
or_swapped false false c = refl

pub ended_played : (es : List LedgerEvent) (l : Ledger) (a : ℕ) → AllMine a es l → ended (played es l) a ≡ (has_end (ahead es l a) || ended l a)
ended_played [] l a mine = refl
ended_played (e ∷ es) l a mine =
    ended_played es (e ∷ l) a mine.1
    ∙ ap (λ b. has_end (ahead es (e ∷ l) a) || (b || ended l a)) (end_is l e a mine.0.0 mine.0.1)
    ∙ or_swapped (has_end (ahead es (e ∷ l) a)) (is_end mine.0.0) (ended l a)
    ∙ ap (λ ds. has_end (ds ++ ahead es (e ∷ l) a) || ended l a) (sym (part_mine a mine.0.0 (deed l e) mine.0.1 mine.0.2))

-- Deeds that meet what is asked

pub spends_so : (closing : Bool) (ns : List ℕ) (ds : List Deed) → spends closing ns ds ≡ true → (has_end ds ≡ closing) × AreSpends ds
spends_so false [] [] is = (refl, tt)
spends_so true [] (Ends ∷ []) is = (refl, refl)
spends_so closing [] ds is = absurd (cc)
spends_so closing (n ∷ ns) (Spends s ∷ ds) is = at (strike s (n ∷ ns)) (λ ms got. spends_so closing ms ds got) is
  where
    at : (o : Option (List ℕ)) → ((ms : List ℕ) → spends closing ms ds ≡ true → (has_end ds ≡ closing) × AreSpends ds) → option_map_or (λ ms. spends closing ms ds) o false ≡ true → (has_end ds ≡ closing) × AreSpends ds
    at None more got = absurd (cc)
    at (Some ms) more got = more ms got
spends_so closing (n ∷ ns) _ is = absurd (cc)

none_end : (ds : List Deed) → no_more ds ≡ true → has_end ds ≡ false
none_end [] e = refl
none_end (d ∷ ds) e = cc

sole_end : (f : Deed → Option Tickets) (ds : List Deed) (x : Tickets) → f Ends ≡ None → option_and_then f (sole ds) ≡ Some x → has_end ds ≡ false
sole_end f ds x none e = let one = sole_of f ds x e in ap has_end one.1 ∙ at one.0 one.2
  where
    at : (d : Deed) → f d ≡ Some x → (is_end d || false) ≡ false
    at Ends got = let clash : ◌≡◌ {A = Option Tickets} None (Some x) = sym none ∙ got in cc
    at _ got = refl

is_one_end : (test : Deed → Bool) (ds : List Deed) → test Ends ≡ false → is_one test ds ≡ true → has_end ds ≡ false
is_one_end test ds none e = let one = one_of test ds e in ap has_end one.1 ∙ at one.0 one.2
  where
    at : (d : Deed) → test d ≡ true → (is_end d || false) ≡ false
    at Ends got = absurd (false≢true (sym none ∙ got))
    at _ got = refl

refusal_end : (ds : List Deed) → option_map_or (λ p. is_refusal p.0 p.1) (pair ds) false ≡ true → has_end ds ≡ false
refusal_end (Takes u m w ∷ d ∷ []) e = at m d e
  where
    at : (m : Option Body) (d : Deed) → Rattle.es_match.specs.Meets.spends_ticket_in m d ≡ true → (false || (is_end d || false)) ≡ false
    at m (Spends q) e = refl
    at None d e = cc
    at (Some (Plain v)) d e = cc
    at (Some (Block b k)) d e = absurd (false≢true e)
refusal_end [] e = cc
refusal_end (d ∷ []) e = cc
refusal_end (b ∷ c ∷ d ∷ ds) e = cc
refusal_end (c ∷ d ∷ []) e = cc

sleep_end : (t : Tickets) (b : Value) (i : ℤ) (w : ℕ) (r : WaitResult) → is_end_of_sleep t b i w r Ends ≡ false
sleep_end t b i w WaitResult.Woken = refl
sleep_end t b i w _ = refl

pub end_asked : (t left : Tickets) (w : Asking) (ds : List Deed) → after t w ds ≡ Some left → has_end ds ≡ closes w
end_asked t left nothing ds e = none_end ds (some_if_true _ t left e)
end_asked t left (to_open n v) ds e = sole_end (opening t n v) ds left refl e
end_asked t left (to_measure b v) ds e = none_end ds (and_parts (no_more ds) _ (some_if_true _ t left e)).0
end_asked t left (to_compare b c v) ds e = none_end ds (and_parts (no_more ds) _ (some_if_true _ t left e)).0
end_asked t left (to_access b i m v) ds e = is_one_end (is_access t b i m v) ds refl (some_if_true _ t left e)
end_asked t left (to_miss b i w) ds e = is_one_end (is_miss t b i w) ds refl (some_if_true _ t left e)
end_asked t left (to_sleep b i w r) ds e = is_one_end (is_end_of_sleep t b i w r) ds (sleep_end t b i w r) (some_if_true _ t left e)
end_asked t left (to_notify b i n v) ds e = is_one_end (is_notify t b i n v) ds refl (some_if_true _ t left e)
end_asked t left (to_post a v) ds e = is_one_end (is_post t a v) ds refl (some_if_true _ t left e)
end_asked t left (to_receive s v) ds e = sole_end (receiving t s v) ds left refl e
end_asked t left to_refuse ds e = refusal_end ds (some_if_true _ t left e)
end_asked t left (to_pass s) ds e = is_one_end (is_pass s) ds refl (some_if_true _ t left e)
end_asked t left (to_empty ids) ds e = (spends_so false (serials_of (within ids t)) ds (some_if_true _ _ left e)).0
end_asked t left to_close ds e = (spends_so true (serials_of t) ds (some_if_true _ _ left e)).0

-- the deed is the only one of its event
abbrev pub is_alone : Deed → Bool
is_alone (Opens b w s) = true
is_alone (Posts r m) = true
is_alone (Takes s m w) = false
is_alone (Spends s) = false
is_alone (Accesses s i m old) = true
is_alone (Waits s) = true
is_alone (Passes s) = true
is_alone Ends = true
is_alone (Sleeps s i w) = true
is_alone (Notifies s i m k) = true
is_alone (Wakes o) = true
is_alone (TimesOut o) = true

sole_alone : {A : Type 0} (f : Deed → Option A) (d : Deed) (ds : List Deed) (x : A) → option_and_then f (sole (d ∷ ds)) ≡ Some x → ds ≡ []
sole_alone f d [] x e = refl
sole_alone f d (c ∷ ds) x e = cc

is_one_alone : (test : Deed → Bool) (d : Deed) (ds : List Deed) → is_one test (d ∷ ds) ≡ true → ds ≡ []
is_one_alone test d [] e = refl
is_one_alone test d (c ∷ ds) e = cc

refusal_more : (d : Deed) (ds : List Deed) → option_map_or (λ p. is_refusal p.0 p.1) (pair (d ∷ ds)) false ≡ true → (is_alone d ≡ false) × AreSpends ds
refusal_more (Takes u m w) (c ∷ []) e = (refl, at m c e)
  where
    at : (m : Option Body) (d : Deed) → Rattle.es_match.specs.Meets.spends_ticket_in m d ≡ true → AreSpends (d ∷ [])
    at m (Spends q) e = tt
    at None d e = cc
    at (Some (Plain v)) d e = cc
    at (Some (Block b k)) d e = absurd (false≢true e)
refusal_more d [] e = cc
refusal_more d (b ∷ c ∷ ds) e = cc
refusal_more d (c ∷ []) e = cc

spends_more : (d : Deed) (ds : List Deed) → AreSpends (d ∷ ds) → (ds ≡ []) ⊎ ((is_alone d ≡ false) × AreSpends ds)
spends_more (Spends s) ds is = inr (refl, is)
spends_more Ends ds is = inl is
spends_more d ds is = absurd is

-- an event has one deed, or it begins with one that may have others behind it: spendings, and the end
one_or_more : (t left : Tickets) (w : Asking) (d : Deed) (ds : List Deed) → after t w (d ∷ ds) ≡ Some left → (ds ≡ []) ⊎ ((is_alone d ≡ false) × AreSpends ds)
one_or_more t left nothing d ds e = cc
one_or_more t left (to_open n v) d ds e = inl (sole_alone (opening t n v) d ds left e)
one_or_more t left (to_measure b v) d ds e = cc
one_or_more t left (to_compare b c v) d ds e = cc
one_or_more t left (to_access b i m v) d ds e = inl (is_one_alone (is_access t b i m v) d ds (some_if_true _ t left e))
one_or_more t left (to_miss b i w) d ds e = inl (is_one_alone (is_miss t b i w) d ds (some_if_true _ t left e))
one_or_more t left (to_sleep b i w r) d ds e = inl (is_one_alone (is_end_of_sleep t b i w r) d ds (some_if_true _ t left e))
one_or_more t left (to_notify b i n v) d ds e = inl (is_one_alone (is_notify t b i n v) d ds (some_if_true _ t left e))
one_or_more t left (to_post a v) d ds e = inl (is_one_alone (is_post t a v) d ds (some_if_true _ t left e))
one_or_more t left (to_receive s v) d ds e = inl (sole_alone (receiving t s v) d ds left e)
one_or_more t left to_refuse d ds e = inr (refusal_more d ds (some_if_true _ t left e))
one_or_more t left (to_pass s) d ds e = inl (is_one_alone (is_pass s) d ds (some_if_true _ t left e))
one_or_more t left (to_empty ids) d ds e = spends_more d ds (spends_so false (serials_of (within ids t)) (d ∷ ds) (some_if_true _ _ left e)).1
one_or_more t left to_close d ds e = spends_more d ds (spends_so true (serials_of t) (d ∷ ds) (some_if_true _ _ left e)).1

-- all deeds of an event but the first are spendings, and the end
pub tail_asked : (t left : Tickets) (w : Asking) (d : Deed) (ds : List Deed) → after t w (d ∷ ds) ≡ Some left → AreSpends ds
tail_asked t left w d ds e = elim (one_or_more t left w d ds e) [
  | inl none ↦ subst AreSpends (sym none) tt
  | inr more ↦ more.1
]

pub alone_asked : (t left : Tickets) (w : Asking) (d : Deed) (ds : List Deed) → after t w (d ∷ ds) ≡ Some left → is_alone d ≡ true → ds ≡ []
alone_asked t left w d ds e alone = elim (one_or_more t left w d ds e) [
  | inl none ↦ none
  | inr more ↦ absurd (false≢true (sym more.0 ∙ alone))
]

pub end_alone : (d : Deed) → is_end d ≡ true → is_alone d ≡ true
end_alone Ends is = refl
end_alone _ is = cc
