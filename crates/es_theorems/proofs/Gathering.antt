-- The deeds of one turn are gathered before what others do.
use Rattle.std.proofs.Common.{◌≡◌, ℕ, suc, ◌==◌, ◌&&◌, not, Bool, true, false, cond, sym, ◌∙◌, ap, refl, subst, List, [], ◌∷◌, ◌++◌, append-nil, Option, Some, None, inl, inr, ◌⊎◌, ne_eqb, eq-eqb, eqb-true}
use Rattle.std.specs.Prelude.{is_some}
use Rattle.std.specs.Option.{option_and_then, option_map}
use Rattle.std.proofs.lemmas.Bool.{and_right, cases_Bool, eqb-false, false≢true}
use Rattle.es_event.specs.declared.ledger_event.Body.TheVariants.{Plain, Block}
use Rattle.es_event.specs.declared.ledger_event.LedgerEvent.{LedgerEvent}
use Rattle.es_event.specs.declared.ledger_event.LedgerEvent.TheVariants.{Opened, Posted, Taken, Spent, Accessed, Drained, Acted}
use Rattle.es_event.specs.declared.ledger_event.Act.TheVariants.{Waiting, Ended, Slept}
use Rattle.es_event.specs.declared.row.Row.{Row}
use Rattle.es_event.specs.declared.row.Entry.{Entry}
use Rattle.es_event.specs.declared.row.Holder.{Holder}
use Rattle.es_event.specs.declared.row.Holder.TheVariants.{Agent, Port, Nobody}
use Rattle.es_event.specs.Rows.{held_by, line_of, moved, row}
use Rattle.es_event.specs.Ledger.{Ledger, by_agent, front, holder_of, moved_if, serial_in, size, table, waits}
use Rattle.es_event.specs.LegalLedger.{ComesNext, LegalSoFar, MayCome}
use Rattle.es_match.specs.Deeds.{Deed, Owned, Opens, Posts, Spends, Accesses, Waits, Ends, deed, is_wait, part_of, sleep_of, Sleeps, TimesOut, Wakes}
use Rattle.es_match.specs.Patience.{ends_sleep, ends_wait, may_do, may_stir}
use Rattle.es_event.specs.Waiters.{asleep}
use Rattle.es_match.proofs.Sleeping.{has_a_sleep}
use Rattle.es_cluster.proofs.Sleeping.{sleeps_now}
use Rattle.es_theorems.specs.Doing.{event_of}
use Rattle.es_theorems.proofs.Doing.{meant}
use Rattle.es_theorems.proofs.Turning.{its_sleep, woken_by}
use Rattle.es_theorems.specs.Ahead.{Acts, Elsewhere, May, Rearranged, Steps, ahead, played}
use Rattle.es_theorems.specs.Found.{AreSpends, First, Found, Gathered}
use Rattle.es_theorems.specs.Ready.{Goes, Lives, Ready}
use Rattle.es_theorems.proofs.Bringing.{bring, rearranged_not}
use Rattle.es_theorems.proofs.Choosing.{ended_below}
use Rattle.es_cluster.proofs.Growing.{doer, sleep_other, waits_other}
use Rattle.es_theorems.proofs.Holding.{line_first, line_other, line_last}
use Rattle.es_theorems.proofs.Framing.{spender}
use Rattle.es_theorems.proofs.Liking.{like_through}
use Rattle.es_theorems.proofs.Swapping.{lives_after}
use Rattle.es_theorems.proofs.Only.{first_is}

-- While an agent goes on, each event is somebody's

some_owner : (o : Option (ℕ × Row)) (d : Deed) → is_some o ≡ true → (b : ℕ) × (option_map {U = ℕ × Deed} (λ p. (p.0, d)) o ≡ Some (b, d))
some_owner None d is = cc
some_owner (Some p) d is = (p.0, refl)

reaches_some : (o : Option (ℕ × Row)) (i : ℕ) (f : Row → Type 0) → Rattle.es_event.specs.LegalLedger.Reaches o i f → is_some o ≡ true
reaches_some None i f is = absurd is
reaches_some (Some p) i f is = refl

pub owner_of : (k : ℕ) (l : Ledger) (x : LedgerEvent) (a : ℕ) → Lives k l a → May k l x → (b : ℕ) × (d : Deed) × (deed l x ≡ Some (b, d))
owner_of k l x a lives may = at x (subst (ComesNext k l x) lives.paid may.legal)
  where
    at : (x : LedgerEvent) → MayCome k l x → (b : ℕ) × (d : Deed) × (deed l x ≡ Some (b, d))
    at (Opened b w s c) is = (c, Opens b w s, refl)
    at (Posted c r m) is = (c, Posts r m, refl)
    at (Taken s r) is = (r, Rattle.es_match.specs.Deeds.taking l s (front l s r), refl)
    at (Spent s) is = let o = some_owner (holder_of l s) (Spends s) is in (o.0, Spends s, o.1)
    at (Accessed s i m old) is = let o = some_owner (holder_of l s) (Accesses s i m old) (reaches_some (holder_of l s) i _ is) in (o.0, Accesses s i m old, o.1)
    at (Acted c act) is = (c, Rattle.es_match.specs.Deeds.acting (Rattle.es_match.specs.Deeds.sleep_of l c) act, refl)
    at (Drained s r) is = absurd (false≢true (sym lives.going ∙ ended_below l k a is.0 lives.known))

-- Its next event

pub part_none : (a b : ℕ) (d : Deed) (o : Owned) → o ≡ Some (b, d) → (a ≡ b → ⊥) → part_of a o ≡ []
part_none a b d o is other = ap (part_of a) is ∙ ap (λ t. cond (t && not (is_wait d)) (d ∷ []) []) (ne_eqb b a (λ same. other (sym same)))

pub part_mine : (a : ℕ) (d : Deed) (o : Owned) → o ≡ Some (a, d) → is_wait d ≡ false → part_of a o ≡ d ∷ []
part_mine a d o is w = ap (part_of a) is ∙ ap (λ t. cond (t && not (is_wait d)) (d ∷ []) []) (eq-eqb a a refl) ∙ ap (λ w. cond (not w) (d ∷ []) []) w

pub part_wait : (a b : ℕ) (d : Deed) (o : Owned) → o ≡ Some (b, d) → is_wait d ≡ true → part_of a o ≡ []
part_wait a b d o is w = ap (part_of a) is ∙ ap (λ w. cond ((b == a) && not w) (d ∷ []) []) w ∙ ap (λ t. cond t (d ∷ []) []) (and_right (b == a) false refl)

nothing_before : (a : ℕ) (xs ys : List LedgerEvent) (l : Ledger) → Elsewhere a xs l → ahead (xs ++ ys) l a ≡ ahead ys (played xs l) a
nothing_before a [] ys l away = refl
nothing_before a (x ∷ xs) ys l away =
    ap (λ p. p ++ ahead (xs ++ ys) (x ∷ l) a) (part_none a away.0.0 away.0.1 (deed l x) away.0.2 away.0.3) ∙ nothing_before a xs ys (x ∷ l) away.1

pub find : (k a : ℕ) (es : List LedgerEvent) (l : Ledger) (d : Deed) (ds : List Deed) → Lives k l a → Steps k es l → ahead es l a ≡ d ∷ ds → Found a es l
find k a [] l d ds lives steps is = cc
find k a (x ∷ es) l d ds lives steps is =
    let o = owner_of k l x a lives steps.0 in
    at o.0 o.1 o.2 (a == o.0) refl
    (λ other. find k a es (x ∷ l) d ds (lives_after k l a o.0 x o.1 o.2 other lives) steps.1 (sym (ap (λ p. p ++ ahead es (x ∷ l) a) (part_none a o.0 o.1 (deed l x) o.2 other)) ∙ is))
  where
    at : (b : ℕ) (e : Deed) → deed l x ≡ Some (b, e) → (t : Bool) → (a == b) ≡ t → ((a ≡ b → ⊥) → Found a es (x ∷ l)) → Found a (x ∷ es) l
    at b e mine true same rest = record { before = []; event = x; behind = es; split = refl; away = tt; does = e; mine = mine ∙ ap (λ b. Some (b, e)) (sym (eqb-true a b same)) }
    at b e mine false same rest =
        let other = eqb-false a b same in
        let on = rest other in
        record { before = x ∷ on.before; event = on.event; behind = on.behind; split = ap (λ es. x ∷ es) on.split; away = ((b, e, mine, other), on.away); does = on.does; mine = on.mine }

-- What is known behind the others

pub lives_far : (k a : ℕ) (xs : List LedgerEvent) (l : Ledger) → Elsewhere a xs l → Lives k l a → Lives k (played xs l) a
lives_far k a [] l away lives = lives
lives_far k a (x ∷ xs) l away lives = lives_far k a xs (x ∷ l) away.1 (lives_after k l a away.0.0 x away.0.1 away.0.2 away.0.3 lives)

pub waits_far : (a : ℕ) (xs : List LedgerEvent) (l : Ledger) → Elsewhere a xs l → waits (played xs l) a ≡ waits l a
waits_far a [] l away = refl
waits_far a (x ∷ xs) l away = waits_far a xs (x ∷ l) away.1 ∙ waits_other l x away.0.0 a away.0.1 away.0.2 away.0.3

sleeps_far : (a : ℕ) (xs : List LedgerEvent) (l : Ledger) → Elsewhere a xs l → sleep_of (played xs l) a ≡ sleep_of l a
sleeps_far a [] l away = refl
sleeps_far a (x ∷ xs) l away = sleeps_far a xs (x ∷ l) away.1 ∙ sleep_other l x away.0.0 a away.0.1 away.0.2 away.0.3

pub steps_apart : (k : ℕ) (xs ys : List LedgerEvent) (l : Ledger) → Steps k (xs ++ ys) l → Steps k ys (played xs l)
steps_apart k [] ys l steps = steps
steps_apart k (x ∷ xs) ys l steps = steps_apart k xs ys (x ∷ l) steps.1

pub steps_first : (k : ℕ) (xs ys : List LedgerEvent) (l : Ledger) → Steps k (xs ++ ys) l → Steps k xs l
steps_first k [] ys l steps = tt
steps_first k (x ∷ xs) ys l steps = (steps.0, steps_first k xs ys (x ∷ l) steps.1)

pub legal_far : (k : ℕ) (xs : List LedgerEvent) (l : Ledger) → LegalSoFar k l → Steps k xs l → LegalSoFar k (played xs l)
legal_far k [] l legal steps = legal
legal_far k (x ∷ xs) l legal steps = legal_far k xs (x ∷ l) (steps.0.legal, legal) steps.1

-- What it holds it held before

line_its : (s : ℕ) (who : Holder) (t : List Entry) → line_of s (moved s who t) ≡ option_map (λ e. held_by who e.row) (line_of s t)
line_its s who [] = refl
line_its s who (x ∷ t) = at (x.row.serial == s) refl (line_its s who t)
  where
    at : (b : Bool) → (x.row.serial == s) ≡ b → line_of s (moved s who t) ≡ option_map (λ e. held_by who e.row) (line_of s t) → line_of s (cond b (held_by who x.row) x ∷ moved s who t) ≡ option_map (λ e. held_by who e.row) (cond b (Some x) (line_of s t))
    at true is more = ap (λ b. cond b (Some (held_by who x.row)) (line_of s (moved s who t))) is
    at false is more = ap (λ b. cond b (Some x) (line_of s (moved s who t))) is ∙ more

-- a new line is held by another
held_before_more : (l : Ledger) (s a : ℕ) (r : Row) (e : Entry) → ((r q : Row) → by_agent e ≡ Some (a, q) → ⊥) → option_and_then by_agent (line_of s (table l ++ e ∷ [])) ≡ Some (a, r) → holder_of l s ≡ Some (a, r)
held_before_more l s a r e other is = at (line_of s (table l)) refl
  where
    at_new : (b : Bool) → option_and_then by_agent (cond b (Some e) None) ≡ Some (a, r) → holder_of l s ≡ Some (a, r)
    at_new true got = absurd (other r r got)
    at_new false got = cc

    at : (o : Option Entry) → line_of s (table l) ≡ o → holder_of l s ≡ Some (a, r)
    at (Some x) here = ap (option_and_then by_agent) here ∙ sym (ap (option_and_then by_agent) (line_first s (table l) (e ∷ []) x here)) ∙ is
    at None here = at_new (e.row.serial == s) (sym (ap (option_and_then by_agent) (line_last s (table l) (e ∷ []) here)) ∙ is)

pub moved_before : (l : Ledger) (s q a : ℕ) (who : Holder) (r : Row) → ((x p : Row) → by_agent (held_by who x) ≡ Some (a, p) → ⊥) → option_and_then by_agent (line_of s (moved q who (table l))) ≡ Some (a, r) → holder_of l s ≡ Some (a, r)
moved_before l s q a who r other is = elim (cases_Bool (s == q)) [
  | inl e ↦ at (line_of q (table l)) (sym (ap (option_and_then by_agent) (line_its q who (table l))) ∙ ap (λ s. option_and_then by_agent (line_of s (moved q who (table l)))) (sym (eqb-true s q e)) ∙ is)
  | inr e ↦ ap (option_and_then by_agent) (sym (line_other s q who (table l) (eqb-false s q e))) ∙ is
]
  where
    at : (o : Option Entry) → option_and_then by_agent (option_map (λ e. held_by who e.row) o) ≡ Some (a, r) → holder_of l s ≡ Some (a, r)
    at None got = cc
    at (Some x) got = absurd (other x.row r got)

pub holder_before : (l : Ledger) (x : LedgerEvent) (b a : ℕ) (d : Deed) (s : ℕ) (r : Row) → deed l x ≡ Some (b, d) → (a ≡ b → ⊥) → holder_of (x ∷ l) s ≡ Some (a, r) → holder_of l s ≡ Some (a, r)
holder_before l (Opened c w q u) b a d s r is other held =
    held_before_more l s a r (held_by (Agent u) (row q c w)) (λ x p got. other (sym (first_is u a (row q c w) p got) ∙ doer (deed l (Opened c w q u)) b u d is)) held
holder_before l (Posted t u (Plain v)) b a d s r is other held = ap (λ t. option_and_then by_agent (line_of s t)) (sym (append-nil (table l))) ∙ held
holder_before l (Posted t u (Block c q)) b a d s r is other held = held_before_more l s a r (held_by (Port t u) (row q c (size l c))) (λ x p got. cc) held
holder_before l (Taken t u) b a d s r is other held = at (option_and_then serial_in (front l t u)) held
  where
    at : (o : Option ℕ) → option_and_then by_agent (line_of s (moved_if o (Agent u) (table l))) ≡ Some (a, r) → holder_of l s ≡ Some (a, r)
    at None got = got
    at (Some q) got = moved_before l s q a (Agent u) r (λ x p same. other (sym (first_is u a x p same) ∙ doer (deed l (Taken t u)) b u d is)) got
holder_before l (Spent q) b a d s r is other held = moved_before l s q a Nobody r (λ x p same. cc) held
holder_before l _ b a d s r is other held = held

pub held_far : (a : ℕ) (xs : List LedgerEvent) (l : Ledger) (s : ℕ) (r : Row) → Elsewhere a xs l → holder_of (played xs l) s ≡ Some (a, r) → holder_of l s ≡ Some (a, r)
held_far a [] l s r away held = held
held_far a (x ∷ xs) l s r away held = holder_before l x away.0.0 a away.0.1 s r away.0.2 away.0.3 (held_far a xs (x ∷ l) s r away.1 held)

-- After a wait

pub not_wait : (s : ℕ) (d : Deed) → ends_wait s d ≡ true → is_wait d ≡ false
not_wait s (Waits t) is = cc
not_wait s (Sleeps u i w) is = cc
not_wait s _ is = refl

pub same_head : (d e : Deed) (ds es : List Deed) → d ∷ ds ≡ e ∷ es → d ≡ e
same_head d e ds es is = cc

same_tail : (d e : Deed) (ds es : List Deed) → d ∷ ds ≡ e ∷ es → ds ≡ es
same_tail d e ds es is = cc

-- of what was found: it may come there, and the agent may do it
pub found_may : (k a : ℕ) (es : List LedgerEvent) (l : Ledger) (f : Found a es l) → Steps k es l → May k (played f.before l) f.event × Steps k f.behind (f.event ∷ played f.before l)
found_may k a es l f steps = steps_apart k f.before (f.event ∷ f.behind) l (subst (λ es. Steps k es l) f.split steps)

pub found_acts : (k a : ℕ) (es : List LedgerEvent) (l : Ledger) (f : Found a es l) → Steps k es l → Acts k (played f.before l) (Some (a, f.does))
found_acts k a es l f steps = subst (Acts k (played f.before l)) f.mine (found_may k a es l f steps).0.acts

pub found_ahead : (a : ℕ) (es : List LedgerEvent) (l : Ledger) (f : Found a es l) → ahead es l a ≡ part_of a (deed (played f.before l) f.event) ++ ahead f.behind (f.event ∷ played f.before l) a
found_ahead a es l f = ap (λ es. ahead es l a) f.split ∙ nothing_before a f.before (f.event ∷ f.behind) l f.away

-- what was found is its next deed, unless it begins a wait or a sleep
found_is : (a : ℕ) (es : List LedgerEvent) (l : Ledger) (d : Deed) (ds : List Deed) (f : Found a es l) → is_wait f.does ≡ false → ahead es l a ≡ d ∷ ds → (f.does ≡ d) × (ahead f.behind (f.event ∷ played f.before l) a ≡ ds)
found_is a es l d ds f quick is =
    let rest = ahead f.behind (f.event ∷ played f.before l) a in
    let whole = sym (found_ahead a es l f ∙ ap (λ p. p ++ rest) (part_mine a f.does (deed (played f.before l) f.event) f.mine quick)) ∙ is in
    (same_head f.does d rest ds whole, same_tail f.does d rest ds whole)

pub found_event : (k a : ℕ) (es : List LedgerEvent) (l : Ledger) (f : Found a es l) → Lives k l a → Steps k es l → f.event ≡ event_of a f.does
found_event k a es l f lives steps =
    (meant k (played f.before l) f.event a f.does (subst (ComesNext k (played f.before l) f.event) (lives_far k a f.before l f.away lives).paid (found_may k a es l f steps).0.legal) f.mine).event

-- the agent's next deed ends its wait
pub next_ends : (k a : ℕ) (es : List LedgerEvent) (l : Ledger) (d : Deed) (ds : List Deed) (s : ℕ) → Lives k l a → Steps k es l → waits l a ≡ Some s → ahead es l a ≡ d ∷ ds → ends_wait s d ≡ true
next_ends k a es l d ds s lives steps waiting is =
    let f = find k a es l d ds lives steps is in
    let ends : ends_wait s f.does ≡ true = sym (ap (λ w. may_do w f.does) (waits_far a f.before l f.away ∙ waiting)) ∙ (found_acts k a es l f steps).3 in
    ap (ends_wait s) (sym (found_is a es l d ds f (not_wait s f.does ends) is).0) ∙ ends

-- or its sleep
ends_no_wait : (d : Deed) → ends_sleep d ≡ true → is_wait d ≡ false
ends_no_wait (Wakes o) is = refl
ends_no_wait (TimesOut o) is = refl
ends_no_wait _ is = cc

woken : (l : Ledger) (a : ℕ) (d : Deed) → ends_sleep d ≡ true → deed l (event_of a d) ≡ Some (a, d) → woken_by d ≡ sleep_of l a
woken l a (Wakes p) ends is = sym (its_sleep a (sleep_of l a) p Wakes woken_by (λ p. refl) is)
woken l a (TimesOut p) ends is = sym (its_sleep a (sleep_of l a) p TimesOut woken_by (λ p. refl) is)
woken l a _ ends is = cc

pub next_stirs : (k a : ℕ) (es : List LedgerEvent) (l : Ledger) (d : Deed) (ds : List Deed) → Lives k l a → Steps k es l → asleep l a ≡ true → ahead es l a ≡ d ∷ ds → (ends_sleep d ≡ true) × (woken_by d ≡ sleep_of l a)
next_stirs k a es l d ds lives steps sleeps is =
    let f = find k a es l d ds lives steps is in
    let far = played f.before l in
    let still : sleep_of far a ≡ sleep_of l a = sleeps_far a f.before l f.away in
    let down : asleep far a ≡ true = sym (has_a_sleep far a) ∙ ap is_some still ∙ has_a_sleep l a ∙ sleeps in
    let ends : ends_sleep f.does ≡ true = sym (ap (λ t. may_stir t f.does) down) ∙ (found_acts k a es l f steps).4 in
    let same = (found_is a es l d ds f (ends_no_wait f.does ends) is).0 in
    (ap ends_sleep (sym same) ∙ ends, ap woken_by (sym same) ∙ woken far a f.does ends (ap (deed far) (sym (found_event k a es l f lives steps)) ∙ f.mine) ∙ still)

pub waits_now : (l : Ledger) (a s : ℕ) → waits (Acted a (Waiting s) ∷ l) a ≡ Some s
waits_now l a s = ap (λ b. cond b (Some s) (waits l a)) (eq-eqb a a refl)

-- where a deed begins a wait or a sleep
pub begins : (d : Deed) → is_wait d ≡ true → ((s : ℕ) × (d ≡ Waits s)) ⊎ ((s : ℕ) × (i : ℕ) × (w : ℕ) × (d ≡ Sleeps s i w))
begins (Waits s) is = inl (s, refl)
begins (Sleeps s i w) is = inr (s, i, w, refl)
begins _ is = cc

-- where the next deed ends no wait and no sleep, none is recorded before it
pub found_next : (k a : ℕ) (es : List LedgerEvent) (l : Ledger) (d : Deed) (ds : List Deed) → Lives k l a → Steps k es l → ((s : ℕ) → ends_wait s d ≡ false) → ends_sleep d ≡ false → ahead es l a ≡ d ∷ ds
    → (f : Found a es l) × (f.does ≡ d) × (is_wait d ≡ false) × (ahead f.behind (f.event ∷ played f.before l) a ≡ ds)
found_next k a es l d ds lives steps none stays is = let f = find k a es l d ds lives steps is in at f (is_wait f.does) refl
  where
    at : (f : Found a es l) (w : Bool) → is_wait f.does ≡ w → (f : Found a es l) × (f.does ≡ d) × (is_wait d ≡ false) × (ahead f.behind (f.event ∷ played f.before l) a ≡ ds)
    at f false w = let same = found_is a es l d ds f w is in (f, same.0, ap is_wait (sym same.0) ∙ w, same.1)
    at f true w = absurd (elim (begins f.does w) [
      | inl x ↦ let e = Acted a (Waiting x.0) in
          false≢true (sym (none x.0) ∙ next_ends k a f.behind (e ∷ far) d ds x.0 (record { known = there.known; going = there.going; paid = refl; undrained = there.undrained }) (then e (event x.1)) (waits_now far a x.0) (rest e (event x.1)))
      | inr x ↦ let e = Acted a (Slept x.0 x.1 x.2) in
          false≢true (sym stays ∙ (next_stirs k a f.behind (e ∷ far) d ds (record { known = there.known; going = there.going; paid = refl; undrained = there.undrained }) (then e (event x.3)) (sleeps_now a (asleep far a)) (rest e (event x.3))).0)
    ])
      where
        far : Ledger
        far = played f.before l

        there : Lives k far a
        there = lives_far k a f.before l f.away lives

        event : {c : Deed} → f.does ≡ c → f.event ≡ event_of a c
        event does = found_event k a es l f lives steps ∙ ap (event_of a) does

        then : (e : LedgerEvent) → f.event ≡ e → Steps k f.behind (e ∷ far)
        then e is = subst (λ e. Steps k f.behind (e ∷ far)) is (found_may k a es l f steps).1

        rest : (e : LedgerEvent) → f.event ≡ e → ahead f.behind (e ∷ far) a ≡ d ∷ ds
        rest e same = ap (λ e. ahead f.behind (e ∷ far) a) (sym same) ∙ ap (λ p. p ++ ahead f.behind (f.event ∷ far) a) (sym (part_wait a a f.does (deed far f.event) f.mine w)) ∙ sym (found_ahead a es l f) ∙ is

-- It is brought

pub rearranged_cons : (k : ℕ) (e : LedgerEvent) (es fs : List LedgerEvent) (l : Ledger) → May k l e → Rearranged k es fs (e ∷ l) → Rearranged k (e ∷ es) (e ∷ fs) l
rearranged_cons k e es fs l may r = record { steps = (may, r.steps); parts = λ a. ap (λ ds. part_of a (deed l e) ++ ds) (r.parts a); like = r.like; size = ap suc r.size }

pub rearranged_through : (k : ℕ) (es fs gs : List LedgerEvent) (l : Ledger) → Rearranged k es fs l → Rearranged k fs gs l → Rearranged k es gs l
rearranged_through k es fs gs l r q = record { steps = q.steps; parts = λ a. r.parts a ∙ q.parts a; like = like_through (played es l) (played fs l) (played gs l) r.like q.like; size = r.size ∙ q.size }

pub brought : (k a : ℕ) (es : List LedgerEvent) (l : Ledger) (d : Deed) (ds : List Deed) (f : Found a es l) → LegalSoFar k l → Goes k l a → Steps k es l → Ready k l a f.event → is_wait d ≡ false → f.event ≡ event_of a d → deed l f.event ≡ Some (a, d) → ahead es l a ≡ d ∷ ds
    → First k a d ds es l
brought k a es l d ds f legal goes steps ready w event mine is = record {
  event = f.event;
  behind = f.before ++ f.behind;
  is = event;
  same = same;
  mine = mine;
  deeds = same_tail d d (ahead (f.before ++ f.behind) (f.event ∷ l) a) ds (ap (λ p. p ++ ahead (f.before ++ f.behind) (f.event ∷ l) a) (sym (part_mine a d (deed l f.event) mine w)) ∙ sym (same.parts a) ∙ is);
}
  where
    same : Rearranged k es (f.event ∷ f.before ++ f.behind) l
    same = subst (λ es. Rearranged k es (f.event ∷ f.before ++ f.behind) l) (sym f.split) (bring k f.before f.behind l a f.event legal goes ready f.away (subst (λ es. Steps k es l) f.split steps))

spends_first : (k a : ℕ) (es : List LedgerEvent) (l : Ledger) (q : ℕ) (ds : List Deed) → LegalSoFar k l → Goes k l a → Steps k es l → waits l a ≡ None → ahead es l a ≡ Spends q ∷ ds → First k a (Spends q) ds es l
spends_first k a es l q ds legal goes steps free is =
    let n = found_next k a es l (Spends q) ds goes.lives steps (λ s. refl) refl is in
    let f = n.0 in
    let far = played f.before l in
    let mine : deed far f.event ≡ Some (a, Spends q) = f.mine ∙ ap (λ d. Some (a, d)) n.1 in
    let event : f.event ≡ Spent q = found_event k a es l f goes.lives steps ∙ ap (event_of a) n.1 in
    let by = spender far q a (Spends q) (Spends q) (ap (deed far) (sym event) ∙ mine) in
    let held : holder_of l q ≡ Some (a, by.0) = held_far a f.before l q by.0 f.away by.1 in
    brought k a es l (Spends q) ds f legal goes steps (subst (Ready k l a) (sym event) ((by.0, held), free)) refl event (ap (deed l) event ∙ ap (option_map (λ p. (p.0, Spends q))) held) is

ends_first : (k a : ℕ) (es : List LedgerEvent) (l : Ledger) (ds : List Deed) → LegalSoFar k l → Goes k l a → Steps k es l → waits l a ≡ None → ahead es l a ≡ Ends ∷ ds → First k a Ends ds es l
ends_first k a es l ds legal goes steps free is =
    let n = found_next k a es l Ends ds goes.lives steps (λ s. refl) refl is in
    let f = n.0 in
    let event : f.event ≡ Acted a Ended = found_event k a es l f goes.lives steps ∙ ap (event_of a) n.1 in
    brought k a es l Ends ds f legal goes steps (subst (Ready k l a) (sym event) (refl, free)) refl event (ap (deed l) event) is

-- They are gathered

gathered_none : (k a : ℕ) (es : List LedgerEvent) (l : Ledger) → Steps k es l → Gathered k a [] es l
gathered_none k a es l steps = record { first = []; others = es; same = rearranged_not k es l steps; all_mine = tt; deeds = refl }

gathered_more : (k a : ℕ) (d : Deed) (ds more : List Deed) (es : List LedgerEvent) (l : Ledger) (f : First k a d more es l) → is_wait d ≡ false → Gathered k a ds f.behind (f.event ∷ l) → Gathered k a (d ∷ ds) es l
gathered_more k a d ds more es l f w g = record {
  first = f.event ∷ g.first;
  others = g.others;
  same = rearranged_through k es (f.event ∷ f.behind) (f.event ∷ g.first ++ g.others) l f.same (rearranged_cons k f.event f.behind (g.first ++ g.others) l f.same.steps.0 g.same);
  all_mine = ((d, f.mine, w), g.all_mine);
  deeds = ap (λ p. p ++ ahead g.first (f.event ∷ l) a) (part_mine a d (deed l f.event) f.mine w) ∙ ap (λ ds. d ∷ ds) g.deeds;
}

pub gather : (k a : ℕ) (ds more : List Deed) (es : List LedgerEvent) (l : Ledger) → LegalSoFar k l → Steps k es l → ((ds ≡ [] → ⊥) → Goes k l a) → ((ds ≡ [] → ⊥) → waits l a ≡ None) → AreSpends ds → ahead es l a ≡ ds ++ more → Gathered k a ds es l
gather k a [] more es l legal steps goes free spends is = gathered_none k a es l steps
gather k a (Spends q ∷ ds) more es l legal steps goes free spends is =
    let g = goes (λ f. cc) in
    let w = free (λ f. cc) in
    let f = spends_first k a es l q (ds ++ more) legal g steps w is in
    gathered_more k a (Spends q) ds (ds ++ more) es l f refl
    (gather k a ds more f.behind (f.event ∷ l) (f.same.steps.0.legal, legal) f.same.steps.1
    (λ some. subst (λ e. Goes k (e ∷ l) a) (sym f.is) (record { lives = record { known = g.lives.known; going = g.lives.going; paid = refl; undrained = g.lives.undrained }; awake = g.awake }))
    (λ some. subst (λ e. waits (e ∷ l) a ≡ None) (sym f.is) w)
    spends f.deeds)
gather k a (Ends ∷ ds) more es l legal steps goes free spends is =
    let f = ends_first k a es l (ds ++ more) legal (goes (λ f. cc)) steps (free (λ f. cc)) is in
    gathered_more k a Ends ds (ds ++ more) es l f refl (subst (λ ds. Gathered k a ds f.behind (f.event ∷ l)) (sym spends) (gathered_none k a f.behind (f.event ∷ l) f.same.steps.1))
gather k a (d ∷ ds) more es l legal steps goes free spends is = absurd spends
