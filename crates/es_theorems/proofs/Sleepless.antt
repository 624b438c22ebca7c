-- An agent whose plan never sleeps does nothing of sleep in the ledger.
use Rattle.std.proofs.Common.{◌≡◌, ℕ, ◌==◌, ◌&&◌, ◌||◌, Bool, true, false, cond, not, sym, ◌∙◌, ap, refl, subst, eq-eqb, List, [], ◌∷◌, ◌++◌, Option, Some, None}
use Rattle.std.specs.Prelude.{ℤ}
use Rattle.std.specs.Option.{option_and_then, option_map_or}
use Rattle.std.proofs.lemmas.Bool.{and_parts, eqb-true, false≢true}
use Rattle.es_value.specs.declared.value.Value.{Value}
use Rattle.es_event.specs.declared.ledger_event.Act.{Act}
use Rattle.es_event.specs.declared.ledger_event.Act.TheVariants.{Ended, Slept, Notified, Woke, TimedOut}
use Rattle.es_event.specs.declared.ledger_event.Body.{Body}
use Rattle.es_event.specs.declared.ledger_event.Body.TheVariants.{Plain, Block}
use Rattle.es_event.specs.declared.ledger_event.LedgerEvent.{LedgerEvent}
use Rattle.es_event.specs.declared.ledger_event.LedgerEvent.TheVariants.{Acted}
use Rattle.es_event.specs.declared.plan.AgentPlan.{AgentPlan}
use Rattle.es_event.specs.Follows.{Follows}
use Rattle.es_event.specs.History.{History}
use Rattle.es_event.specs.Ledger.{Ledger}
use Rattle.es_event.specs.Sharing.{Buffers}
use Rattle.es_event.specs.Waiters.{asleep}
use Rattle.es_match.specs.Asks.{Asking, nothing, to_open, to_measure, to_compare, to_access, to_miss, to_sleep, to_notify, to_post, to_receive, to_refuse, to_pass, to_empty, to_close, asks, between_jobs}
use Rattle.es_match.specs.Cluster.{DeedsMeet}
use Rattle.es_match.specs.Deeds.{Deed, Opens, Posts, Takes, Spends, Accesses, Passes, Ends, Notifies, Wakes, TimesOut, deed, is_wait, part, part_of, sleep_of}
use Rattle.es_match.specs.Meets.{Came, Tickets, after, is_access, is_miss, is_one, is_pass, is_post, is_refusal, no_more, opening, pair, receiving, serials_of, sole, spends, spends_ticket_in, strike, within}
use Rattle.es_match.specs.Patience.{is_patient, may_do, may_stir, patient}
use Rattle.es_match.proofs.Bridge.{mapped}
use Rattle.es_record.specs.AgentView.{AgentView}
use Rattle.es_cluster.specs.Tied.{IsSettled, came_to}
use Rattle.es_theorems.specs.Calm.{Calm, has_sleep, is_calm_act, of_sleep}
use Rattle.es_theorems.specs.Sleepless.{never_sleeps_in}
use Rattle.es_theorems.proofs.Calm.{event_calm, is_about_sleep}
use Rattle.es_theorems.proofs.Commands.{one_of, sole_of, some_if_true}

-- What meets what is asked

none_sleeps : (ds : List Deed) → no_more ds ≡ true → has_sleep ds ≡ false
none_sleeps [] e = refl
none_sleeps (d ∷ ds) e = cc

sole_sleeps : (f : Deed → Option Tickets) (ds : List Deed) (x : Tickets) → ((d : Deed) → of_sleep d ≡ true → f d ≡ None) → option_and_then f (sole ds) ≡ Some x → has_sleep ds ≡ false
sole_sleeps f ds x none e = let one = sole_of f ds x e in ap has_sleep one.1 ∙ by one.0 (of_sleep one.0) refl one.2
  where
    by : (d : Deed) (t : Bool) → of_sleep d ≡ t → f d ≡ Some x → (of_sleep d || false) ≡ false
    by d true is got = let clash : ◌≡◌ {A = Option Tickets} None (Some x) = sym (none d is) ∙ got in cc
    by d false is got = ap (λ t. t || false) is

is_one_sleeps : (test : Deed → Bool) (ds : List Deed) → ((d : Deed) → of_sleep d ≡ true → test d ≡ false) → is_one test ds ≡ true → has_sleep ds ≡ false
is_one_sleeps test ds none e = let one = one_of test ds e in ap has_sleep one.1 ∙ by one.0 (of_sleep one.0) refl one.2
  where
    by : (d : Deed) (t : Bool) → of_sleep d ≡ t → test d ≡ true → (of_sleep d || false) ≡ false
    by d true is got = absurd (false≢true (sym (none d is) ∙ got))
    by d false is got = ap (λ t. t || false) is

refusal_sleeps : (ds : List Deed) → option_map_or (λ p. is_refusal p.0 p.1) (pair ds) false ≡ true → has_sleep ds ≡ false
refusal_sleeps (Takes u m w ∷ d ∷ []) e = at m d e
  where
    at : (m : Option Body) (d : Deed) → spends_ticket_in m d ≡ true → (false || (of_sleep d || false)) ≡ false
    at m (Spends q) e = refl
    at None d e = cc
    at (Some (Plain v)) d e = cc
    at (Some (Block b k)) d e = absurd (false≢true e)
refusal_sleeps [] e = cc
refusal_sleeps (d ∷ []) e = cc
refusal_sleeps (b ∷ c ∷ d ∷ ds) e = cc
refusal_sleeps (c ∷ d ∷ []) e = cc

spends_sleep : (closing : Bool) (ns : List ℕ) (ds : List Deed) → spends closing ns ds ≡ true → has_sleep ds ≡ false
spends_sleep false [] [] is = refl
spends_sleep true [] (Ends ∷ []) is = refl
spends_sleep closing [] ds is = absurd (cc)
spends_sleep closing (n ∷ ns) (Spends s ∷ ds) is = at (strike s (n ∷ ns)) (λ ms got. spends_sleep closing ms ds got) is
  where
    at : (o : Option (List ℕ)) → ((ms : List ℕ) → spends closing ms ds ≡ true → has_sleep ds ≡ false) → option_map_or (λ ms. spends closing ms ds) o false ≡ true → has_sleep ds ≡ false
    at None more got = absurd (cc)
    at (Some ms) more got = more ms got
spends_sleep closing (n ∷ ns) _ is = absurd (cc)

opening_off : (t : Tickets) (n : ℕ) (v : Value) (d : Deed) → of_sleep d ≡ true → opening t n v d ≡ None
opening_off t n v (Opens b w s) is = cc
opening_off t n v _ is = refl

receiving_off : (t : Tickets) (s : ℕ) (v : Value) (d : Deed) → of_sleep d ≡ true → receiving t s v d ≡ None
receiving_off t s v (Takes u m w) is = cc
receiving_off t s v _ is = refl

access_off : (t : Tickets) (b : Value) (i : ℤ) (m : _) (v : Value) (d : Deed) → of_sleep d ≡ true → is_access t b i m v d ≡ false
access_off t b i m v (Accesses s j c old) is = cc
access_off t b i m v _ is = refl

miss_off : (t : Tickets) (b : Value) (i : ℤ) (w : ℕ) (d : Deed) → of_sleep d ≡ true → is_miss t b i w d ≡ false
miss_off t b i w (Accesses s j c old) is = cc
miss_off t b i w _ is = refl

post_off : (t : Tickets) (q : ℕ) (v : Value) (d : Deed) → of_sleep d ≡ true → is_post t q v d ≡ false
post_off t q v (Posts r m) is = cc
post_off t q v _ is = refl

pass_off : (s : ℕ) (d : Deed) → of_sleep d ≡ true → is_pass s d ≡ false
pass_off s (Passes u) is = cc
pass_off s _ is = refl

pub met_calm : (t left : Tickets) (w : Asking) (ds : List Deed) → is_about_sleep w ≡ false → after t w ds ≡ Some left → has_sleep ds ≡ false
met_calm t left nothing ds calm e = none_sleeps ds (some_if_true _ t left e)
met_calm t left (to_open n v) ds calm e = sole_sleeps (opening t n v) ds left (opening_off t n v) e
met_calm t left (to_measure b v) ds calm e = none_sleeps ds (and_parts (no_more ds) _ (some_if_true _ t left e)).0
met_calm t left (to_compare b c v) ds calm e = none_sleeps ds (and_parts (no_more ds) _ (some_if_true _ t left e)).0
met_calm t left (to_access b i m v) ds calm e = is_one_sleeps (is_access t b i m v) ds (access_off t b i m v) (some_if_true _ t left e)
met_calm t left (to_miss b i w) ds calm e = is_one_sleeps (is_miss t b i w) ds (miss_off t b i w) (some_if_true _ t left e)
met_calm t left (to_sleep b i w r) ds calm e = cc
met_calm t left (to_notify b i n v) ds calm e = cc
met_calm t left (to_post a v) ds calm e = is_one_sleeps (is_post t a v) ds (post_off t a v) (some_if_true _ t left e)
met_calm t left (to_receive s v) ds calm e = sole_sleeps (receiving t s v) ds left (receiving_off t s v) e
met_calm t left to_refuse ds calm e = refusal_sleeps ds (some_if_true _ t left e)
met_calm t left (to_pass s) ds calm e = is_one_sleeps (is_pass s) ds (pass_off s) (some_if_true _ t left e)
met_calm t left (to_empty ids) ds calm e = spends_sleep false (serials_of (within ids t)) ds (some_if_true _ _ left e)
met_calm t left to_close ds calm e = spends_sleep true (serials_of t) ds (some_if_true _ _ left e)

-- What a whole history asks

sleep_append : (ds es : List Deed) → has_sleep (ds ++ es) ≡ (has_sleep ds || has_sleep es)
sleep_append [] es = refl
sleep_append (d ∷ ds) es = ap (λ b. of_sleep d || b) (sleep_append ds es) ∙ or_assoc (of_sleep d) (has_sleep ds) (has_sleep es)
  where
    or_assoc : (a b c : Bool) → (a || (b || c)) ≡ ((a || b) || c)
    or_assoc true b c = refl
    or_assoc false b c = refl

pub part_calm : (over : Buffers) (plan : AgentPlan) (h : History) (ds : List Deed) (c : Came) → never_sleeps_in plan ≡ true → Follows over plan h → DeedsMeet h ds c → has_sleep ds ≡ false
part_calm over plan [] ds c calm follows meets = ap has_sleep meets.0
part_calm over plan (e ∷ h) ds c calm follows (before, now, d, split, meets, brought) =
    let m = mapped _ (after d.tickets (asks (between_jobs h) e) now) c brought in
    let first = part_calm over plan h before d calm follows.1 meets in
    let last = met_calm d.tickets m.0 (asks (between_jobs h) e) now (event_calm over plan h (between_jobs h) e calm follows.0) m.1 in
    ap has_sleep split ∙ sleep_append before now ∙ rw (first, last) refl

-- What an agent does that never slept

or_none : (b c : Bool) → (b || c) ≡ false → (b ≡ false) × (c ≡ false)
or_none true c is = cc
or_none false c is = (refl, is)

or_some : (b : Bool) → (b || true) ≡ true
or_some true = refl
or_some false = refl

-- its part would tell it
told_last : (l : Ledger) (a : ℕ) (d : Deed) → of_sleep d ≡ true → is_wait d ≡ false → has_sleep (part l a ++ part_of a (Some (a, d))) ≡ true
told_last l a d sleeps quick =
    sleep_append (part l a) (part_of a (Some (a, d)))
    ∙ ap (λ t. has_sleep (part l a) || has_sleep (cond (t && not (is_wait d)) (d ∷ []) [])) (eq-eqb a a refl)
    ∙ ap (λ t. has_sleep (part l a) || has_sleep (cond (not t) (d ∷ []) [])) quick
    ∙ ap (λ t. has_sleep (part l a) || (t || false)) sleeps ∙ or_some (has_sleep (part l a))

untold : {P : Type 0} (l : Ledger) (a : ℕ) (d : Deed) → of_sleep d ≡ true → is_wait d ≡ false → has_sleep (part l a ++ part_of a (Some (a, d))) ≡ false → P
untold l a d sleeps quick none = absurd (false≢true (sym none ∙ told_last l a d sleeps quick))

act_calm : (l : Ledger) (a : ℕ) (act : Act) → Calm a (Acted a act ∷ l) → is_calm_act act ≡ true
act_calm l a (Slept s i w) calm = absurd (false≢true (sym calm.awake ∙ ap (λ t. cond t true (asleep l a)) (eq-eqb a a refl)))
act_calm l a (Notified s i m k) calm = untold l a (Notifies s i m k) refl refl calm.none
act_calm l a Woke calm = untold l a (Wakes (sleep_of l a)) refl refl calm.none
act_calm l a TimedOut calm = untold l a (TimesOut (sleep_of l a)) refl refl calm.none
act_calm l a _ calm = refl

-- it was awake before
awake_then : (l : Ledger) (a c : ℕ) (act : Act) (t : Bool) → (c == a) ≡ t → Calm a (Acted c act ∷ l) → asleep l a ≡ false
awake_then l a c act true here calm = by act (subst (λ c. Calm a (Acted c act ∷ l)) (eqb-true c a here) calm)
  where
    stirs : (t : Bool) → may_stir t Ends ≡ true → t ≡ false
    stirs false is = refl
    stirs true is = cc

    by : (act : Act) → Calm a (Acted a act ∷ l) → asleep l a ≡ false
    by Ended calm = stirs (asleep l a) (and_parts (may_do _ Ends) (may_stir (asleep l a) Ends) (and_parts (is_patient l (deed l (Acted a Ended))) (patient l) calm.patience).0).1
    by (Slept s i w) calm = absurd (false≢true (act_calm l a (Slept s i w) calm))
    by Woke calm = absurd (false≢true (act_calm l a Woke calm))
    by TimedOut calm = absurd (false≢true (act_calm l a TimedOut calm))
    by _ calm = calm.awake
awake_then l a c act false off calm = by act calm.awake
  where
    by : (act : Act) → asleep (Acted c act ∷ l) a ≡ false → asleep l a ≡ false
    by Ended awake = sym (ap (λ t. cond t false (asleep l a)) off) ∙ awake
    by (Slept s i w) awake = sym (ap (λ t. cond t true (asleep l a)) off) ∙ awake
    by Woke awake = sym (ap (λ t. cond t false (asleep l a)) off) ∙ awake
    by TimedOut awake = sym (ap (λ t. cond t false (asleep l a)) off) ∙ awake
    by _ awake = awake

pub calm_before : (l : Ledger) (x : LedgerEvent) (a : ℕ) → Calm a (x ∷ l) → Calm a l
calm_before l x a calm = record {
  awake = by x calm;
  none = (or_none (has_sleep (part l a)) (has_sleep (part_of a (deed l x))) (sym (sleep_append (part l a) (part_of a (deed l x))) ∙ calm.none)).0;
  patience = (and_parts (is_patient l (deed l x)) (patient l) calm.patience).1;
}
  where
    by : (x : LedgerEvent) → Calm a (x ∷ l) → asleep l a ≡ false
    by (Acted c act) calm = awake_then l a c act (c == a) refl calm
    by _ calm = calm.awake

-- an agent after its turn
pub calm_view : (b : AgentView) (n : ℕ) (l : Ledger) → b.number ≡ n → never_sleeps_in b.plan ≡ true → Follows b.over b.plan b.history → IsSettled b l → Calm n l
calm_view b n l number calm follows settled =
    subst (λ n. Calm n l) number (record { awake = settled.awake; none = part_calm b.over b.plan b.history (part l b.number) (came_to b) calm follows settled.tied.ties; patience = settled.tied.waits_end })
