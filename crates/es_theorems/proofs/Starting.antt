-- Before the first event all that an outcome tells is to follow.
use Rattle.std.proofs.Common.{◌≡◌, ◌⊎◌, ℕ, zero, suc, ◌+◌, ◌<◌, ◌≤◌, ◌&&◌, ◌||◌, not, Bool, true, false, cond, sym, ◌∙◌, ap, refl, subst, arith, List, [], ◌∷◌, ◌++◌, append-nil, append_assoc, length, map, reverse, Option, Some, None, inl, inr}
use Rattle.std.specs.Prelude.{slice_get}
use Rattle.std.specs.List.{AllByRecursion}
use Rattle.std.specs.Option.{option_map, option_map_or}
use Rattle.std.proofs.lemmas.Bool.{and_parts, false≢true, or_right, not-true}
use Rattle.std.proofs.lemmas.List.{reverse-append, reverse-reverse, length-map}
use Rattle.es_event.specs.declared.event.Event.{Event}
use Rattle.es_event.specs.declared.event.Event.TheVariants.{Did, Refused, Closed}
use Rattle.es_event.specs.declared.ledger_event.LedgerEvent.{LedgerEvent}
use Rattle.es_event.specs.declared.ledger_event.LedgerEvent.TheVariants.{Spent, Acted}
use Rattle.es_event.specs.declared.ledger_event.Act.TheVariants.{Waiting, Ended, Slept}
use Rattle.es_event.specs.declared.outcome.Outcome.{Outcome}
use Rattle.es_event.specs.declared.plan.AgentPlan.{AgentPlan}
use Rattle.es_event.specs.declared.plan.Plan.{Plan}
use Rattle.es_event.specs.declared.row.Row.{Row}
use Rattle.es_event.specs.Follows.{Follows, Permits}
use Rattle.es_event.specs.History.{History}
use Rattle.es_event.specs.Jobs.{Receivers, receivers}
use Rattle.es_event.specs.Ledger.{Ledger, ended as has_ended, holder_of, is_end_of, waits}
use Rattle.es_event.specs.LegalLedger.{ComesNext, LegalSoFar, MayCome, owed}
use Rattle.es_event.specs.Order.{Phase, between, handed, inside, stopped, ended, phase, due_at}
use Rattle.es_event.specs.Sharing.{Buffers}
use Rattle.es_event.specs.Waiters.{asleep}
use Rattle.es_match.specs.Deeds.{Deed, Owned, Ends, Spends, deed, is_wait, part, part_of}
use Rattle.es_match.specs.Patience.{drained_last, has_drained, is_nobodys, is_patient, may_do, patient, may_stir}
use Rattle.es_match.specs.Asks.{Asking, to_close, asks, between_jobs}
use Rattle.es_match.specs.Cluster.{Account, DeedsMeet, account_of, nobody}
use Rattle.es_match.specs.Goes.{goes}
use Rattle.es_match.specs.Meets.{Came, Tickets, after, nothing_came, serials_of}
use Rattle.es_match.proofs.Bridge.{mapped, ties_mean_goes}
use Rattle.es_record.specs.AgentView.{AgentView}
use Rattle.es_agent.specs.Tickets.{is_ended}
use Rattle.es_cluster.specs.Ends.{IsWhole}
use Rattle.es_cluster.specs.State.{first_state, first_views}
use Rattle.es_cluster.proofs.Beginning.{first_view}
use Rattle.es_theorems.specs.Doing.{event_of}
use Rattle.es_theorems.proofs.Doing.{meant}
use Rattle.es_theorems.proofs.Running.{stands_anyhow}
use Rattle.es_outcome.specs.Outcomes.{IsClusterOutcome}
use Rattle.es_theorems.specs.Ahead.{Acts, Steps, ahead, played}
use Rattle.es_theorems.specs.Found.{AreSpends}
use Rattle.es_theorems.specs.Underway.{Left, Underway, closes, has_end, is_end}
use Rattle.es_theorems.proofs.Gathering.{begins, part_mine}
use Rattle.es_theorems.proofs.Needing.{did_not_close, refused_not}
use Rattle.es_theorems.proofs.Playing.{end_asked, part_played, spends_so}
use Rattle.es_theorems.proofs.Commands.{some_if_true}
use Rattle.es_ledger.proofs.Taken.{sleeper_below}
use Rattle.es_theorems.proofs.Cluster.{going_first}

pub less_or : (a n : ℕ) → (a < n) ⊎ (n ≤ a)
less_or a zero = inr (omega arith)
less_or zero (suc n) = inl (omega arith)
less_or (suc a) (suc n) = elim (less_or a n) [
  | inl e ↦ inl (omega (arith, e))
  | inr e ↦ inr (omega (arith, e))
]

-- Nothing is done after the end

open_at : (over : Buffers) (into : Receivers) (plan : AgentPlan) (h : History) (p : Phase) (e : Event) → Permits over into h (due_at plan h p) e → is_ended p ≡ false
open_at over into plan h between e p = refl
open_at over into plan h handed e p = refl
open_at over into plan h inside e p = refl
open_at over into plan h stopped e p = refl
open_at over into plan h ended e p = absurd p

pub has_end_append : (xs ys : List Deed) → has_end (xs ++ ys) ≡ (has_end xs || has_end ys)
has_end_append [] ys = refl
has_end_append (x ∷ xs) ys = ap (λ b. is_end x || b) (has_end_append xs ys) ∙ regroup (is_end x) (has_end xs) (has_end ys)
  where
    regroup : (a b c : Bool) → (a || (b || c)) ≡ ((a || b) || c)
    regroup true b c = refl
    regroup false b c = refl

only_closed : (t : Bool) (e : Event) → closes (asks t e) ≡ true → e ≡ Closed
only_closed t Closed is = refl
only_closed t (Did (c, vs, a)) is = absurd (false≢true (sym (did_not_close c vs a) ∙ is))
only_closed t (Refused code) is = absurd (false≢true (sym (refused_not _) ∙ is))
only_closed t _ is = cc

ends_phase : (over : Buffers) (plan : AgentPlan) (h : History) (ds : List Deed) (c : Came) → Follows over plan h → DeedsMeet h ds c → has_end ds ≡ true → is_ended (phase h) ≡ true
ends_phase over plan [] ds c follows meets is = absurd (false≢true (ap has_end (sym meets.0) ∙ is))
ends_phase over plan (e ∷ h) ds c follows (before, now, d, split, meets, brought) is =
    at (has_end before) refl (λ is. ends_phase over plan h before d follows.1 meets is)
  where
    at : (b : Bool) → has_end before ≡ b → (has_end before ≡ true → is_ended (phase h) ≡ true) → is_ended (phase (e ∷ h)) ≡ true
    at true here closed = absurd (false≢true (sym (open_at over (receivers plan.jobs) plan h (phase h) e follows.0) ∙ closed here))
    at false none closed =
        let m = mapped _ (after d.tickets (asks (between_jobs h) e) now) c brought in
        let last : has_end now ≡ true = ap (λ b. b || has_end now) (sym none) ∙ sym (has_end_append before now) ∙ ap has_end (sym split) ∙ is in
        ap (λ e. is_ended (phase (e ∷ h))) (only_closed (between_jobs h) e (sym (end_asked d.tickets m.0 (asks (between_jobs h) e) now m.1) ∙ last))

split_at_end : (xs ys ps qs : List Deed) → xs ++ ys ≡ ps ++ qs → has_end xs ≡ false → has_end ps ≡ true → (q : List Deed) × (ys ≡ q ++ qs) × (has_end q ≡ true)
split_at_end [] ys ps qs is none some = (ps, is, some)
split_at_end (x ∷ xs) ys [] qs is none some = cc
split_at_end (x ∷ xs) ys (p ∷ ps) qs is none some =
    let first : x ≡ p = cc in
    let rest : xs ++ ys ≡ ps ++ qs = cc in
    let off = or_none (is_end x) (has_end xs) none in
    split_at_end xs ys ps qs rest off.1 (ap (λ b. b || has_end ps) (sym off.0 ∙ ap is_end first) ∙ some)
  where
    or_none : (a b : Bool) → (a || b) ≡ false → (a ≡ false) × (b ≡ false)
    or_none true b is = cc
    or_none false b is = (refl, is)

none_behind : (q qs : List Deed) → AreSpends (q ++ qs) → has_end q ≡ true → qs ≡ []
none_behind [] qs are is = cc
none_behind (Spends s ∷ q) qs are is = none_behind q qs are is
none_behind (Ends ∷ q) qs are is = no_rest q qs are
  where
    no_rest : (q qs : List Deed) → q ++ qs ≡ [] → qs ≡ []
    no_rest [] qs is = is
    no_rest (x ∷ q) qs is = cc
none_behind (d ∷ q) qs are is = absurd are

closing_spends : (t left : Tickets) (w : Asking) (ds : List Deed) → closes w ≡ true → after t w ds ≡ Some left → AreSpends ds
closing_spends t left to_close ds is met = (spends_so true (serials_of t) ds (some_if_true _ _ left met)).1
closing_spends t left _ ds is met = cc

after_end : (over : Buffers) (plan : AgentPlan) (h : History) (ds ps qs : List Deed) (c : Came) → Follows over plan h → DeedsMeet h ds c → ds ≡ ps ++ qs → has_end ps ≡ true → qs ≡ []
after_end over plan [] ds [] qs c follows meets is some = cc
after_end over plan [] ds (p ∷ ps) qs c follows meets is some = let clash : [] ≡ p ∷ (ps ++ qs) = sym meets.0 ∙ is in cc
after_end over plan (e ∷ h) ds ps qs c follows (before, now, d, split, meets, brought) is some =
    let none = at (has_end before) refl in
    let found = split_at_end before now ps qs (sym split ∙ is) none some in
    let m = mapped _ (after d.tickets (asks (between_jobs h) e) now) c brought in
    let last : has_end now ≡ true = ap has_end found.1 ∙ has_end_append found.0 qs ∙ ap (λ b. b || has_end qs) found.2 in
    none_behind found.0 qs (subst AreSpends found.1 (closing_spends d.tickets m.0 (asks (between_jobs h) e) now (sym (end_asked d.tickets m.0 (asks (between_jobs h) e) now m.1) ∙ last) m.1)) found.2
  where
    at : (b : Bool) → has_end before ≡ b → has_end before ≡ false
    at false none = none
    at true here = absurd (false≢true (sym (open_at over (receivers plan.jobs) plan h (phase h) e follows.0) ∙ ends_phase over plan h before d follows.1 meets here))

-- An agent that ended did so

end_part : (l : Ledger) (e : LedgerEvent) (a : ℕ) → is_end_of e a ≡ true → has_end (part_of a (deed l e)) ≡ true
end_part l (Acted b Ended) a is = ap (λ t. has_end (cond (t && true) (Ends ∷ []) [])) is
end_part l _ a is = cc

pub ended_part : (l : Ledger) (a : ℕ) → has_ended l a ≡ true → has_end (part l a) ≡ true
ended_part [] a is = cc
ended_part (e ∷ l) a is = at (is_end_of e a) refl is (ended_part l a)
  where
    at : (b : Bool) → is_end_of e a ≡ b → (b || has_ended l a) ≡ true → (has_ended l a ≡ true → has_end (part l a) ≡ true) → has_end (part (e ∷ l) a) ≡ true
    at true now is before = has_end_append (part l a) (part_of a (deed l e)) ∙ ap (λ b. has_end (part l a) || b) (end_part l e a now) ∙ or_right (has_end (part l a)) true refl
    at false now is before = has_end_append (part l a) (part_of a (deed l e)) ∙ ap (λ b. b || has_end (part_of a (deed l e))) (before is)

-- Parts of what is legal, patient, and drained last

pub legal_before : (k : ℕ) (es : List LedgerEvent) (l : Ledger) → LegalSoFar k (played es l) → LegalSoFar k l
legal_before k [] l legal = legal
legal_before k (e ∷ es) l legal = (legal_before k es (e ∷ l) legal).1

patient_before : (es : List LedgerEvent) (l : Ledger) → patient (played es l) ≡ true → patient l ≡ true
patient_before [] l is = is
patient_before (e ∷ es) l is = (and_parts (is_patient l (deed l e)) (patient l) (patient_before es (e ∷ l) is)).1

last_before : (es : List LedgerEvent) (l : Ledger) → drained_last (played es l) ≡ true → drained_last l ≡ true
last_before [] l is = is
last_before (e ∷ es) l is = (and_parts (is_nobodys (deed l e) || not (has_drained l)) (drained_last l) (last_before es (e ∷ l) is)).1

-- Each event may come, and its agent may do it

pub record Parted (n : ℕ) (l : Ledger) : Type 0 where
  pub closed : (a : ℕ) (ps qs : List Deed) → part l a ≡ ps ++ qs → has_end ps ≡ true → qs ≡ []
  pub known : (a : ℕ) → n ≤ a → part l a ≡ []

no_wait : (l : Ledger) (k a : ℕ) (d : Deed) → deed l (Spent k) ≡ Some (a, d) → is_wait d ≡ true → ⊥
no_wait l k a d is w = at (holder_of l k) is
  where
    at : (o : Option (ℕ × Row)) → option_map {U = ℕ × Deed} (λ p. (p.0, Spends k)) o ≡ Some (a, d) → ⊥
    at None is = cc
    at (Some p) is = let clash : is_wait (Spends k) ≡ true = ap (λ o. option_map_or (λ p. is_wait p.1) o true) is ∙ w in cc

acts_of : (n : ℕ) (x : LedgerEvent) (es : List LedgerEvent) (l : Ledger) (o : Owned) → Parted n (played (x ∷ es) l) → LegalSoFar n (x ∷ l) → deed l x ≡ o → patient (x ∷ l) ≡ true → drained_last (x ∷ l) ≡ true → Acts n l o
acts_of n x es l None parted legal is patience last = tt
acts_of n x es l (Some p) parted legal is patience last = at (is_wait p.1) refl
  where
    patient_here : (may_do (waits l p.0) p.1 ≡ true) × (may_stir (asleep l p.0) p.1 ≡ true)
    patient_here = and_parts _ _ (ap (is_patient l) (sym is) ∙ (and_parts (is_patient l (deed l x)) (patient l) patience).0)

    may : may_do (waits l p.0) p.1 ≡ true
    may = patient_here.0

    stirs : may_stir (asleep l p.0) p.1 ≡ true
    stirs = patient_here.1

    undrained : has_drained l ≡ false
    undrained = not-true _ (ap (λ o. is_nobodys o || not (has_drained l)) (sym is) ∙ (and_parts (is_nobodys (deed l x) || not (has_drained l)) (drained_last l) last).0)

    waits_so : (o : Option ℕ) → owed l ≡ o → ComesNext n l x o → is_wait p.1 ≡ true → (p.0 < n) × (has_ended l p.0 ≡ false)
    waits_so None none comes w =
        let its = (meant n l x p.0 p.1 comes is).event in
        elim (begins p.1 w) [
          | inl b ↦ let it : MayCome n l (Acted p.0 (Waiting b.0)) = subst (MayCome n l) (its ∙ ap (event_of p.0) b.1) comes in (it.0, it.5)
          | inr b ↦ let it : MayCome n l (Acted p.0 (Slept b.0 b.1 b.2)) = subst (MayCome n l) (its ∙ ap (event_of p.0) b.3) comes in (sleeper_below n l p.0 b.0 b.1 b.2 None legal.1 it, it.2)
        ]
    waits_so (Some k) owes comes w = absurd (no_wait l k p.0 p.1 (ap (deed l) (sym comes) ∙ is) w)

    at : (w : Bool) → is_wait p.1 ≡ w → Acts n l (Some p)
    at true w = let so = waits_so (owed l) refl legal.0 w in (so.0, so.1, undrained, may, stirs)
    at false quick = (known, going (has_ended l p.0) refl, undrained, may, stirs)
      where
        later : List Deed
        later = ahead es (x ∷ l) p.0

        whole : part (played (x ∷ es) l) p.0 ≡ part l p.0 ++ p.1 ∷ later
        whole = part_played (x ∷ es) l p.0 ∙ ap (λ ds. part l p.0 ++ (ds ++ later)) (part_mine p.0 p.1 (deed l x) is quick)

        some : (xs : List Deed) → xs ++ p.1 ∷ later ≡ [] → ⊥
        some [] none = cc
        some (y ∷ xs) none = cc

        known : p.0 < n
        known = elim (less_or p.0 n) [
          | inl e ↦ e
          | inr e ↦ absurd (some (part l p.0) (sym whole ∙ parted.known p.0 e))
        ]

        going : (b : Bool) → has_ended l p.0 ≡ b → has_ended l p.0 ≡ false
        going false e = e
        going true e = let none : p.1 ∷ later ≡ [] = parted.closed p.0 (part l p.0) (p.1 ∷ later) whole (ended_part l p.0 e) in cc

pub steps_of : (n : ℕ) (es : List LedgerEvent) (l : Ledger) → Parted n (played es l) → LegalSoFar n (played es l) → patient (played es l) ≡ true → drained_last (played es l) ≡ true → Steps n es l
steps_of n [] l parted legal patience last = tt
steps_of n (x ∷ es) l parted legal patience last =
    let so_far = legal_before n es (x ∷ l) legal in
    (record { legal = so_far.0; acts = acts_of n x es l (deed l x) parted so_far refl (patient_before es (x ∷ l) patience) (last_before es (x ∷ l) last) }, steps_of n es (x ∷ l) parted legal patience last)

-- The accounts

whole_at : (all : List Account) (i : ℕ) → AllByRecursion IsWhole all → i < length all → IsWhole (account_of all i)
whole_at [] i whole less = absurd (omega (arith, less))
whole_at (a ∷ all) zero whole less = whole.0
whole_at (a ∷ all) (suc i) whole less = whole_at all i whole.1 (omega (arith, less))

pub nobody_at : (all : List Account) (i : ℕ) → length all ≤ i → account_of all i ≡ nobody
nobody_at [] i less = refl
nobody_at (a ∷ all) zero less = absurd (omega (arith, less))
nobody_at (a ∷ all) (suc i) less = nobody_at all i (omega (arith, less))

account_plan : (all : List Account) (i : ℕ) (q : AgentPlan) → slice_get (map (λ a. a.plan) all) i ≡ Some q → (account_of all i).plan ≡ q
account_plan [] i q is = cc
account_plan (a ∷ all) zero q is = cc
account_plan (a ∷ all) (suc i) q is = account_plan all i q is

pub size_of : (p : Plan) (o : Outcome) (r : IsClusterOutcome p o) → length r.agents ≡ length p.agents
size_of p o r = sym (length-map r.agents (λ a. a.plan)) ∙ ap length r.runs.plans_are

pub wholes_of : (p : Plan) (o : Outcome) (r : IsClusterOutcome p o) → (i : ℕ) → i < length p.agents → IsWhole (account_of r.agents i)
wholes_of p o r i less = whole_at r.agents i r.runs.whole (let size = size_of p o r in omega (arith, size, less))

pub played_is : (es : List LedgerEvent) (l : Ledger) → played es l ≡ reverse es ++ l
played_is [] l = refl
played_is (e ∷ es) l = played_is es (e ∷ l) ∙ sym (ap (λ k. k ++ l) (reverse-append (e ∷ []) es) ∙ append_assoc (reverse es) (e ∷ []) l)

pub played_all : (o : Outcome) → played o.ledger [] ≡ reverse o.ledger
played_all o = played_is o.ledger [] ∙ append-nil (reverse o.ledger)

-- the parts of an outcome's ledger
parted_of : (p : Plan) (o : Outcome) → IsClusterOutcome p o → Parted (length p.agents) (reverse o.ledger)
parted_of p o r = record { closed = closed; known = known }
  where
    known : (a : ℕ) → length p.agents ≤ a → part (reverse o.ledger) a ≡ []
    known a beyond =
        let c = r.cluster.parts a in
        let empty = nobody_at r.agents a (let size = size_of p o r in omega (arith, size, beyond)) in
        (subst (λ b. DeedsMeet b.history (part (reverse o.ledger) a) c.0) empty c.1).0

    no_rest : (q qs : List Deed) → q ++ qs ≡ [] → qs ≡ []
    no_rest [] qs is = is
    no_rest (x ∷ q) qs is = cc

    closed : (a : ℕ) (ps qs : List Deed) → part (reverse o.ledger) a ≡ ps ++ qs → has_end ps ≡ true → qs ≡ []
    closed a ps qs is some = elim (less_or a (length p.agents)) [
      | inl e ↦ let w = wholes_of p o r a e in let c = r.cluster.parts a in after_end (account_of r.agents a).over (account_of r.agents a).plan (account_of r.agents a).history (part (reverse o.ledger) a) ps qs c.0 w.1.0 c.1 is some
      | inr e ↦ no_rest ps qs (sym is ∙ known a e)
    ]

-- The cluster before its first event

first_here : (agents n : ℕ) (ps : List AgentPlan) (i : ℕ) (b : AgentView) → slice_get (first_views agents n ps) i ≡ Some b → (q : AgentPlan) × (slice_get ps i ≡ Some q) × (b ≡ first_view agents (n + i) q)
first_here agents n [] i b is = cc
first_here agents n (p ∷ ps) zero b is =
    let found : b ≡ first_view agents n p = cc in
    (p, refl, found ∙ ap (λ m. first_view agents m p) (let same : n ≡ n + 0 = omega arith in same))
first_here agents n (p ∷ ps) (suc i) b is =
    let rest = first_here agents (n + 1) ps i b is in
    (rest.0, rest.1, rest.2 ∙ ap (λ m. first_view agents m rest.0) (let same : n + 1 + i ≡ n + suc i = omega arith in same))

first_left : (p : Plan) (o : Outcome) (r : IsClusterOutcome p o) (i m : ℕ) (q : AgentPlan) → slice_get p.agents i ≡ Some q → Left (account_of r.agents i) (first_view (length p.agents) m q) (ahead o.ledger [] i)
first_left p o r i m q is =
    let a = account_of r.agents i in
    let c = r.cluster.parts i in
    let all : part (reverse o.ledger) i ≡ ahead o.ledger [] i = ap (λ l. part l i) (sym (played_all o)) ∙ part_played o.ledger [] i in
    record {
      plan = sym (account_plan r.agents i q (ap (λ ps. slice_get ps i) r.runs.plans_are ∙ is));
      rest = reverse a.history;
      history = sym (ap (λ h. h ++ []) (reverse-reverse a.history) ∙ append-nil a.history);
      final = c.0;
      go = ap (goes true nothing_came (reverse a.history)) (sym all) ∙ ties_mean_goes a.history (part (reverse o.ledger) i) c.0 c.1;
      said = c.2;
    }

pub starts : (p : Plan) (o : Outcome) → (r : IsClusterOutcome p o) → Underway (length p.agents) r.agents (first_state p) o.ledger
starts p o r = record {
  stands = stands_anyhow p;
  going = going_first p;
  number = refl;
  legal = tt;
  whole = refl;
  steps =
      steps_of (length p.agents) o.ledger [] (subst (Parted (length p.agents)) (sym (played_all o)) (parted_of p o r)) (subst (LegalSoFar (length p.agents)) (sym (played_all o)) r.legal.0)
      (ap patient (played_all o) ∙ r.cluster.waits) (ap drained_last (played_all o) ∙ r.cluster.drains);
  strangers = λ a beyond. refl;
  waits_end = refl;
  drains_end = refl;
  left = λ i b is.
      (let at = first_here (length p.agents) 0 p.agents i b is in
      subst (λ b. Left (account_of r.agents i) b (ahead o.ledger [] i)) (sym at.2) (first_left p o r i (0 + i) at.0 at.1));
}
