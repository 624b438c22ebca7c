-- The tickets of an agent after one more event.
use Rattle.std.proofs.Common.{◌≡◌, ℕ, ◌+◌, ◌<◌, ◌≤◌, ◌==◌, ◌&&◌, Bool, true, false, cond, not, nat_lt, sym, ◌∙◌, ap, refl, subst, arith, List, [], ◌∷◌, ◌++◌, reverse, Option, Some, None, Result, Ok, Err}
use Rattle.std.specs.Prelude.{OnOk, OnErr, IsOk, is_err, is_some}
use Rattle.std.specs.List.{filter, list_all}
use Rattle.std.proofs.lemmas.Bool.{eqb-true}
use Rattle.std.proofs.lemmas.Bool.Decides.{nat_tests}
use Rattle.std.proofs.lemmas.List.{reverse-append, reverse-reverse}
use Rattle.std.proofs.lemmas.List.Elements.{filter-append, filter_agree}
use Rattle.es_event.specs.declared.event.Answer.{Answer}
use Rattle.es_event.specs.declared.event.Event.{Event}
use Rattle.es_event.specs.declared.event.Event.TheVariants.{JobBegun, CleanupBegun, Received, Did, Refused, Emptied, Taken, JobEnded, Skipped, Closed}
use Rattle.es_event.specs.declared.plan.AgentPlan.{AgentPlan}
use Rattle.es_event.specs.declared.row.Row.{Row}
use Rattle.es_event.specs.History.{History}
use Rattle.es_event.specs.Identities.{is_in, gone, is_gone, is_there, made}
use Rattle.es_event.specs.Jobs.{Receivers, receivers}
use Rattle.es_event.specs.Sharing.{Buffers, row_at}
use Rattle.es_event.specs.Legal.{is_rising}
use Rattle.es_event.specs.Reach.{AreDead}
use Rattle.es_event.specs.Order.{Phase, between, handed, inside, stopped, ended, phase, Due, begin, receive, run, clean, take_cell, finish, end_job, close, nothing, due, due_at}
use Rattle.es_event.specs.Follows.{Permits}
use Rattle.es_event.specs.Later.{snapshot}
use Rattle.es_event.proofs.Finishing.{is_open}
use Rattle.es_tables.specs.Effects.{IsQuiet}
use Rattle.es_tables.proofs.Registering.{quiet_empties}
use Rattle.es_ticket.specs.Stakes.{at, placed, besides, is_rising_from}
use Rattle.es_ticket.proofs.Racked.{rest_rises}
use Rattle.es_record.specs.AgentView.{AgentView, IsNext, Records, with_buffer}
use Rattle.es_record.specs.Newest.{newest}
use Rattle.es_record.proofs.Buffered.{rises_added, same_row}
use Rattle.es_rules.specs.Needs.{asks_nobody, asks_marks, asks_late_marks, need_of, need, IsDone, Brings}
use Rattle.es_rules.proofs.Needs.{collects_due, finish_due}
use Rattle.es_agent.specs.Tickets.{is_ended, tickets, Admits, AreLateNow}

-- Whether the agent has closed

open_at : (over : Buffers) (into : Receivers) (plan : AgentPlan) (h : History) (p : Phase) (e : Event) → Permits over into h (due_at plan h p) e → is_ended p ≡ false
open_at over into plan h between e p = refl
open_at over into plan h handed e p = refl
open_at over into plan h inside e p = refl
open_at over into plan h stopped e p = refl
open_at over into plan h ended e p = absurd p

-- an agent to which something comes next has not closed
pub open_before : (b : AgentView) (e : Event) → IsNext b e → is_ended (phase b.history) ≡ false
open_before b e next = open_at b.over (receivers b.plan.jobs) b.plan b.history (phase b.history) e next.permitted

-- only its closing closes it
pub open_after : (h : History) (e : Event) → (e ≡ Closed → ⊥) → is_ended (phase h) ≡ false → is_ended (phase (e ∷ h)) ≡ false
open_after h (JobBegun j) other before = refl
open_after h (CleanupBegun q) other before = refl
open_after h (Received t v) other before = refl
open_after h (Did (c, vs, r)) other before = before
open_after h (Refused code) other before = refl
open_after h (Emptied ids) other before = before
open_after h (Taken n held) other before = before
open_after h JobEnded other before = refl
open_after h (Skipped j t) other before = before
open_after h Closed other before = absurd (other refl)

no_close_at : (b : AgentView) (over : Buffers) (into : Receivers) (h : History) (d : Due) → need_of b d ≡ asks_nobody → Permits over into h d Closed → ⊥
no_close_at b over into h close e p = cc
no_close_at b over into h _ e p = absurd p

-- a step that asks nobody is no closing
pub local_stays : (b : AgentView) (e : Event) → need b ≡ asks_nobody → IsNext b e → e ≡ Closed → ⊥
local_stays b Closed asked next is = no_close_at b b.over (receivers b.plan.jobs) b.history (due b.plan b.history) asked next.permitted
local_stays b _ asked next is = cc

-- Its tickets

abbrev pub still : History → ℕ × Row → Bool
still h t = not (is_gone h t.0)

pub opened : (h : History) (over : Buffers) → is_ended (phase h) ≡ false → cond (is_ended (phase h)) [] (filter (still h) (reverse over)) ≡ filter (still h) (reverse over)
opened h over is = ap (λ b. cond b [] (filter (still h) (reverse over))) is

-- an agent without buffer objects has none
pub no_tickets : (b : AgentView) → b.over ≡ [] → tickets b ≡ []
no_tickets b bare = of_closed (is_ended (phase b.history))
  where
    of_closed : (c : Bool) → cond c [] (filter (still b.history) (reverse b.over)) ≡ []
    of_closed true = refl
    of_closed false = ap (λ over. filter (still b.history) (reverse over)) bare

same_gone : (h : History) (e : Event) → IsQuiet e → gone (e ∷ h) ≡ gone h
same_gone h e quiet = ap (λ ids. ids ++ gone h) (quiet_empties e quiet)

-- an event that empties nothing, and is no closing, leaves them as they are
pub kept_tickets : (b : AgentView) (e : Event) → IsNext b e → IsQuiet e → (e ≡ Closed → ⊥) → tickets (record b { history = e ∷ b.history }) ≡ tickets b
kept_tickets b e next quiet other =
    let before = open_before b e next in
    opened (e ∷ b.history) b.over (open_after b.history e other before)
    ∙ ap (λ ids. filter (λ t. not (is_in ids t.0)) (reverse b.over)) (same_gone b.history e quiet)
    ∙ sym (opened b.history b.over before)

-- Those of what is emptied come out

pub in_both : (ids more : List ℕ) (i : ℕ) → not (is_in (ids ++ more) i) ≡ (not (is_in ids i) && not (is_in more i))
in_both [] more i = refl
in_both (j ∷ ids) more i = let rest = in_both ids more i in grind (arith, nat_tests, rest)

pub filtered_twice : {X : Type 0} (p q : X → Bool) (xs : List X) → filter (λ x. p x && q x) xs ≡ filter p (filter q xs)
filtered_twice p q [] = refl
filtered_twice p q (x ∷ xs) = of_tests (p x) (q x) refl (filtered_twice p q xs)
  where
    of_tests : (b c : Bool) → p x ≡ b → filter (λ x. p x && q x) xs ≡ filter p (filter q xs)
        → cond (b && c) (x ∷ filter (λ x. p x && q x) xs) (filter (λ x. p x && q x) xs) ≡ filter p (cond c (x ∷ filter q xs) (filter q xs))
    of_tests true true pb rest = rw pb (ap (λ l. x ∷ l) rest)
    of_tests false true pb rest = rw pb rest
    of_tests true false pb rest = rest
    of_tests false false pb rest = rest

pub emptied_tickets : (b : AgentView) (ids : List ℕ) → IsNext b (Emptied ids) → tickets (record b { history = Emptied ids ∷ b.history }) ≡ besides ids (tickets b)
emptied_tickets b ids next =
    let before = open_before b (Emptied ids) next in
    opened (Emptied ids ∷ b.history) b.over before
    ∙ filter_agree (still (Emptied ids ∷ b.history)) (λ t. not (is_in ids t.0) && still b.history t) (λ t. in_both ids (gone b.history) t.0) (reverse b.over)
    ∙ filtered_twice (λ t. not (is_in ids t.0)) (still b.history) (reverse b.over)
    ∙ ap (besides ids) (sym (opened b.history b.over before))

-- One more

abbrev all_below : ℕ → Buffers → Bool
all_below n [] = true
all_below n (t ∷ ts) = nat_lt t.0 n && all_below n ts

below_picked : (p : ℕ × Row → Bool) (n : ℕ) (ts : Buffers) → all_below n ts ≡ true → all_below n (filter p ts) ≡ true
below_picked p n [] h = refl
below_picked p n (t ∷ ts) h = one (p t) (below_picked p n ts (grind (arith, nat_tests)))
  where
    one : (b : Bool) → all_below n (filter p ts) ≡ true → all_below n (cond b (t ∷ filter p ts) (filter p ts)) ≡ true
    one true ih = grind (arith, nat_tests, ih)
    one false ih = ih

none_there : (n : ℕ) (ts : Buffers) → all_below n ts ≡ true → at n ts ≡ None
none_there n [] h = refl
none_there n (t ∷ ts) h = let rest = none_there n ts (grind (arith, nat_tests)) in grind (arith, nat_tests, rest)

placed_last : (n : ℕ) (r : Row) (ts : Buffers) → all_below n ts ≡ true → placed n r ts ≡ ts ++ (n, r) ∷ []
placed_last n r [] h = refl
placed_last n r (t ∷ ts) h =
    let rest = placed_last n r ts (grind (arith, nat_tests)) in
    let later : nat_lt n t.0 ≡ false = grind (arith, nat_tests) in
    rw later (ap (λ l. t ∷ l) rest)

-- in a rising list all are at most the last
below_last : (ts : Buffers) (n i : ℕ) (r : Row) → is_rising_from n (ts ++ (i, r) ∷ []) ≡ true → all_below i ts ≡ true
below_last [] n i r h = refl
below_last (t ∷ ts) n i r h =
    let rest = below_last ts t.0 i r (grind (arith, nat_tests)) in
    let first = first_below ts t.0 i r (grind (arith, nat_tests)) in
    grind (arith, nat_tests, rest, first)
  where
    first_below : (ts : Buffers) (n i : ℕ) (r : Row) → is_rising_from n (ts ++ (i, r) ∷ []) ≡ true → n < i
    first_below [] n i r h = grind (arith, nat_tests)
    first_below (t ∷ ts) n i r h =
        let low : n < t.0 = grind (arith, nat_tests) in
        let high = first_below ts t.0 i r (grind (arith, nat_tests)) in
        omega (arith, low, high)

-- the table with one more still rises
pub still_rises : (over : Buffers) (i : ℕ) (r : Row) → is_rising_from 0 (reverse over) ≡ true → newest over < i → is_rising_from 0 (reverse ((i, r) ∷ over)) ≡ true
still_rises over i r h above =
    ap (is_rising_from 0) (reverse-append ((i, r) ∷ []) over)
    ∙ rises_added (reverse over) i r h (subst (λ l. newest l < i) (sym (reverse-reverse over)) above)

below_all : (over : Buffers) (i : ℕ) (r : Row) → is_rising_from 0 (reverse over) ≡ true → newest over < i → all_below i (reverse over) ≡ true
below_all over i r h above = below_last (reverse over) 0 i r (ap (is_rising_from 0) (sym (reverse-append ((i, r) ∷ []) over)) ∙ still_rises over i r h above)

-- a new buffer object has no ticket yet
pub no_ticket : (b : AgentView) (i : ℕ) (r : Row) → is_rising_from 0 (reverse b.over) ≡ true → newest b.over < i → at i (tickets b) ≡ None
no_ticket b i r h above = of_closed (is_ended (phase b.history))
  where
    of_closed : (c : Bool) → at i (cond c [] (filter (still b.history) (reverse b.over))) ≡ None
    of_closed true = refl
    of_closed false = none_there i (filter (still b.history) (reverse b.over)) (below_picked (still b.history) i (reverse b.over) (below_all b.over i r h above))

-- with its ticket it comes last
pub one_more_ticket : (b : AgentView) (e : Event) (r : Row) → IsNext (with_buffer r b) e → IsQuiet e → (e ≡ Closed → ⊥) → is_rising_from 0 (reverse b.over) ≡ true → newest b.over ≤ made b.history
    → is_gone b.history (made b.history + 1) ≡ false → tickets (record (with_buffer r b) { history = e ∷ b.history }) ≡ placed (made b.history + 1) r (tickets b)
one_more_ticket b e r next quiet other h below fresh =
    let i = made b.history + 1 in
    let before = open_before (with_buffer r b) e next in
    let above : newest b.over < i = omega (arith, below) in
    let kept = filter (still b.history) (reverse b.over) in
    kept_tickets (with_buffer r b) e next quiet other
    ∙ opened b.history ((i, r) ∷ b.over) before
    ∙ ap (filter (still b.history)) (reverse-append ((i, r) ∷ []) b.over)
    ∙ filter-append (still b.history) (reverse b.over) ((i, r) ∷ [])
    ∙ ap (λ g. kept ++ cond (not g) ((i, r) ∷ []) []) fresh
    ∙ sym (placed_last i r kept (below_picked (still b.history) i (reverse b.over) (below_all b.over i r h above)))
    ∙ ap (placed i r) (sym (opened b.history b.over before))

-- The ticket of a buffer object

none_above : (n : ℕ) (ts : Buffers) (o : ℕ) → is_rising_from n ts ≡ true → o ≤ n → at o ts ≡ None
none_above n [] o h low = refl
none_above n (t ∷ ts) o h low =
    let rest = none_above t.0 ts o (grind (arith, nat_tests)) (grind (arith, nat_tests, low)) in
    grind (arith, nat_tests, rest, low)

picked_none : (p : ℕ × Row → Bool) (ts : Buffers) (o : ℕ) → at o ts ≡ None → at o (filter p ts) ≡ None
picked_none p [] o e = refl
picked_none p (t ∷ ts) o e = one (p t) (picked_none p ts o (grind (arith, nat_tests)))
  where
    one : (b : Bool) → at o (filter p ts) ≡ None → at o (cond b (t ∷ filter p ts) (filter p ts)) ≡ None
    one true ih = grind (arith, nat_tests, ih)
    one false ih = ih

picked_at : (p : ℕ × Row → Bool) (n : ℕ) (ts : Buffers) (o : ℕ) (r : Row) → is_rising_from n ts ≡ true → at o (filter p ts) ≡ Some r → at o ts ≡ Some r
picked_at p n [] o r h e = e
picked_at p n (t ∷ ts) o r h e = let rest = rest_rises n t ts h in one (p t) (t.0 == o) refl rest (λ later. picked_at p t.0 ts o r rest later) e
  where
    one : (b c : Bool) → (t.0 == o) ≡ c → is_rising_from t.0 ts ≡ true → (at o (filter p ts) ≡ Some r → at o ts ≡ Some r) → at o (cond b (t ∷ filter p ts) (filter p ts)) ≡ Some r
        → cond c (Some t.1) (at o ts) ≡ Some r
    one true true is rest ih e = rw is at e
    one true false is rest ih e = ih (rw is at e)
    one false true is rest ih e =
        let same : t.0 ≡ o = eqb-true t.0 o is in
        let none = picked_none p ts o (none_above t.0 ts o rest (omega (arith, same))) in
        let clash : ◌≡◌ {A = Option Row} None (Some r) = sym none ∙ e in cc
    one false false is rest ih e = ih e

-- it names what the table has
pub ticket_named : (b : AgentView) (o : ℕ) (r : Row) → is_rising_from 0 (reverse b.over) ≡ true → Some r ≡ at o (tickets b) → Some r ≡ row_at b.over o
ticket_named b o r h e = of_closed (is_ended (phase b.history)) e
  where
    of_closed : (c : Bool) → Some r ≡ at o (cond c [] (filter (still b.history) (reverse b.over))) → Some r ≡ row_at b.over o
    of_closed true e = cc
    of_closed false e = sym (picked_at (still b.history) 0 (reverse b.over) o r h (sym e)) ∙ (sym (same_row (reverse b.over) o h) ∙ ap (λ l. row_at l o) (reverse-reverse b.over))

-- What the agent's type says of its tickets

abbrev pub HasTickets : List (ℕ × Row) → AgentView → Type 0
HasTickets ts b = (ts ≡ tickets b) × (is_rising_from 0 (reverse b.over) ≡ true) × (newest b.over ≤ made b.history)

-- an event that leaves them as they are
pub has_after : {A E : Type 0} (r : Result A E) (ts : List (ℕ × Row)) (old new : AgentView) (e : Event) → HasTickets ts old → IsNext old e → IsQuiet e → (e ≡ Closed → ⊥) → OnOk r (Records old e new)
    → OnErr r (new ≡ old) → HasTickets ts new
has_after (Ok u) ts old new e has next quiet other ok err =
    rw ok (has.0 ∙ sym (kept_tickets old e next quiet other), has.1, (let small = has.2 in omega (arith, small)))
has_after (Err f) ts old new e has next quiet other ok err = rw err has

-- the answer of a command is one
pub done_leaves : (b : AgentView) (r : Answer) (e : Event) → IsDone b r e → IsQuiet e × (e ≡ Closed → ⊥)
done_leaves b r e is = subst (λ e. IsQuiet e × (e ≡ Closed → ⊥)) (sym is.2) (tt, λ f. cc)

-- and so is the coming of a buffer object
pub brings_leaves : (d : Due) (o : ℕ) (e : Event) → Brings d o e → IsQuiet e × (e ≡ Closed → ⊥)
brings_leaves (begin n) o e is = absurd is
brings_leaves (receive n s) o e is = subst (λ e. IsQuiet e × (e ≡ Closed → ⊥)) (sym is) (tt, λ f. cc)
brings_leaves (run x c) o e is = subst (λ e. IsQuiet e × (e ≡ Closed → ⊥)) (sym is) (tt, λ f. cc)
brings_leaves (clean r) o e is = absurd is
brings_leaves (take_cell n) o e is = absurd is
brings_leaves (finish p) o e is = absurd is
brings_leaves end_job o e is = absurd is
brings_leaves close o e is = absurd is
brings_leaves nothing o e is = absurd is

-- a buffer object that came, with its ticket put in its place
pub has_admitted : (ts : List (ℕ × Row)) (old new : AgentView) (r : Row) → HasTickets ts old → is_gone old.history (made old.history + 1) ≡ false → Admits old r new → made new.history ≡ made old.history + 1
    → HasTickets (placed (made old.history + 1) r ts) new
has_admitted ts old new r has fresh admits comes =
    let leaves = brings_leaves (due old.plan old.history) (made old.history + 1) admits.0 admits.1 in
    let small = has.2 in
    let high : newest old.over < made old.history + 1 = omega (arith, small) in
    subst (HasTickets (placed (made old.history + 1) r ts)) (sym admits.3) (
      ap (placed (made old.history + 1) r) has.0 ∙ sym (one_more_ticket old admits.0 r admits.2 leaves.0 leaves.1 has.1 has.2 fresh),
      still_rises old.over (made old.history + 1) r has.1 high,
      (let one = ap (λ b. made b.history) admits.3 in omega (arith, one, comes)),
    )

-- what was emptied, with its tickets taken out
pub has_collected : (ts : List (ℕ × Row)) (old new : AgentView) (ids : List ℕ) → HasTickets ts old → IsNext old (Emptied ids) → Records old (Emptied ids) new → HasTickets (besides ids ts) new
has_collected ts old new ids has next records =
    subst (HasTickets (besides ids ts)) (sym records)
    (ap (besides ids) has.0 ∙ sym (emptied_tickets old ids next), has.1, (let small = has.2 in omega (arith, small)))

-- a collection that is due empties all that is dead
pub dead_next : (b : AgentView) (ids : List ℕ) → need b ≡ asks_marks → AreDead (receivers b.plan.jobs) b.history ids → list_all (is_there b.history) ids ≡ true → is_rising ids ≡ true → IsNext b (Emptied ids)
dead_next b ids asked dead there rising =
    let command = collects_due b (due b.plan b.history) asked in
    record {
      lawful = (there, rising);
      permitted = subst (λ d. Permits b.over (receivers b.plan.jobs) b.history d (Emptied ids)) (sym command.1.1) (command.2, dead);
    }

-- the same, told of what the record shows
pub dead_next_of : (b q : AgentView) (ids : List ℕ) → q ≡ b → need b ≡ asks_marks → AreDead (receivers q.plan.jobs) q.history ids → list_all (is_there q.history) ids ≡ true → is_rising ids ≡ true → IsNext b (Emptied ids)
dead_next_of b q ids same asked dead there rising =
    dead_next b ids asked (subst (λ q. AreDead (receivers q.plan.jobs) q.history ids) same dead) (subst (λ q. list_all (is_there q.history) ids ≡ true) same there) rising

-- a later collection that is to be finished empties all that is late
pub late_next : (b : AgentView) (ids : List ℕ) → need b ≡ asks_late_marks → AreLateNow b ids → list_all (is_there b.history) ids ≡ true → is_rising ids ≡ true → IsNext b (Emptied ids)
late_next b ids asked late there rising =
    let at = finish_due b (due b.plan b.history) asked in
    record {
      lawful = (there, rising);
      permitted = subst (λ d. Permits b.over (receivers b.plan.jobs) b.history d (Emptied ids)) (sym at.1) (late at.0 (is_open b.plan b.history at.0 at.1));
    }

pub late_next_of : (b q : AgentView) (ids : List ℕ) → q ≡ b → need b ≡ asks_late_marks → AreLateNow q ids → list_all (is_there q.history) ids ≡ true → is_rising ids ≡ true → IsNext b (Emptied ids)
late_next_of b q ids same asked late there rising =
    late_next b ids asked (subst (λ q. AreLateNow q ids) same late) (subst (λ q. list_all (is_there q.history) ids ≡ true) same there) rising

-- where it is to be finished, it is open
pub finish_open : (b : AgentView) → need b ≡ asks_late_marks → is_some (snapshot b.history) ≡ true
finish_open b asked =
    let at = finish_due b (due b.plan b.history) asked in
    ap is_some (is_open b.plan b.history at.0 at.1)

-- where no growth was refused
pub if_no_error : {E : Type 0} (r : Result (Unit {0}) E) (P : Type 0) → is_err r ≡ false → OnOk r P → P
if_no_error (Ok u) P e p = p
if_no_error (Err f) P e p = cc

pub if_ok : {E : Type 0} (r : Result (Unit {0}) E) (P : Type 0) → IsOk r → OnOk r P → P
if_ok (Ok u) P e p = p
if_ok (Err f) P e p = cc
