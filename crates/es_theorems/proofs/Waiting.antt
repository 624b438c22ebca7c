-- What a wait at a word and a notify do, and give, is settled by what the ledger says; and whoever ends no sleep begins none.
use Rattle.std.proofs.Common.{◌≡◌, inl, inr, ℕ, ◌==◌, ◌&&◌, ◌||◌, Bool, true, false, not, sym, ◌∙◌, ap, refl, subst, List, [], ◌∷◌, ◌++◌, Option, Some, None}
use Rattle.std.specs.Prelude.{ℤ, unsigned_abs, if◌then◌else◌}
use Rattle.std.specs.List.{list_any}
use Rattle.std.specs.Option.{option_map_or}
use Rattle.std.proofs.lemmas.Bool.{and_parts, eq-eqb, eqb-true, false≢true, not-true}
use Rattle.es_value.specs.declared.value.Value.{Value}
use Rattle.es_event.specs.declared.access.Change.{Change}
use Rattle.es_event.specs.declared.access.WaitResult.{WaitResult}
use Rattle.es_event.specs.declared.event.Answer.{Answer}
use Rattle.es_event.specs.declared.event.Event.{Event}
use Rattle.es_event.specs.declared.ledger_event.Act.TheVariants.{Slept, TimedOut as TimedOutEvent, Woke}
use Rattle.es_event.specs.declared.ledger_event.LedgerEvent.TheVariants.{Accessed, Acted}
use Rattle.es_event.specs.declared.row.Row.{Row}
use Rattle.es_event.specs.declared.waiter.Waiter.{Waiter}
use Rattle.es_event.specs.Access.{is_same_change}
use Rattle.es_event.specs.Heard.{wait_given, wait_in, word_in}
use Rattle.es_event.specs.Ledger.{Ledger, holder_of, word}
use Rattle.es_event.specs.LegalLedger.{ReachesAs}
use Rattle.es_event.specs.Waiters.{asleep, block_by, is_listed, taken_there, waiter, waiters}
use Rattle.es_event.proofs.Accesses.{same_change}
use Rattle.es_match.specs.declared.deed.Sleep.{Sleep}
use Rattle.es_match.specs.Asks.{Asking, nothing, to_open, to_measure, to_compare, to_access, to_miss, to_sleep, to_notify, to_post, to_receive, to_refuse, to_pass, to_empty, to_close, asks_wait, given}
use Rattle.es_match.specs.Deeds.{Deed, Accesses, Notifies, Sleeps, TimesOut, Wakes}
use Rattle.es_match.specs.Meets.{Tickets, after, refused_in, is_end_of_sleep, is_miss, is_notify, is_number, is_one, is_sleep_at, is_ticket, same_index, ticket_in}
use Rattle.es_record.specs.AgentView.{AgentView}
use Rattle.es_agent.specs.Tickets.{tickets}
use Rattle.es_theorems.specs.Doing.{AllFit, Fits, did}
use Rattle.es_theorems.specs.Move.{Move, asked_by}
use Rattle.es_theorems.specs.Rousing.{Led, MayEnd, Way, awake, shown, sleeping, state_at}
use Rattle.es_theorems.specs.Settled.{came_row, serial_at, word_at}
use Rattle.es_theorems.proofs.Calm.{is_about_sleep}
use Rattle.es_theorems.proofs.Commands.{its_answer, its_index, its_serial, its_word, no_row, one_of, some_if_true}
use Rattle.es_theorems.proofs.Rousing.{One, all_shown, has_end, one_shown, rest_calm}
use Rattle.es_theorems.proofs.Sleepless.{met_calm}

-- Whoever ends no sleep begins none

abbrev pub is_ending : Asking → Bool
is_ending (to_sleep b i w r) = true
is_ending _ = false

-- what is not about sleep ends none
pub no_ending : (w : Asking) → is_about_sleep w ≡ false → is_ending w ≡ false
no_ending (to_sleep b i w r) off = cc
no_ending _ off = refl

end_none : (t left : Tickets) (b : Value) (i : ℤ) (n : ℕ) (v : Value) (ds : List Deed) → is_one (is_notify t b i n v) ds ≡ true → has_end ds ≡ false
end_none t left b i n v ds e = let one = one_of (is_notify t b i n v) ds e in ap has_end one.1 ∙ by one.0 one.2
  where
    by : (d : Deed) → is_notify t b i n v d ≡ true → has_end (d ∷ []) ≡ false
    by (Notifies s j m k) is = refl
    by _ is = cc

pub no_end : (t left : Tickets) (w : Asking) (ds : List Deed) → is_ending w ≡ false → after t w ds ≡ Some left → has_end ds ≡ false
no_end t left (to_notify b i n v) ds off e = end_none t left b i n v ds (some_if_true _ t left e)
no_end t left (to_sleep b i w r) ds off e = cc
no_end t left nothing ds off e = rest_calm [] ds (met_calm t left nothing ds refl e)
no_end t left (to_open n v) ds off e = rest_calm [] ds (met_calm t left (to_open n v) ds refl e)
no_end t left (to_measure b v) ds off e = rest_calm [] ds (met_calm t left (to_measure b v) ds refl e)
no_end t left (to_compare b c v) ds off e = rest_calm [] ds (met_calm t left (to_compare b c v) ds refl e)
no_end t left (to_access b i m v) ds off e = rest_calm [] ds (met_calm t left (to_access b i m v) ds refl e)
no_end t left (to_miss b i w) ds off e = rest_calm [] ds (met_calm t left (to_miss b i w) ds refl e)
no_end t left (to_post a v) ds off e = rest_calm [] ds (met_calm t left (to_post a v) ds refl e)
no_end t left (to_receive s v) ds off e = rest_calm [] ds (met_calm t left (to_receive s v) ds refl e)
no_end t left to_refuse ds off e = rest_calm [] ds (met_calm t left to_refuse ds refl e)
no_end t left (to_pass s) ds off e = rest_calm [] ds (met_calm t left (to_pass s) ds refl e)
no_end t left (to_empty ids) ds off e = rest_calm [] ds (met_calm t left (to_empty ids) ds refl e)
no_end t left to_close ds off e = rest_calm [] ds (met_calm t left to_close ds refl e)

pub as_move : (n : ℕ) (l : Ledger) (b : AgentView) (e : Event) (r : Option Row) (ds : List Deed) → is_ending (asked_by b e) ≡ false → Way n l b e r ds → Move n l b e r ds
as_move n l b e r ds off x =
    let all = (all_shown (state_at l n) ds (no_end (tickets b) x.left (asked_by b e) (shown ds) off x.met) x.led).1 in
    record {
      next = x.next;
      left = x.left;
      met = subst (λ ds. after (tickets b) (asked_by b e) ds ≡ Some x.left) all x.met;
      came = ap (ticket_in (asked_by b e)) (sym all) ∙ x.came;
      sender = ap (refused_in (asked_by b e)) (sym all) ∙ x.sender;
      fit = x.fit;
    }

-- A wait

-- how it ends, of an agent that sleeps, is in a list, and finds the word that it waits for
abbrev pub wait_end : Bool → Bool → Bool → WaitResult
wait_end true true same = WaitResult.TimedOut
wait_end true false same = WaitResult.Woken
wait_end false listed true = WaitResult.TimedOut
wait_end false listed false = WaitResult.NotEqual

-- and the ledger after it
abbrev pub left_by_wait : ℕ → ℕ → ℕ → ℕ → Ledger → Bool → Bool → Bool → Ledger
left_by_wait n s i w l true true same = Acted n TimedOutEvent ∷ l
left_by_wait n s i w l true false same = Acted n Woke ∷ l
left_by_wait n s i w l false listed true = Acted n TimedOutEvent ∷ Acted n (Slept s i w) ∷ l
left_by_wait n s i w l false listed false = Accessed s i Change.Keep (word_at l s i) ∷ l

pub record SettlesWait (n : ℕ) (l : Ledger) (s i w : ℕ) (a : Answer) (r : Option Row) (ds : List Deed) : Type 0 where
  pub ended : wait_in a ≡ wait_end (asleep l n) (is_listed l n) (word_at l s i == w)
  pub leaves : did n ds l ≡ left_by_wait n s i w l (asleep l n) (is_listed l n) (word_at l s i == w)
  pub row : r ≡ None

in_given : (a : Answer) → wait_in a ≡ wait_given (given a)
in_given Answer.Nothing = refl
in_given _ = refl

up_of : (t : Bool) → (if t then sleeping None else awake) ≡ awake → t ≡ false
up_of true is = cc
up_of false is = refl

down_of : (t : Bool) (o : Option Sleep) → MayEnd (if t then sleeping None else awake) o → t ≡ true
down_of true o may = refl
down_of false o may = absurd may

-- who began to sleep last is in the list
pub last_listed : (n : ℕ) (ws : List Waiter) (w : Waiter) → w.agent ≡ n → list_any (λ x. x.agent == n) (ws ++ w ∷ []) ≡ true
last_listed n [] w is = rw (is, eq-eqb n n refl) refl
last_listed n (x ∷ ws) w is = by (x.agent == n) (last_listed n ws w is)
  where
    by : (t : Bool) → list_any (λ x. x.agent == n) (ws ++ w ∷ []) ≡ true → (t || list_any (λ x. x.agent == n) (ws ++ w ∷ [])) ≡ true
    by true rest = refl
    by false rest = rest

pub its_word_as : (l : Ledger) (n s i w : ℕ) → ReachesAs n (holder_of l s) i (λ r. w ≡ word l r.block i) → w ≡ word_at l s i
its_word_as l n s i w is = by (holder_of l s) is
  where
    by : (o : Option (ℕ × Row)) → ReachesAs n o i (λ r. w ≡ word l r.block i) → w ≡ option_map_or (λ p. word l p.1.block i) o 0
    by None is = absurd is
    by (Some p) is = is.2

settled_as : (n : ℕ) (l : Ledger) (s i w : ℕ) (a : Answer) (r : Option Row) (ds : List Deed) (x y z : Bool) → asleep l n ≡ x → is_listed l n ≡ y → (word_at l s i == w) ≡ z → wait_in a ≡ wait_end x y z → did n ds l ≡ left_by_wait n s i w l x y z → r ≡ None
    → SettlesWait n l s i w a r ds
settled_as n l s i w a r ds x y z sleeps listed same ended leaves row = record {
  ended = ended ∙ ap (λ x. wait_end x y z) (sym sleeps) ∙ ap (λ y. wait_end (asleep l n) y z) (sym listed) ∙ ap (wait_end (asleep l n) (is_listed l n)) (sym same);
  leaves = leaves ∙ ap (λ x. left_by_wait n s i w l x y z) (sym sleeps) ∙ ap (λ y. left_by_wait n s i w l (asleep l n) y z) (sym listed) ∙ ap (left_by_wait n s i w l (asleep l n) (is_listed l n)) (sym same);
  row = row;
}

settles_miss : (n : ℕ) (l : Ledger) (t : Tickets) (v : Value) (i : ℤ) (w : ℕ) (a : Answer) (r : Option Row) (ds : List Deed)
    → wait_in a ≡ WaitResult.NotEqual → is_one (is_miss t v i w) (shown ds) ≡ true → r ≡ None → AllFit n ds l → Led (state_at l n) ds awake → SettlesWait n l (serial_at t v) (unsigned_abs i) w a r ds
settles_miss n l t v i w a r ds ends met row fit led =
    let one = one_of (is_miss t v i w) (shown ds) met in
    at one.0 one.2 (one_shown (state_at l n) ds one.0 one.1 led)
  where
    at : (d : Deed) → is_miss t v i w d ≡ true → One (state_at l n) ds d → SettlesWait n l (serial_at t v) (unsigned_abs i) w a r ds
    at (Accesses s j done old) met (inl x) =
        let parts = and_parts (is_ticket t v s) (same_index i j && (is_same_change Change.Keep done && not (old == w))) met in
        let rest = and_parts (same_index i j) (is_same_change Change.Keep done && not (old == w)) parts.1 in
        let last = and_parts (is_same_change Change.Keep done) (not (old == w)) rest.1 in
        let serial = its_serial t v s parts.0 in
        let index = its_index i j rest.0 in
        let fits : Fits l n (Accesses s j done old) = (subst (λ ds. AllFit n ds l) x.0 fit).0 in
        let word_is = its_word l s j old fits ∙ ap (λ s. word_at l s j) serial ∙ ap (word_at l (serial_at t v)) index in
        settled_as n l (serial_at t v) (unsigned_abs i) w a r ds false (is_listed l n) false (up_of (asleep l n) x.1.0) refl (ap (λ o. o == w) (sym word_is) ∙ not-true (old == w) last.1) ends
        (
        ap (λ ds. did n ds l) x.0 ∙ ap (λ s. Accessed s j done old ∷ l) serial ∙ ap (λ j. Accessed (serial_at t v) j done old ∷ l) index
        ∙ ap (λ done. Accessed (serial_at t v) (unsigned_abs i) done old ∷ l) (same_change Change.Keep done last.0)
        ∙ ap (λ old. Accessed (serial_at t v) (unsigned_abs i) Change.Keep old ∷ l) word_is
        ) row
    at (Accesses s j done old) met (inr x) = cc
    at _ met x = cc

settles_woken : (n : ℕ) (l : Ledger) (t : Tickets) (v : Value) (i : ℤ) (w : ℕ) (a : Answer) (r : Option Row) (ds : List Deed)
    → wait_in a ≡ WaitResult.Woken → is_one (is_end_of_sleep t v i w WaitResult.Woken) (shown ds) ≡ true → r ≡ None → AllFit n ds l → Led (state_at l n) ds awake → SettlesWait n l (serial_at t v) (unsigned_abs i) w a r ds
settles_woken n l t v i w a r ds ends met row fit led =
    let one = one_of (is_end_of_sleep t v i w WaitResult.Woken) (shown ds) met in
    at one.0 one.2 (one_shown (state_at l n) ds one.0 one.1 led)
  where
    at : (d : Deed) → is_end_of_sleep t v i w WaitResult.Woken d ≡ true → One (state_at l n) ds d → SettlesWait n l (serial_at t v) (unsigned_abs i) w a r ds
    at (Wakes o) met (inl x) =
        let fits : Fits l n (Wakes o) = (subst (λ ds. AllFit n ds l) x.0 fit).0 in
        settled_as n l (serial_at t v) (unsigned_abs i) w a r ds true false (word_at l (serial_at t v) (unsigned_abs i) == w) (down_of (asleep l n) o x.1.0) fits refl ends (ap (λ ds. did n ds l) x.0) row
    at (Wakes o) met (inr x) =
        let fits = (subst (λ ds. AllFit n ds l) x.4 fit).1.0 in
        absurd (false≢true (sym fits ∙ last_listed n (waiters l) (waiter n (block_by l x.0) x.1) refl))
    at _ met x = cc

settles_timed_out : (n : ℕ) (l : Ledger) (t : Tickets) (v : Value) (i : ℤ) (w : ℕ) (a : Answer) (r : Option Row) (ds : List Deed)
    → wait_in a ≡ WaitResult.TimedOut → is_one (is_end_of_sleep t v i w WaitResult.TimedOut) (shown ds) ≡ true → r ≡ None → AllFit n ds l → Led (state_at l n) ds awake → SettlesWait n l (serial_at t v) (unsigned_abs i) w a r ds
settles_timed_out n l t v i w a r ds ends met row fit led =
    let one = one_of (is_end_of_sleep t v i w WaitResult.TimedOut) (shown ds) met in
    at one.0 one.2 (one_shown (state_at l n) ds one.0 one.1 led)
  where
    at : (d : Deed) → is_end_of_sleep t v i w WaitResult.TimedOut d ≡ true → One (state_at l n) ds d → SettlesWait n l (serial_at t v) (unsigned_abs i) w a r ds
    at (TimesOut o) met (inl x) =
        let fits : Fits l n (TimesOut o) = (subst (λ ds. AllFit n ds l) x.0 fit).0 in
        settled_as n l (serial_at t v) (unsigned_abs i) w a r ds true true (word_at l (serial_at t v) (unsigned_abs i) == w) (down_of (asleep l n) o x.1.0) fits refl ends (ap (λ ds. did n ds l) x.0) row
    at (TimesOut o) met (inr x) =
        let k = x.0 in
        let j = x.1 in
        let u = x.2 in
        let began : is_sleep_at t v i w (Some (record { serial = k; index = j; word = u })) ≡ true = subst (λ o. is_sleep_at t v i w o ≡ true) x.5.0 met in
        let parts = and_parts (is_ticket t v k) (same_index i j && (u == w)) began in
        let rest = and_parts (same_index i j) (u == w) parts.1 in
        let serial = its_serial t v k parts.0 in
        let index = its_index i j rest.0 in
        let word_of = eqb-true u w rest.1 in
        let fits : Fits l n (Sleeps k j u) = (subst (λ ds. AllFit n ds l) x.4 fit).0 in
        let word_is = its_word_as l n k j u fits ∙ ap (λ s. word_at l s j) serial ∙ ap (word_at l (serial_at t v)) index in
        settled_as n l (serial_at t v) (unsigned_abs i) w a r ds false (is_listed l n) true (up_of (asleep l n) x.3) refl (eq-eqb (word_at l (serial_at t v) (unsigned_abs i)) w (sym word_is ∙ word_of)) ends
        (
        ap (λ ds. did n ds l) x.4 ∙ ap (λ s. Acted n TimedOutEvent ∷ Acted n (Slept s j u) ∷ l) serial ∙ ap (λ j. Acted n TimedOutEvent ∷ Acted n (Slept (serial_at t v) j u) ∷ l) index
        ∙ ap (λ u. Acted n TimedOutEvent ∷ Acted n (Slept (serial_at t v) (unsigned_abs i) u) ∷ l) word_of
        ) row
    at _ met x = cc

pub settles_wait : (n : ℕ) (l : Ledger) (t left : Tickets) (m : ℕ) (v : Value) (i : ℤ) (w : ℕ) (a : Answer) (r : Option Row) (ds : List Deed)
    → after t (asks_wait v i w (wait_given (given a))) (shown ds) ≡ Some left → ticket_in (asks_wait v i w (wait_given (given a))) (shown ds) ≡ came_row m r → AllFit n ds l → Led (state_at l n) ds awake
    → SettlesWait n l (serial_at t v) (unsigned_abs i) w a r ds
settles_wait n l t left m v i w a r ds met came fit led = by (wait_given (given a)) refl met came
  where
    by : (how : WaitResult) → wait_given (given a) ≡ how → after t (asks_wait v i w how) (shown ds) ≡ Some left → ticket_in (asks_wait v i w how) (shown ds) ≡ came_row m r → SettlesWait n l (serial_at t v) (unsigned_abs i) w a r ds
    by WaitResult.NotEqual is met came = settles_miss n l t v i w a r ds (in_given a ∙ is) (some_if_true _ t left met) (no_row m r came) fit led
    by WaitResult.Woken is met came = settles_woken n l t v i w a r ds (in_given a ∙ is) (some_if_true _ t left met) (no_row m r came) fit led
    by WaitResult.TimedOut is met came = settles_timed_out n l t v i w a r ds (in_given a ∙ is) (some_if_true _ t left met) (no_row m r came) fit led

-- one that was awake, and found the word, slept and timed out
pub slept_through : (n : ℕ) (l : Ledger) (t left : Tickets) (m : ℕ) (v : Value) (i : ℤ) (w : ℕ) (a : Answer) (r : Option Row) (ds : List Deed)
    → asleep l n ≡ false → word_at l (serial_at t v) (unsigned_abs i) ≡ w → after t (asks_wait v i w (wait_given (given a))) (shown ds) ≡ Some left → ticket_in (asks_wait v i w (wait_given (given a))) (shown ds) ≡ came_row m r → AllFit n ds l
    → Led (state_at l n) ds awake → (p : Option Sleep) × (ds ≡ Sleeps (serial_at t v) (unsigned_abs i) w ∷ TimesOut p ∷ [])
slept_through n l t left m v i w a r ds up found met came fit led =
    let all = settles_wait n l t left m v i w a r ds met came fit led in
    let how : wait_given (given a) ≡ WaitResult.TimedOut =
    sym (in_given a) ∙ all.ended ∙ ap (λ x. wait_end x (is_listed l n) (word_at l (serial_at t v) (unsigned_abs i) == w)) up ∙ ap (wait_end false (is_listed l n)) (eq-eqb (word_at l (serial_at t v) (unsigned_abs i)) w found) in
    let one = one_of (is_end_of_sleep t v i w WaitResult.TimedOut) (shown ds) (some_if_true _ t left (ap (λ h. after t (asks_wait v i w h) (shown ds)) (sym how) ∙ met)) in
    at one.0 one.2 (one_shown (state_at l n) ds one.0 one.1 led)
  where
    at : (d : Deed) → is_end_of_sleep t v i w WaitResult.TimedOut d ≡ true → One (state_at l n) ds d → (p : Option Sleep) × (ds ≡ Sleeps (serial_at t v) (unsigned_abs i) w ∷ TimesOut p ∷ [])
    at (TimesOut o) met (inl x) = absurd (false≢true (sym up ∙ down_of (asleep l n) o x.1.0))
    at (TimesOut o) met (inr x) =
        let k = x.0 in
        let j = x.1 in
        let u = x.2 in
        let began : is_sleep_at t v i w (Some (record { serial = k; index = j; word = u })) ≡ true = subst (λ o. is_sleep_at t v i w o ≡ true) x.5.0 met in
        let parts = and_parts (is_ticket t v k) (same_index i j && (u == w)) began in
        let rest = and_parts (same_index i j) (u == w) parts.1 in (
          o,
          x.4 ∙ ap (λ s. Sleeps s j u ∷ TimesOut o ∷ []) (its_serial t v k parts.0) ∙ ap (λ j. Sleeps (serial_at t v) j u ∷ TimesOut o ∷ []) (its_index i j rest.0)
              ∙ ap (λ u. Sleeps (serial_at t v) (unsigned_abs i) u ∷ TimesOut o ∷ []) (eqb-true u w rest.1),
        )
    at _ met x = cc

-- A notify

-- how many it takes at the word that is reached through the ticket of this serial
abbrev pub taken_at : Ledger → ℕ → ℕ → ℕ → ℕ
taken_at l s i c = option_map_or (λ p. taken_there l p.1.block i c) (holder_of l s) 0

its_taken : (l : Ledger) (n s i c k : ℕ) → ReachesAs n (holder_of l s) i (λ r. k ≡ taken_there l r.block i c) → k ≡ taken_at l s i c
its_taken l n s i c k is = by (holder_of l s) is
  where
    by : (o : Option (ℕ × Row)) → ReachesAs n o i (λ r. k ≡ taken_there l r.block i c) → k ≡ option_map_or (λ p. taken_there l p.1.block i c) o 0
    by None is = absurd is
    by (Some p) is = is.2

pub record SettlesNotify (l : Ledger) (s i c : ℕ) (a : Answer) (r : Option Row) (ds : List Deed) : Type 0 where
  pub took : word_in a ≡ taken_at l s i c
  pub deeds : ds ≡ Notifies s i c (taken_at l s i c) ∷ []
  pub row : r ≡ None

pub settles_notify : (n : ℕ) (l : Ledger) (t left : Tickets) (m : ℕ) (v : Value) (i : ℤ) (c : ℕ) (a : Answer) (r : Option Row) (ds : List Deed)
    → after t (to_notify v i c (given a)) ds ≡ Some left → ticket_in (to_notify v i c (given a)) ds ≡ came_row m r → AllFit n ds l → SettlesNotify l (serial_at t v) (unsigned_abs i) c a r ds
settles_notify n l t left m v i c a r ds met came fit =
    let one = one_of (is_notify t v i c (given a)) ds (some_if_true _ t left met) in
    at one.0 one.2 (subst (λ ds. AllFit n ds l) one.1 fit).0 one.1
  where
    at : (d : Deed) → is_notify t v i c (given a) d ≡ true → Fits l n d → ds ≡ d ∷ [] → SettlesNotify l (serial_at t v) (unsigned_abs i) c a r ds
    at (Notifies s j q k) met fits is =
        let parts = and_parts (is_ticket t v s) (same_index i j && ((q == c) && is_number (given a) k)) met in
        let rest = and_parts (same_index i j) ((q == c) && is_number (given a) k) parts.1 in
        let last = and_parts (q == c) (is_number (given a) k) rest.1 in
        let serial = its_serial t v s parts.0 in
        let index = its_index i j rest.0 in
        let count = eqb-true q c last.0 in
        let many = its_taken l n s j q k fits ∙ ap (λ s. taken_at l s j q) serial ∙ ap (λ j. taken_at l (serial_at t v) j q) index ∙ ap (taken_at l (serial_at t v) (unsigned_abs i)) count in
        record {
          took = its_answer a k last.1 ∙ many;
          deeds = is ∙ ap (λ s. Notifies s j q k ∷ []) serial ∙ ap (λ j. Notifies (serial_at t v) j q k ∷ []) index ∙ ap (λ q. Notifies (serial_at t v) (unsigned_abs i) q k ∷ []) count
              ∙ ap (λ k. Notifies (serial_at t v) (unsigned_abs i) c k ∷ []) many;
          row = no_row m r came;
        }
    at _ met fits is = cc
