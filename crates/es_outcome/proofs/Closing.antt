-- In the histories of one cluster, an agent that counts as ended has closed.
use Rattle.std.proofs.Common.{◌≡◌, ℕ, zero, suc, ◌||◌, ◌&&◌, Bool, true, false, cond, List, [], ◌∷◌, Option, Some, None, map, length, refl, sym, ap, ◌∙◌, subst, eq-eqb}
use Rattle.std.specs.Prelude.{ℤ, slice_get}
use Rattle.std.specs.List.{list_any}
use Rattle.std.specs.Option.{option_and_then, option_map_or}
use Rattle.std.proofs.lemmas.List.Folds.{list_any-append}
use Rattle.es_value.specs.declared.value.Value.{Value}
use Rattle.es_event.specs.declared.ledger_event.Body.{Body}
use Rattle.es_event.specs.declared.ledger_event.Body.TheVariants.{Plain, Block}
use Rattle.es_event.specs.declared.ledger_event.LedgerEvent.{LedgerEvent}
use Rattle.es_event.specs.declared.ledger_event.LedgerEvent.TheVariants.{Spent, Drained, Acted}
use Rattle.es_event.specs.declared.ledger_event.Act.TheVariants.{Ended}
use Rattle.es_event.specs.declared.event.Event.{Event}
use Rattle.es_event.specs.declared.event.Event.TheVariants.{Did, Refused, Closed}
use Rattle.es_event.specs.declared.event.Answer.{Answer}
use Rattle.es_event.specs.declared.command.Command.{Command}
use Rattle.es_event.specs.declared.command.Command.TheVariants.{SharedArrayBuffer, Length, SameBlock, Atomic, Post}
use Rattle.es_event.specs.declared.access.Task.{Task}
use Rattle.es_event.specs.declared.access.WaitResult.{WaitResult}
use Rattle.es_event.specs.History.{History}
use Rattle.es_event.specs.Follows.{Follows, Permits}
use Rattle.es_event.specs.Jobs.{Receivers, receivers}
use Rattle.es_event.specs.Sharing.{Buffers}
use Rattle.es_event.specs.Ledger.{Ledger, ended as has_ended, is_end_of, port_of}
use Rattle.es_event.specs.LegalLedger.{all_ended}
use Rattle.es_event.specs.Order.{ended, nothing as due_nothing, due_at, phase}
use Rattle.es_event.specs.Runs.{IsRunOver}
use Rattle.es_event.specs.Heard.{wait_given}
use Rattle.es_event.specs.Numbers.{index_of, task_of}
use Rattle.es_event.specs.Commands.{first}
use Rattle.es_ledger.specs.Draining.{drained_one, drained_each, drained_to, drained_below, after_drain}
use Rattle.es_match.specs.Asks.{Asking, nothing, to_open, to_measure, to_compare, to_access, to_post, to_receive, to_refuse, to_pass, to_empty, to_close, asks, asks_did, between_jobs, wants_room, to_miss, to_sleep, to_notify, asks_wait, asks_word, given}
use Rattle.es_match.specs.Cluster.{IsCluster, DeedsMeet, history_of}
use Rattle.es_match.specs.Deeds.{Deed, Takes, Spends, Ends, deed, part, part_of}
use Rattle.es_match.proofs.Bridge.{mapped}
use Rattle.es_match.specs.Meets.{Came, Tickets, after, is_access, is_one, is_pass, is_post, is_refusal, opening, pair, receiving, sole, some_if, spends, spends_ticket_in, strike, is_end_of_sleep, is_miss, is_notify}
use Rattle.es_agent.specs.Tickets.{is_ended}
use Rattle.es_cluster.proofs.Midway.{ended_where_all, still_over}
use Rattle.es_record.specs.AgentView.{AgentView}
use Rattle.es_cluster.proofs.Standing.{within}
use Rattle.es_cluster.specs.Ends.{with_end, with_ends}
use Rattle.es_cluster.specs.Moves.{is_over}

-- the deed is the agent's end
abbrev pub is_end : Deed → Bool
is_end Ends = true
is_end _ = false

abbrev is_closing : Event → Bool
is_closing Closed = true
is_closing _ = false

abbrev closes : Asking → Bool
closes to_close = true
closes _ = false

-- The end of an agent stands in its part

ends_here : (l : Ledger) (e : LedgerEvent) (a : ℕ) → is_end_of e a ≡ true → list_any is_end (part_of a (deed l e)) ≡ true
ends_here l (Acted b Ended) a is = ap (λ t. list_any is_end (cond (t && true) (Ends ∷ []) [])) is
ends_here l _ a is = cc

or_right : (a b : Bool) → b ≡ true → (a || b) ≡ true
or_right true b is = refl
or_right false b is = is

part_ends : (l : Ledger) (a : ℕ) → has_ended l a ≡ true → list_any is_end (part l a) ≡ true
part_ends [] a is = cc
part_ends (e ∷ l) a is = list_any-append is_end (part l a) (part_of a (deed l e)) ∙ by (is_end_of e a) refl is (part_ends l a)
  where
    by : (b : Bool) → is_end_of e a ≡ b → (b || has_ended l a) ≡ true → (has_ended l a ≡ true → list_any is_end (part l a) ≡ true)
        → (list_any is_end (part l a) || list_any is_end (part_of a (deed l e))) ≡ true
    by true here over before = or_right (list_any is_end (part l a)) _ (ends_here l e a here)
    by false here over before = ap (λ b. b || list_any is_end (part_of a (deed l e))) (before over)

-- No deed but its end meets the closing, and it meets nothing else

opening_calm : (t : Tickets) (n : ℕ) (v : Value) (d : Deed) (u : Tickets) → opening t n v d ≡ Some u → is_end d ≡ false
opening_calm t n v Ends u e = cc
opening_calm t n v _ u e = refl

receiving_calm : (t : Tickets) (s : ℕ) (v : Value) (d : Deed) (u : Tickets) → receiving t s v d ≡ Some u → is_end d ≡ false
receiving_calm t s v Ends u e = cc
receiving_calm t s v _ u e = refl

sole_calm : (f : Deed → Option Tickets) (ds : List Deed) (u : Tickets) → ((d : Deed) → f d ≡ Some u → is_end d ≡ false) → option_and_then f (sole ds) ≡ Some u → list_any is_end ds ≡ false
sole_calm f [] u each e = refl
sole_calm f (d ∷ []) u each e = ap (λ b. b || false) (each d e)
sole_calm f (d ∷ c ∷ ds) u each e = cc

one_calm : (test : Deed → Bool) (ds : List Deed) (t u : Tickets) → (test Ends ≡ false) → some_if (is_one test ds) t ≡ Some u → list_any is_end ds ≡ false
one_calm test [] t u never e = refl
one_calm test (Ends ∷ []) t u never e = let clash : some_if false t ≡ Some u = ap (λ b. some_if b t) (sym never) ∙ e in cc
one_calm test (_ ∷ []) t u never e = refl
one_calm test (d ∷ c ∷ ds) t u never e = cc

spends_calm : (m : Option Body) (d : Deed) → spends_ticket_in m d ≡ true → is_end d ≡ false
spends_calm None d is = cc
spends_calm (Some (Plain v)) d is = cc
spends_calm (Some (Block b s)) Ends is = cc
spends_calm (Some (Block b s)) _ is = refl

refusal_calm : (d c : Deed) → is_refusal d c ≡ true → (is_end d ≡ false) × (is_end c ≡ false)
refusal_calm (Takes u m w) c is = (refl, spends_calm m c is)
refusal_calm _ c is = cc

pair_calm : (ds : List Deed) (t u : Tickets) → some_if (option_map_or (λ p. is_refusal p.0 p.1) (pair ds) false) t ≡ Some u → list_any is_end ds ≡ false
pair_calm [] t u e = refl
pair_calm (d ∷ []) t u e = cc
pair_calm (d ∷ c ∷ []) t u e = by (is_refusal d c) refl e
  where
    by : (b : Bool) → is_refusal d c ≡ b → some_if b t ≡ Some u → list_any is_end (d ∷ c ∷ []) ≡ false
    by true is e = let calm = refusal_calm d c is in rw (calm.0, calm.1) refl
    by false is e = cc
pair_calm (d ∷ c ∷ b ∷ ds) t u e = cc

spent_calm : (ns : List ℕ) (ds : List Deed) → spends false ns ds ≡ true → list_any is_end ds ≡ false
spent_calm [] [] is = refl
spent_calm [] (d ∷ ds) is = cc
spent_calm (n ∷ ns) [] is = refl
spent_calm (n ∷ ns) (Spends s ∷ ds) is = by (strike s (n ∷ ns)) is (λ ms. spent_calm ms ds)
  where
    by : (o : Option (List ℕ)) → option_map_or (λ ms. spends false ms ds) o false ≡ true → ((ms : List ℕ) → spends false ms ds ≡ true → list_any is_end ds ≡ false) → list_any is_end ds ≡ false
    by None is rest = cc
    by (Some ms) is rest = rest ms is
spent_calm (n ∷ ns) (_ ∷ ds) is = cc

some_when : (b : Bool) (t u : Tickets) → some_if b t ≡ Some u → b ≡ true
some_when true t u e = refl
some_when false t u e = cc

no_sleep_ends : (t : Tickets) (b : Value) (i : ℤ) (w : ℕ) (r : WaitResult) → is_end_of_sleep t b i w r Ends ≡ false
no_sleep_ends t b i w WaitResult.Woken = refl
no_sleep_ends t b i w WaitResult.NotEqual = refl
no_sleep_ends t b i w WaitResult.TimedOut = refl

after_calm : (t : Tickets) (q : Asking) (ds : List Deed) (u : Tickets) → closes q ≡ false → after t q ds ≡ Some u → list_any is_end ds ≡ false
after_calm t nothing [] u other e = refl
after_calm t nothing (d ∷ ds) u other e = cc
after_calm t (to_open n v) ds u other e = sole_calm (opening t n v) ds u (λ d. opening_calm t n v d u) e
after_calm t (to_measure b v) [] u other e = refl
after_calm t (to_measure b v) (d ∷ ds) u other e = cc
after_calm t (to_compare b c v) [] u other e = refl
after_calm t (to_compare b c v) (d ∷ ds) u other e = cc
after_calm t (to_access b i m v) ds u other e = one_calm (is_access t b i m v) ds t u refl e
after_calm t (to_miss b i w) ds u other e = one_calm (is_miss t b i w) ds t u refl e
after_calm t (to_sleep b i w r) ds u other e = one_calm (is_end_of_sleep t b i w r) ds t u (no_sleep_ends t b i w r) e
after_calm t (to_notify b i n v) ds u other e = one_calm (is_notify t b i n v) ds t u refl e
after_calm t (to_post a v) ds u other e = one_calm (is_post t a v) ds t u refl e
after_calm t (to_receive s v) ds u other e = sole_calm (receiving t s v) ds u (λ d. receiving_calm t s v d u) e
after_calm t to_refuse ds u other e = pair_calm ds t u e
after_calm t (to_pass s) ds u other e = one_calm (is_pass s) ds t u refl e
after_calm t (to_empty ids) ds u other e = spent_calm _ ds (some_when _ _ u e)
after_calm t to_close ds u other e = cc

-- So an agent that ended closed, and nothing comes after that

closing_word : (b : Value) (i : ℤ) (t : Task) (v : Value) → closes (asks_word b i t v) ≡ false
closing_word b i (Task.Access m) v = refl
closing_word b i (Task.Sleep w) v = ended_so (wait_given v)
  where
    ended_so : (r : WaitResult) → closes (asks_wait b i w r) ≡ false
    ended_so WaitResult.Woken = refl
    ended_so WaitResult.NotEqual = refl
    ended_so WaitResult.TimedOut = refl
closing_word b i (Task.Notify n) v = refl

closing_command : (c : Command) (vs : List Value) (r : Answer) → closes (asks_did c vs r) ≡ false
closing_command (SharedArrayBuffer to n) vs r = refl
closing_command (Length to b) vs r = refl
closing_command (SameBlock to b c) vs r = refl
closing_command (Atomic a) vs r = closing_word (first vs) (index_of a vs) (task_of a vs) (given r)
closing_command (Post a y) vs r = refl
closing_command _ vs r = refl

closing_refusal : (b : Bool) → closes (cond b to_refuse nothing) ≡ false
closing_refusal true = refl
closing_refusal false = refl

closing_event : (between : Bool) (e : Event) → closes (asks between e) ≡ true → is_closing e ≡ true
closing_event between (Did (c, vs, r)) is = let clash : false ≡ true = sym (closing_command c vs r) ∙ is in cc
closing_event between (Refused code) is = let clash : false ≡ true = sym (closing_refusal (between && wants_room code)) ∙ is in cc
closing_event between Closed is = refl
closing_event between _ is = cc

ties_closed : (h : History) (ds : List Deed) (t : Came) → DeedsMeet h ds t → list_any is_end ds ≡ true → list_any is_closing h ≡ true
ties_closed [] ds t ties any = let clash : false ≡ true = ap (list_any is_end) (sym ties.0) ∙ any in cc
ties_closed (e ∷ h) ds t ties any =
    by (list_any is_end ties.0) refl (sym (list_any-append is_end ties.0 ties.1) ∙ ap (list_any is_end) (sym ties.3) ∙ any) (ties_closed h ties.0 ties.2 ties.4)
  where
    asked : (b : Bool) → closes (asks (between_jobs h) e) ≡ b → list_any is_end ties.1 ≡ true → list_any is_closing (e ∷ h) ≡ true
    asked true is some = ap (λ b. b || list_any is_closing h) (closing_event (between_jobs h) e is)
    asked false is some =
        let m = mapped _ (after ties.2.tickets (asks (between_jobs h) e) ties.1) t ties.5 in
        let clash : false ≡ true = sym (after_calm ties.2.tickets (asks (between_jobs h) e) ties.1 m.0 is m.1) ∙ some in
        cc

    by : (b : Bool) → list_any is_end ties.0 ≡ b → (b || list_any is_end ties.1) ≡ true → (list_any is_end ties.0 ≡ true → list_any is_closing h ≡ true) → list_any is_closing (e ∷ h) ≡ true
    by true is some earlier = or_right (is_closing e) (list_any is_closing h) (earlier is)
    by false is some earlier = asked (closes (asks (between_jobs h) e)) refl some

nothing_after : (over : Buffers) (into : Receivers) (h : History) (e : Event) → Permits over into h due_nothing e → ⊥
nothing_after over into h _ p = p

closed_ended : (b : AgentView) (h : History) → Follows b.over b.plan h → list_any is_closing h ≡ true → phase h ≡ ended
closed_ended b [] follows any = cc
closed_ended b (Closed ∷ h) follows any = refl
closed_ended b (e ∷ h) follows any = by (is_closing e) refl any (closed_ended b h follows.1)
  where
    by : (c : Bool) → is_closing e ≡ c → (c || list_any is_closing h) ≡ true → (list_any is_closing h ≡ true → phase h ≡ ended) → phase (e ∷ h) ≡ ended
    by true is some earlier = ends e is
      where
        ends : (e : Event) → is_closing e ≡ true → phase (e ∷ h) ≡ ended
        ends Closed is = refl
        ends _ is = cc
    by false is some earlier =
        absurd (nothing_after b.over (receivers b.plan.jobs) h e (subst (λ p. Permits b.over (receivers b.plan.jobs) h (due_at b.plan h p) e) (earlier some) follows.0))

-- All count as ended, and still do after the drain

ends_more : (n k : ℕ) (l : Ledger) → all_ended l k ≡ true → all_ended (with_end n l) k ≡ true
ends_more n k l over = by (has_ended l n)
  where
    by : (b : Bool) → all_ended (cond b l (Acted n Ended ∷ l)) k ≡ true
    by true = over
    by false = still_over (Acted n Ended) l k over

ends_this : (n : ℕ) (l : Ledger) → has_ended (with_end n l) n ≡ true
ends_this n l = by (has_ended l n) refl
  where
    by : (b : Bool) → has_ended l n ≡ b → has_ended (cond b l (Acted n Ended ∷ l)) n ≡ true
    by true is = is
    by false is = ap (λ b. b || has_ended l n) (eq-eqb n n refl)

pub ends_all : (n : ℕ) (l : Ledger) → all_ended (with_ends n l) n ≡ true
ends_all zero l = refl
ends_all (suc n) l = rw (ends_this n (with_ends n l), ends_more n n (with_ends n l) (ends_all n l)) refl

over_one : (n s r : ℕ) (m : Body) (l : Ledger) → all_ended l n ≡ true → all_ended (drained_one l s r m) n ≡ true
over_one n s r (Plain v) l over = still_over (Drained s r) l n over
over_one n s r (Block b k) l over = still_over (Spent k) (Drained s r ∷ l) n (still_over (Drained s r) l n over)

over_each : (n s r : ℕ) (ms : List Body) (l : Ledger) → all_ended l n ≡ true → all_ended (drained_each l s r ms) n ≡ true
over_each n s r [] l over = over
over_each n s r (m ∷ ms) l over = over_each n s r ms (drained_one l s r m) (over_one n s r m l over)

over_to : (n r k : ℕ) (l : Ledger) → all_ended l n ≡ true → all_ended (drained_to l r k) n ≡ true
over_to n r zero l over = over
over_to n r (suc k) l over = over_each n k r (port_of (drained_to l r k) k r) (drained_to l r k) (over_to n r k l over)

over_below : (n m : ℕ) (l : Ledger) → all_ended l n ≡ true → all_ended (drained_below l n m) n ≡ true
over_below n zero l over = over
over_below n (suc m) l over = over_to n m n (drained_below l n m) (over_below n m l over)

pub over_last : (n : ℕ) (l : Ledger) → all_ended (after_drain (with_ends n l) n) n ≡ true
over_last n l = over_below n n (with_ends n l) (ends_all n l)

-- An agent of the cluster has closed

pub history_at : (bs : List AgentView) (n : ℕ) (b : AgentView) → slice_get bs n ≡ Some b → history_of (map (λ b. b.history) bs) n ≡ b.history
history_at [] n b is = cc
history_at (c ∷ bs) zero b is = let same : c ≡ b = cc in ap (λ b. b.history) same
history_at (c ∷ bs) (suc n) b is = history_at bs n b is

pub over_in_cluster : (bs : List AgentView) (l : Ledger) (n : ℕ) (b : AgentView) → IsCluster (map (λ b. b.history) bs) l → all_ended l (length bs) ≡ true → slice_get bs n ≡ Some b → IsRunOver b.over b.plan b.history → is_over b ≡ true
over_in_cluster bs l n b cluster over is run =
    let mine = (cluster.parts n).1 in
    let any = part_ends l n (ended_where_all l (length bs) n (within bs n b is) over) in
    ap is_ended (closed_ended b b.history run.1 (ap (list_any is_closing) (sym (history_at bs n b is)) ∙ ties_closed _ (part l n) _ mine any))
