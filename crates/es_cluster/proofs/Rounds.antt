-- What a turn of one agent tells of who moves next, in a cluster.
use Rattle.std.proofs.Common.{◌≡◌, ℕ, zero, suc, ◌+◌, ◌<◌, ◌==◌, ◌&&◌, ◌||◌, Bool, true, false, cond, not, sym, ◌∙◌, ap, refl, subst, arith, List, [], ◌∷◌, ◌++◌, Option, Some, None, ◌⊎◌, inl, inr}
use Rattle.std.specs.Prelude.{slice_get}
use Rattle.std.specs.List.{list_any, position_from}
use Rattle.std.proofs.lemmas.Bool.{and_parts, cases_Bool, eqb-true, eqb-false}
use Rattle.es_event.specs.declared.event.Event.{Event}
use Rattle.es_event.specs.Later.{collects_now}
use Rattle.es_event.specs.Follows.{Permits}
use Rattle.es_event.specs.History.{History}
use Rattle.es_event.specs.Jobs.{receivers, Receivers}
use Rattle.es_event.specs.declared.ledger_event.LedgerEvent.{LedgerEvent}
use Rattle.es_event.specs.Ledger.{Ledger, ended, waits}
use Rattle.es_event.specs.declared.access.Task.{Task}
use Rattle.es_event.specs.declared.ledger_event.LedgerEvent.TheVariants.{Acted}
use Rattle.es_event.specs.declared.ledger_event.Act.TheVariants.{TimedOut, Woke}
use Rattle.es_event.specs.declared.row.Row.{Row}
use Rattle.es_event.specs.declared.waiter.Waiter.{Waiter}
use Rattle.es_event.specs.Waiters.{asleep, block_by, is_listed, waiter, waiters}
use Rattle.es_event.specs.LegalLedger.{LegalSoFar, has_message, is_stuck, all_stuck, all_ended, is_chosen}
use Rattle.es_event.specs.Order.{Due, begin, receive, run, clean, take_cell, finish, end_job, close, nothing, due}
use Rattle.es_event.specs.Sharing.{Buffers}
use Rattle.es_ledger.specs.LedgerView.{LedgerView}
use Rattle.es_ledger.specs.Turns.{asked}
use Rattle.es_ledger.specs.Sleeps.{rested, roused}
use Rattle.es_ledger.specs.declared.turn.Turn.{Turn}
use Rattle.es_ledger.specs.declared.turn.Turn.TheVariants.{Ready, Stay, Skip}
use Rattle.es_match.specs.declared.deed.Sleep.{Sleep}
use Rattle.es_match.specs.Deeds.{sleep_of}
use Rattle.es_agent.specs.Tickets.{tickets}
use Rattle.es_cluster.specs.Midway.{asks_to_sleep}
use Rattle.es_cluster.specs.Tied.{AsksFor, IsTied}
use Rattle.es_cluster.specs.Turned.{MayWait, SleepsOn, WaitsOn, WaitsRightly, GrowsByOne}
use Rattle.es_cluster.specs.declared.member.Progress.{Progress}
use Rattle.es_cluster.specs.declared.member.Progress.TheVariants.{Moved, Waiting, Ended}
use Rattle.es_record.specs.AgentView.{AgentView, with_row}
use Rattle.es_rules.specs.Needs.{Request, for_word, request, Need, asks_nobody, asks_marks, asks_copy, asks_late_marks, asks_ledger, asks_message, asks_closing, asks_nothing, ledger_or_nobody, opens_now, need_of, need}
use Rattle.es_cluster.specs.Asked.{Hears}
use Rattle.es_cluster.specs.Moves.{goes_on_by, goes_on, is_over, or_else}
use Rattle.es_cluster.specs.State.{ClusterView, ArePlaced, AreTied}
use Rattle.es_cluster.specs.Turns.{Turned}
use Rattle.es_cluster.proofs.Asking.{ticket_row}
use Rattle.es_cluster.proofs.Finishing.{not_false, same_agents}
use Rattle.es_cluster.proofs.Growing.{apart}
use Rattle.es_cluster.proofs.Midway.{awake}
use Rattle.es_cluster.proofs.Mover.{vain, by_asked, first_at, none_at_all, is_settled, settled_at, settled_stays, over_asks_nothing, asked_lists, asked_message, asked_ends, asked_settled, asked_waits, asked_awaits, StaysHere, stays_here, goes_or_chosen}
use Rattle.es_cluster.proofs.Sleeping.{a_sleep, begun_at, by_rest, no_message, roused_stays, sleeps_now, some_turn}
use Rattle.es_cluster.proofs.Resting.{nothing_over}
use Rattle.es_ledger.proofs.Waking.{awake_unlisted, listed_asleep}
use Rattle.es_cluster.proofs.Standing.{within}

-- An agent that asks for nothing does not move

no_request : {P : Type 0} (collects opens : Bool) (q : Option Request) → cond collects asks_marks (cond opens asks_copy (ledger_or_nobody q)) ≡ asks_nothing → P
no_request true opens q is = cc
no_request false true q is = cc
no_request false false None is = cc
no_request false false (Some r) is = cc

nothing_permitted : (b : AgentView) (over : Buffers) (into : Receivers) (h : History) (d : Due) (e : Event) → need_of b d ≡ asks_nothing → Permits over into h d e → ⊥
nothing_permitted b over into h (begin n) e is p = cc
nothing_permitted b over into h (receive n s) e is p = cc
nothing_permitted b over into h (run x c) e is p = no_request (collects_now b.history c) (opens_now b.history c) (request b c) is
nothing_permitted b over into h (clean r) e is p = cc
nothing_permitted b over into h (take_cell n) e is p = cc
nothing_permitted b over into h (finish q) e is p = cc
nothing_permitted b over into h end_job e is p = cc
nothing_permitted b over into h close e is p = cc
nothing_permitted b over into h nothing e is p = p

nothing_moves : (old new : AgentView) → need old ≡ asks_nothing → GrowsByOne old new → ⊥
nothing_moves old new is step = nothing_permitted old (with_row step.1 old).over (receivers old.plan.jobs) old.history (due old.plan old.history) step.0 is step.2.permitted

-- The mover

goes_same : (l k : Ledger) (b : AgentView) → ((t r : ℕ) → has_message k t r ≡ has_message l t r) → ((t : ℕ) → ended k t ≡ ended l t) → ((t : ℕ) → is_listed k t ≡ is_listed l t) → goes_on k b ≡ goes_on l b
goes_same l k b messages ends lists = at (need b)
  where
    at : (n : Need) → goes_on_by k b.number n ≡ goes_on_by l b.number n
    at asks_nobody = refl
    at asks_marks = refl
    at asks_copy = refl
    at asks_late_marks = refl
    at (asks_ledger r) = ap not (lists b.number)
    at (asks_message s) = rw (messages s b.number, ends s) refl
    at asks_closing = refl
    at asks_nothing = refl

below_ended : (l : Ledger) (n i : ℕ) → all_ended l n ≡ true → i < n → ended l i ≡ true
below_ended l zero i all less = absurd (omega (arith, less))
below_ended l (suc n) i all less = elim (cases_Bool (i == n)) [
  | inl e ↦ ap (ended l) (eqb-true i n e) ∙ (and_parts (ended l n) (all_ended l n) all).0
  | inr e ↦ let other = eqb-false i n e in below_ended l n i (and_parts (ended l n) (all_ended l n) all).1 (below i n less other)
]
  where
    below : (i n : ℕ) → i < suc n → (i ≡ n → ⊥) → i < n
    below i n less other = omega (arith, less, other)

module _ (bs : List AgentView) (l : LedgerView) (placed : ArePlaced bs l) (tied : AreTied bs l) (legal : LegalSoFar l.agents l.history) where
  over_of : (i : ℕ) (y : AgentView) → slice_get bs i ≡ Some y → ended l.history y.number ≡ is_over y
  over_of i y is = (placed.each i y is).seated.over

  awaits_of : (i : ℕ) (y : AgentView) → slice_get bs i ≡ Some y → (s : ℕ) → waits l.history y.number ≡ Some s → need y ≡ asks_message s
  awaits_of i y is = (tied.each i y is).awaits

  -- who is in a WaiterList asks for its sleep
  asks_of : (i : ℕ) (y : AgentView) → slice_get bs i ≡ Some y → asleep l.history y.number ≡ true → (q : Sleep) × (sleep_of l.history y.number ≡ Some q) × AsksFor y q
  asks_of i y is sleeping = let q = a_sleep l.history y.number sleeping in (q.0, q.1, (tied.each i y is).sleeps q.0 q.1)

  lists_of : (i : ℕ) (y : AgentView) → slice_get bs i ≡ Some y → is_listed l.history y.number ≡ true → (r : Request) × (need y ≡ asks_ledger r)
  lists_of i y is listed = let asks = asks_of i y is (listed_asleep l.agents l.history y.number legal listed) in (for_word asks.2.0 asks.0.index (Task.Sleep asks.0.word), asks.2.1)

  lower_stay : (n : ℕ) → all_stuck l.history n ≡ true → (i : ℕ) (y : AgentView) → i < n → slice_get bs i ≡ Some y → goes_on l.history y ≡ false
  lower_stay n all i y less is =
      settled_stays l.history y (over_of i y is) (lists_of i y is) (awaits_of i y is) (ap (is_settled l.history) (placed.each i y is).number ∙ settled_at l.history n i all less)

  module _ (n : ℕ) (b : AgentView) (here : slice_get bs n ≡ Some b) where
    number_is : b.number ≡ n
    number_is = (placed.each n b here).number

    -- where none goes on, and it is the lowest that has not ended, it is the mover
    lowest : ((i : ℕ) (y : AgentView) → slice_get bs i ≡ Some y → goes_on l.history y ≡ false) → ((i : ℕ) (y : AgentView) → i < n → slice_get bs i ≡ Some y → not (is_over y) ≡ false) → not (is_over b) ≡ true
        → or_else (position_from (goes_on l.history) 0 bs) (position_from (λ b. not (is_over b)) 0 bs) ≡ Some n
    lowest none lower left =
        ap (λ o. or_else o (position_from (λ b. not (is_over b)) 0 bs)) (none_at_all (goes_on l.history) bs none)
        ∙ first_at (λ b. not (is_over b)) bs n b lower here left

    -- of all agents none can go on, and it is the lowest that has not ended
    mover_lowest : (k : Ledger) → ((t : ℕ) → ended k t ≡ ended l.history t) → ((t r : ℕ) → has_message k t r ≡ has_message l.history t r) → ((t : ℕ) → is_listed k t ≡ is_listed l.history t)
        → ((i : ℕ) (y : AgentView) → slice_get bs i ≡ Some y → (t : ℕ) → waits k y.number ≡ Some t → need y ≡ asks_message t) → is_chosen k l.agents b.number ≡ true
        → or_else (position_from (goes_on l.history) 0 bs) (position_from (λ b. not (is_over b)) 0 bs) ≡ Some n
    mover_lowest k ends messages lists awaits chosen = lowest none lower left
      where
        parts : (all_stuck k l.agents ≡ true) × ((all_ended k b.number && not (ended k b.number)) ≡ true)
        parts = and_parts (all_stuck k l.agents) (all_ended k b.number && not (ended k b.number)) chosen

        rest : (all_ended k b.number ≡ true) × (not (ended k b.number) ≡ true)
        rest = and_parts (all_ended k b.number) (not (ended k b.number)) parts.1

        none : (i : ℕ) (y : AgentView) → slice_get bs i ≡ Some y → goes_on l.history y ≡ false
        none i y at =
            sym (goes_same l.history k y messages ends lists)
            ∙ settled_stays k y (ends y.number ∙ over_of i y at) (λ listed. lists_of i y at (sym (lists y.number) ∙ listed)) (awaits i y at) (ap (is_settled k) (placed.each i y at).number ∙ settled_at k l.agents i parts.0 (let size = placed.size in let inside = within bs i y at in omega (arith, size, inside)))

        lower : (i : ℕ) (y : AgentView) → i < n → slice_get bs i ≡ Some y → not (is_over y) ≡ false
        lower i y less at =
            ap not (sym (over_of i y at) ∙ sym (ends y.number) ∙ (ap (ended k) (placed.each i y at).number ∙ below_ended k b.number i rest.0 (let same = number_is in omega (arith, same, less))))

        left : not (is_over b) ≡ true
        left = ap not (sym (over_of n b here) ∙ sym (ends b.number)) ∙ rest.1

    -- once it asks, all wait in vain, and it is the lowest of them
    mover_chosen : (s : ℕ) → need b ≡ asks_message s → is_chosen (asked l.history b.number s) l.agents b.number ≡ true
        → or_else (position_from (goes_on l.history) 0 bs) (position_from (λ b. not (is_over b)) 0 bs) ≡ Some n
    mover_chosen s is chosen = mover_lowest k (asked_ends l.history b.number s) (asked_message l.history b.number s) (asked_lists l.history b.number s) awaits chosen
      where
        k : Ledger
        k = asked l.history b.number s

        awaits : (i : ℕ) (y : AgentView) → slice_get bs i ≡ Some y → (t : ℕ) → waits k y.number ≡ Some t → need y ≡ asks_message t
        awaits i y at t waiting = elim (cases_Bool (i == n)) [
          | inl e ↦
              let same : y ≡ b = let found = sym at ∙ (ap (slice_get bs) (eqb-true i n e) ∙ here) in cc in
              let heard : Some s ≡ Some t = sym (asked_awaits b l.history s (awake b l.history (tied.each n b here) (ap asks_to_sleep is)) (awaits_of n b here) is) ∙ (ap (λ (y : AgentView). waits k y.number) (sym same) ∙ waiting) in
              let sender : s ≡ t = cc in
              ap need same ∙ is ∙ ap asks_message sender
          | inr e ↦
              let other = eqb-false i n e in
              awaits_of i y at t (sym (asked_waits l.history b.number s y.number (λ same. other (sym (placed.each i y at).number ∙ same ∙ number_is))) ∙ waiting)
        ]

    -- one that is in a WaiterList and goes on is the lowest of agents that all wait or sleep in vain
    sleeper_chosen : (m : LedgerView) → WaitsRightly Moved b l m → is_listed l.history b.number ≡ true → is_chosen l.history l.agents b.number ≡ true
    sleeper_chosen m heard listed = by_choice (is_chosen l.history l.agents b.number) refl
      where
        sleeping : asleep l.history b.number ≡ true
        sleeping = listed_asleep l.agents l.history b.number legal listed

        by_choice : (c : Bool) → is_chosen l.history l.agents b.number ≡ c → is_chosen l.history l.agents b.number ≡ true
        by_choice true c = c
        by_choice false c =
            let asks = asks_of n b here sleeping in
            let row = ticket_row (tickets b) asks.2.0 asks.0.serial asks.2.2 in
            let stays : (rested l.history l.agents b.number row.0 asks.0.index asks.0.word).0 ≡ Some Stay = rw (sleeping, listed, c) refl in
            absurd (heard.1 asks.2.0 asks.0.index asks.0.word row.0 asks.2.1 row.1 stays)

    -- one that goes on, where all lower ones wait or sleep in vain
    goer_moves : all_stuck l.history n ≡ true → goes_on l.history b ≡ true → or_else (position_from (goes_on l.history) 0 bs) (position_from (λ b. not (is_over b)) 0 bs) ≡ Some n
    goer_moves all g = ap (λ o. or_else o (position_from (λ b. not (is_over b)) 0 bs)) (first_at (goes_on l.history) bs n b (lower_stay n all) here g)

    mover_is : (new : AgentView) (m : LedgerView) → GrowsByOne b new → WaitsRightly Moved b l m → all_stuck l.history n ≡ true → or_else (position_from (goes_on l.history) 0 bs) (position_from (λ b. not (is_over b)) 0 bs) ≡ Some n
    mover_is new m step heard all = by_going (goes_on l.history b) refl
      where
        stays : (d : Need) → need b ≡ d → goes_on_by l.history b.number d ≡ false → or_else (position_from (goes_on l.history) 0 bs) (position_from (λ b. not (is_over b)) 0 bs) ≡ Some n
        stays asks_nobody is not_on = cc
        stays asks_marks is not_on = cc
        stays asks_copy is not_on = cc
        stays asks_late_marks is not_on = cc
        stays (asks_ledger r) is not_on = mover_lowest l.history (λ t. refl) (λ t r. refl) (λ t. refl) awaits_of (sleeper_chosen m heard (not_false (is_listed l.history b.number) not_on))
        stays (asks_message s) is not_on = mover_chosen s is (goes_or_chosen b l.history l.agents s (awake b l.history (tied.each n b here) (ap asks_to_sleep is)) (awaits_of n b here) is (heard.0 s is) (ap (goes_on_by l.history b.number) is ∙ not_on))
        stays asks_closing is not_on = cc
        stays asks_nothing is not_on = absurd (nothing_moves b new is step)

        by_going : (g : Bool) → goes_on l.history b ≡ g → or_else (position_from (goes_on l.history) 0 bs) (position_from (λ b. not (is_over b)) 0 bs) ≡ Some n
        by_going true g = goer_moves all g
        by_going false g = stays (need b) refl g

-- What is heard

legal_rest : (n : ℕ) (es : List LedgerEvent) (l : Ledger) → LegalSoFar n (es ++ l) → LegalSoFar n l
legal_rest n [] l legal = legal
legal_rest n (e ∷ es) l legal = legal_rest n es l legal.1

legal_before : (p : Progress) (n : ℕ) (old new : ClusterView) → Turned p n old new → LegalSoFar old.ledger.agents old.ledger.history
legal_before p n old new t = legal_rest old.ledger.agents t.ledger.0 old.ledger.history (subst (LegalSoFar old.ledger.agents) t.ledger.1 (subst (λ k. LegalSoFar k new.ledger.history) t.number t.legal.0))

-- One that waits or sleeps on

settled : (k : Ledger) (a : ℕ) → is_stuck k a ≡ true → (e : Bool) → ended k a ≡ e → is_settled k a ≡ true
settled k a stuck true e = ap (λ e. e || is_stuck k a) e
settled k a stuck false e = ap (λ e. e || is_stuck k a) e ∙ stuck

-- it waits or sleeps in vain then, and is not the lowest of agents that all do; and nothing else has changed
record StaysThere (l k : Ledger) (agents a : ℕ) : Type 0 where
  stuck : is_stuck k a ≡ true
  unchosen : is_chosen k agents a ≡ false
  others : (t : ℕ) → (t ≡ a → ⊥) → is_settled k t ≡ is_settled l t
  ends : (t : ℕ) → ended k t ≡ ended l t

-- for a message
waits_there : (l k : Ledger) (agents : ℕ) (b : AgentView) (s : ℕ) → StaysHere l k agents b s → StaysThere l k agents b.number
waits_there l k agents b s here = record {
  stuck = here.stuck;
  unchosen = here.unchosen;
  others = λ t other. ap (λ k. is_settled k t) here.history ∙ asked_settled l b.number s t other;
  ends = λ t. ap (λ k. ended k t) here.history ∙ asked_ends l b.number s t;
}

-- or at a word
roused_on : (l : Ledger) (n a : ℕ) → (roused l n a).0 ≡ Stay → (is_listed l a ≡ true) × (is_chosen l n a ≡ false)
roused_on l n a = at (is_listed l a) (is_chosen l n a) refl refl
  where
    at : (x y : Bool) → is_listed l a ≡ x → is_chosen l n a ≡ y → (cond {A = Turn × Ledger} x (cond y (Skip, Acted a TimedOut ∷ l) (Stay, l)) (Ready, Acted a Woke ∷ l)).0 ≡ Stay → (is_listed l a ≡ true) × (is_chosen l n a ≡ false)
    at true true x y stay = let clash : Skip ≡ Stay = stay in cc
    at true false x y stay = (x, y)
    at false y x z stay = let clash : Ready ≡ Stay = stay in cc

sleeps_on : (l : Ledger) (n a : ℕ) → (roused l n a).0 ≡ Stay → StaysThere l l n a
sleeps_on l n a stay =
    let on = roused_on l n a stay in
    record { stuck = ap (λ t. t || vain l a) on.0; unchosen = on.1; others = λ t other. refl; ends = λ t. refl }

one_more : (t : ℕ) (ws : List Waiter) (x : Waiter) → (x.agent == t) ≡ false → list_any (λ (w : Waiter). w.agent == t) (ws ++ x ∷ []) ≡ list_any (λ (w : Waiter). w.agent == t) ws
one_more t [] x other = ap (λ b. b || false) other
one_more t (w ∷ ws) x other = ap (λ b. (w.agent == t) || b) (one_more t ws x other)

lies_there : (l k : Ledger) (n a i w : ℕ) (r : Row) → k ≡ begun_at l a r i w → (roused (begun_at l a r i w) n a).0 ≡ Stay → StaysThere l k n a
lies_there l k n a i w r more stay =
    let on = roused_on (begun_at l a r i w) n a stay in
    subst (λ k. StaysThere l k n a) (sym more) (record {
      stuck = ap (λ t. t || vain l a) on.0;
      unchosen = on.1;
      others = λ t other. ap (λ z. ended l t || (z || vain l t)) (one_more t (waiters l) (waiter a (block_by l r.serial) i) (apart a t other));
      ends = λ t. refl;
    })

-- it sleeps as before, or begins to
record SleepsThere (l k : Ledger) (agents a : ℕ) : Type 0 where
  stays : StaysThere l k agents a
  asleep : (asleep k a ≡ asleep l a) ⊎ ((asleep l a ≡ false) × (asleep k a ≡ true))

rests_there : (b : AgentView) (l k : LedgerView) → IsTied b l.history → SleepsOn b l k → SleepsThere l.history k.history l.agents b.number
rests_there b l k tied on =
    by_rest (Some Stay) k.history l.history l.agents b.number on.1 on.2 on.3 on.6
    (λ sleeping told more.
    let same = roused_stays l.history k.history l.agents b.number more (some_turn _ told) in
    record { stays = subst (λ k. StaysThere l.history k l.agents b.number) (sym same) (sleeps_on l.history l.agents b.number (some_turn _ told)); asleep = inl (ap (λ k. asleep k b.number) same) })
    (λ waiting told more. no_message b l.history on.0 on.1 on.2 tied on.4 waiting)
    (λ awake there told more.
    let same = roused_stays (begun_at l.history b.number on.3 on.1 on.2) k.history l.agents b.number more (some_turn _ told) in
    record { stays = lies_there l.history k.history l.agents b.number on.1 on.2 on.3 same (some_turn _ told); asleep = inr (awake, ap (λ k. asleep k b.number) same ∙ sleeps_now b.number (asleep l.history b.number)) })
    (λ awake other told more. let clash : ◌≡◌ {A = Option Turn} (Some Stay) None = told in cc)

-- it sleeps then
pub sleeping_there : (b : AgentView) (l k : LedgerView) → IsTied b l.history → SleepsOn b l k → asleep k.history b.number ≡ true
sleeping_there b l k tied on =
    by_rest (Some Stay) k.history l.history l.agents b.number on.1 on.2 on.3 on.6
    (λ sleeping told more. ap (λ k. asleep k b.number) (roused_stays l.history k.history l.agents b.number more (some_turn _ told)) ∙ sleeping)
    (λ waiting told more. no_message b l.history on.0 on.1 on.2 tied on.4 waiting)
    (λ awake there told more. ap (λ k. asleep k b.number) (roused_stays (begun_at l.history b.number on.3 on.1 on.2) k.history l.agents b.number more (some_turn _ told)) ∙ sleeps_now b.number (asleep l.history b.number))
    (λ awake other told more. let clash : ◌≡◌ {A = Option Turn} (Some Stay) None = told in cc)

message_there : (b : AgentView) (l k : LedgerView) → IsTied b l.history → WaitsOn b l k → SleepsThere l.history k.history l.agents b.number
message_there b l k tied on =
    let here = stays_here b l.history k.history l.agents on.0 (awake b l.history tied (ap asks_to_sleep on.1)) tied.awaits on.1 on.2 in
    record { stays = waits_there l.history k.history l.agents b on.0 here; asleep = inl (ap (λ k. asleep k b.number) here.history ∙ by_asked (λ k. asleep k b.number ≡ asleep l.history b.number) l.history b.number on.0 refl refl) }

stays_there : (b : AgentView) (l k : LedgerView) → IsTied b l.history → WaitsRightly Waiting b l k → SleepsThere l.history k.history l.agents b.number
stays_there b l k tied told = elim told [
  | inl on ↦ message_there b l k tied on
  | inr on ↦ rests_there b l k tied on
]

-- so do those that did before
all_stuck_there : (l k : Ledger) (agents a n : ℕ) → StaysThere l k agents a → all_stuck l n ≡ true → all_stuck k n ≡ true
all_stuck_there l k agents a zero there all = refl
all_stuck_there l k agents a (suc n) there all =
    let parts = and_parts (is_settled l n) (all_stuck l n) all in
    rw (at (n == a) refl parts.0, all_stuck_there l k agents a n there parts.1) refl
  where
    at : (b : Bool) → (n == a) ≡ b → is_settled l n ≡ true → is_settled k n ≡ true
    at true e was = ap (is_settled k) (eqb-true n a e) ∙ settled k a there.stuck (ended k a) refl
    at false e was = there.others n (eqb-false n a e) ∙ was

all_ended_there : (l k : Ledger) (n : ℕ) → ((t : ℕ) → ended k t ≡ ended l t) → all_ended l n ≡ true → all_ended k n ≡ true
all_ended_there l k zero ends all = refl
all_ended_there l k (suc n) ends all =
    let parts = and_parts (ended l n) (all_ended l n) all in
    rw (ends n, parts.0, all_ended_there l k n ends parts.1) refl

stuck_here : (l k : Ledger) (agents a n : ℕ) → a ≡ n → StaysThere l k agents a → all_stuck l n ≡ true → all_stuck k (n + 1) ≡ true
stuck_here l k agents a n number there all =
    let next : suc n ≡ n + 1 = omega arith in
    let mine : is_settled k n ≡ true = ap (is_settled k) (sym number) ∙ settled k a there.stuck (ended k a) refl in
    ap (all_stuck k) (sym next) ∙ rw (mine, all_stuck_there l k agents a n there all) refl

unchosen_here : (l k : Ledger) (agents a n : ℕ) → a ≡ n → StaysThere l k agents a → ended l a ≡ false → all_stuck l agents ≡ true → all_ended l n ≡ true → ⊥
unchosen_here l k agents a n number there going all lower =
    let ends : all_ended k a ≡ true = all_ended_there l k a there.ends (ap (all_ended l) number ∙ lower) in
    let left : ended k a ≡ false = there.ends a ∙ going in
    let chosen : is_chosen k agents a ≡ true = rw (all_stuck_there l k agents a agents there all, ends, left) refl in
    let clash : true ≡ false = sym chosen ∙ there.unchosen in
    cc

-- one that may wait has not ended
not_over : (b : AgentView) → MayWait (need b) → (o : Bool) → is_over b ≡ o → is_over b ≡ false
not_over b may true o = elim may [
  | inl m ↦ (let clash : asks_message m.0 ≡ asks_nothing = sym m.1 ∙ over_asks_nothing b o in cc)
  | inr w ↦ (let clash : asks_ledger (for_word w.0 w.1 (Task.Sleep w.2)) ≡ asks_nothing = sym w.3 ∙ over_asks_nothing b o in cc)
]
not_over b may false o = o

pub hears : (p : Progress) (n : ℕ) (old new : ClusterView) → ArePlaced old.agents old.ledger → AreTied old.agents old.ledger → Turned p n old new → Hears p n old new
hears Moved n old new placed tied t = (
  λ all. mover_is old.agents old.ledger placed tied (legal_before Moved n old new t) n t.before t.agent t.after new.ledger t.turn t.told all,
  ap (asleep new.ledger.history) (sym (ap (λ b. b.number) t.turn.3 ∙ (placed.each n t.before t.agent).number)) ∙ t.tied.awake,
)
hears Waiting n old new placed tied t =
    let number = (placed.each n t.before t.agent).number in
    let over = (placed.each n t.before t.agent).seated.over in
    let there = stays_there t.before old.ledger new.ledger (tied.each n t.before t.agent) t.told in (
      same_agents Waiting n old new t t.turn.1,
      t.number,
      λ all. stuck_here old.ledger.history new.ledger.history old.ledger.agents t.before.number n number there.stays all,
      λ all lower. unchosen_here old.ledger.history new.ledger.history old.ledger.agents t.before.number n number there.stays (over ∙ not_over t.before t.turn.0 (is_over t.before) refl) all lower,
      elim there.asleep [
        | inl same ↦ inl (subst (λ a. asleep new.ledger.history a ≡ asleep old.ledger.history a) number same)
        | inr begins ↦ inr (
          (t, ap (asleep old.ledger.history) (sym number) ∙ begins.0, ap (asleep new.ledger.history) (sym number) ∙ begins.1),
          λ all. goer_moves old.agents old.ledger placed tied (legal_before Waiting n old new t) n t.before t.agent all (goes begins.0 begins.1 t.told),
        )
      ],
    )
  where
    goes : asleep old.ledger.history t.before.number ≡ false → asleep new.ledger.history t.before.number ≡ true → WaitsRightly Waiting t.before old.ledger new.ledger → goes_on old.ledger.history t.before ≡ true
    goes awake sleeps told = elim told [
      | inl on ↦ (
          let here = stays_here t.before old.ledger.history new.ledger.history old.ledger.agents on.0 awake (tied.each n t.before t.agent).awaits on.1 on.2 in
          let same = ap (λ k. asleep k t.before.number) here.history ∙ by_asked (λ k. asleep k t.before.number ≡ asleep old.ledger.history t.before.number) old.ledger.history t.before.number on.0 refl refl in
          let clash : true ≡ false = sym sleeps ∙ same ∙ awake in
          cc)
      | inr on ↦ ap (goes_on_by old.ledger.history t.before.number) on.4 ∙ ap not (awake_unlisted old.ledger.agents old.ledger.history t.before.number (legal_before Waiting n old new t) awake)
    ]
hears Ended n old new placed tied t = (
  λ i. record { agents = same_agents Ended n old new t t.turn.1 i; ledger = t.told i; failed = (t.whole.1 ∙ sym t.whole.0) i },
  ap (ended old.ledger.history) (sym (placed.each n t.before t.agent).number) ∙ (placed.each n t.before t.agent).seated.over ∙ nothing_over t.before t.turn.0,
)
