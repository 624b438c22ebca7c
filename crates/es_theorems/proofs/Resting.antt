-- The next event of the ledger is a beginning of sleep: its agent takes its turns up to it, and sleeps, or its time-out passes at once.
use Rattle.std.proofs.Common.{◌≡◌, inr, ℕ, suc, ◌<◌, Bool, true, false, cond, sym, ◌∙◌, ap, refl, subst, eq-eqb, List, [], ◌∷◌, ◌++◌, take, Option, Some, None}
use Rattle.std.specs.Prelude.{slice_get}
use Rattle.std.proofs.lemmas.Bool.{false≢true}
use Rattle.es_event.specs.declared.access.WaitResult.{WaitResult}
use Rattle.es_event.specs.declared.event.Event.{Event}
use Rattle.es_event.specs.declared.ledger_event.LedgerEvent.{LedgerEvent}
use Rattle.es_event.specs.declared.ledger_event.LedgerEvent.TheVariants.{Acted}
use Rattle.es_event.specs.declared.ledger_event.Act.TheVariants.{Slept, TimedOut}
use Rattle.es_event.specs.declared.row.Row.{Row}
use Rattle.es_event.specs.Ledger.{Ledger, holder_of, waits, word}
use Rattle.es_event.specs.LegalLedger.{ComesNext, LegalSoFar, MayCome, ReachesAs, is_chosen}
use Rattle.es_event.specs.Waiters.{asleep, block_by, is_listed, waiter, waiters}
use Rattle.es_match.specs.declared.deed.Sleep.{Sleep}
use Rattle.es_match.specs.Cluster.{Account, account_of}
use Rattle.es_match.specs.Deeds.{Deed, Sleeps, TimesOut, Wakes, deed, sleep_of}
use Rattle.es_match.specs.Meets.{Tickets, after}
use Rattle.es_match.specs.Patience.{ends_sleep, may_stir}
use Rattle.es_ticket.specs.Stakes.{at}
use Rattle.es_ledger.specs.Sleeps.{rested}
use Rattle.es_ledger.specs.declared.turn.Turn.{Turn}
use Rattle.es_ledger.specs.declared.turn.Turn.TheVariants.{Stay, Skip}
use Rattle.es_record.specs.AgentView.{AgentView}
use Rattle.es_agent.specs.Tickets.{tickets}
use Rattle.es_cluster.specs.Ends.{IsWhole}
use Rattle.es_cluster.specs.State.{ClusterView}
use Rattle.es_cluster.specs.Tied.{AsksFor, came_to}
use Rattle.es_cluster.proofs.Asking.{ticket_row}
use Rattle.es_cluster.proofs.Midway.{lies_down}
use Rattle.es_cluster.proofs.Sleeping.{begun_at, goes_on_at, sleeps_now}
use Rattle.es_theorems.specs.Ahead.{Acts, Steps, ahead}
use Rattle.es_theorems.specs.Doing.{event_of}
use Rattle.es_theorems.specs.Grown.{Unfolded, asked_by, deeds_asked, grown}
use Rattle.es_theorems.specs.Ready.{Lives}
use Rattle.es_theorems.specs.Together.{AnyPlan, StandsAtBy}
use Rattle.es_theorems.specs.Underway.{Left, Stepped, Underway}
use Rattle.es_theorems.proofs.Choosing.{alone_goes, chosen_is}
use Rattle.es_theorems.proofs.Doing.{meant}
use Rattle.es_theorems.proofs.Gathering.{next_stirs, owner_of, part_wait}
use Rattle.es_theorems.proofs.Pausing.{at_once, begin_step, rests_on}
use Rattle.es_theorems.proofs.Rousing.{sleep_by}
use Rattle.es_theorems.proofs.Settling.{met_of}
use Rattle.es_theorems.proofs.Sleeps.{first_sleep, serial_here}
use Rattle.es_theorems.proofs.Stepping.{ticket_held}
use Rattle.es_theorems.proofs.Turn.{with_history}
use Rattle.es_theorems.proofs.Turning.{woken_by}
use Rattle.es_theorems.proofs.TurningThreads.{next_of}
use Rattle.es_theorems.proofs.Waiting.{last_listed}

-- What is told where a sleep begins

rested_here : (m : Ledger) (n i : ℕ) (r : Row) (j w : ℕ) (chosen : Bool) → asleep m i ≡ false → waits m i ≡ None → word m r.block j ≡ w → is_chosen (begun_at m i r j w) n i ≡ chosen
    → ◌≡◌ {A = Option Turn × Ledger} (cond chosen (Some Skip, Acted i TimedOut ∷ begun_at m i r j w) (Some Stay, begun_at m i r j w)) (rested m n i r j w)
rested_here m n i r j w chosen up free found is = by chosen is
  where
    listed : is_listed (begun_at m i r j w) i ≡ true
    listed = last_listed i (waiters m) (waiter i (block_by m r.serial) j) refl

    by : (chosen : Bool) → is_chosen (begun_at m i r j w) n i ≡ chosen → ◌≡◌ {A = Option Turn × Ledger} (cond chosen (Some Skip, Acted i TimedOut ∷ begun_at m i r j w) (Some Stay, begun_at m i r j w)) (rested m n i r j w)
    by true is = rw (up, free, eq-eqb (word m r.block j) w found, listed, is) refl
    by false is = rw (up, free, eq-eqb (word m r.block j) w found, listed, is) refl

-- Where none can go on, and it is the lowest, its time-out passes next

times_out : (n i : ℕ) (l : Ledger) (x : LedgerEvent) (d : Deed) → MayCome n l x → deed l x ≡ Some (i, d) → ends_sleep d ≡ true → is_listed l i ≡ true → x ≡ Acted i TimedOut
times_out n i l x d may is ends listed = let its = (meant n l x i d may is).event in its ∙ by d ends (subst (MayCome n l) its may)
  where
    by : (d : Deed) → ends_sleep d ≡ true → MayCome n l (event_of i d) → event_of i d ≡ Acted i TimedOut
    by (Wakes p) ends may = absurd (false≢true (sym may.1 ∙ listed))
    by (TimesOut p) ends may = refl
    by _ ends may = cc

next_times_out : (n i : ℕ) (l : Ledger) (es : List LedgerEvent) (d : Deed) (ds : List Deed) → LegalSoFar n l → Lives n l i → Steps n es l → asleep l i ≡ true → is_listed l i ≡ true → is_chosen l n i ≡ true → ahead es l i ≡ d ∷ ds
    → (rest : List LedgerEvent) × (es ≡ Acted i TimedOut ∷ rest)
next_times_out n i l [] d ds legal lives steps sleeps listed chosen some = cc
next_times_out n i l (y ∷ es) d ds legal lives steps sleeps listed chosen some =
    let o = owner_of n l y i lives steps.0 in
    let may : MayCome n l y = subst (ComesNext n l y) lives.paid steps.0.legal in
    let acts : Acts n l (Some (o.0, o.1)) = subst (Acts n l) o.2 steps.0.acts in
    let same : o.0 ≡ i = alone_goes n l i o.0 y o.1 legal (chosen_is l n i chosen) may o.2 acts.0 acts.1 acts.3 acts.4 in
    let ends : ends_sleep o.1 ≡ true = sym (ap (λ t. may_stir t o.1) (ap (asleep l) same ∙ sleeps)) ∙ acts.4 in
    (es, ap (λ y. y ∷ es) (times_out n i l y o.1 may (o.2 ∙ ap (λ k. Some (k, o.1)) same) ends listed))

-- The beginning of a sleep

sleeps_or_passes : (n : ℕ) (all : List Account) (c : ClusterView) (es : List LedgerEvent) (i s j w : ℕ) (b : AgentView) (e : Event) (rest : List Event) (k : ℕ) (g : Deed) (gs : List Deed) → IsWhole (account_of all i) → (u : Underway n all c (Acted i (Slept s j w) ∷ es))
    → slice_get c.agents i ≡ Some b → (left : Left (account_of all i) b (ahead (Acted i (Slept s j w) ∷ es) c.ledger.history i)) → left.rest ≡ e ∷ rest → deeds_asked b e ≡ suc k
    → ahead es (Acted i (Slept s j w) ∷ c.ledger.history) i ≡ g ∷ gs → Stepped n all c (Acted i (Slept s j w) ∷ es)
sleeps_or_passes n all c es i s j w b e rest k g gs whole u here left is asks some = by (is_chosen l n i) refl
  where
    m : Ledger
    m = c.ledger.history

    x : LedgerEvent
    x = Acted i (Slept s j w)

    l : Ledger
    l = x ∷ m

    sleep : Sleep
    sleep = record { serial = s; index = j; word = w }

    was : StandsAtBy AnyPlan c i b
    was = u.stands.each i b here

    may : MayCome n m x
    may = subst (ComesNext n m x) u.stands.undrained u.steps.0.legal

    acts : Acts n m (Some (i, Sleeps s j w))
    acts = u.steps.0.acts

    lives : Lives n l i
    lives = record { known = acts.0; going = acts.1; paid = refl; undrained = acts.2 }

    stirs : (ends_sleep g ≡ true) × (woken_by g ≡ sleep_of l i)
    stirs = next_stirs n i es l g gs lives u.steps.1 (sleeps_now i (asleep m i)) some

    un : Unfolded b e rest (ahead (x ∷ es) m i) left.final
    un = next_of (account_of all i) b (ahead (x ∷ es) m i) e rest was.run whole left is

    now_is : take (deeds_asked b e) (ahead (x ∷ es) m i) ≡ g ∷ take k gs
    now_is = ap (take (deeds_asked b e)) (ap (λ p. p ++ ahead es l i) (part_wait i i (Sleeps s j w) (Some (i, Sleeps s j w)) refl refl) ∙ some) ∙ ap (λ k. take k (g ∷ gs)) asks

    met : (t : Tickets) × (after (tickets b) (asked_by b e) (take (deeds_asked b e) (ahead (x ∷ es) m i)) ≡ Some t)
    met = met_of b e (take (deeds_asked b e) (ahead (x ∷ es) m i)) (came_to (grown b un.row e)) un.met

    -- it is the sleep that the agent asks for
    wants : AsksFor b sleep
    wants =
        first_sleep b un.row e g (take k gs) met.0 sleep was.run un.next (ap (after (tickets b) (asked_by b e)) (sym now_is) ∙ met.1) stirs.0
        (stirs.1 ∙ ap (λ t. cond t (sleep_by s j w) (sleep_of m i)) (eq-eqb i i refl))

    o : ℕ
    o = wants.0

    ticket : (r : Row) × (Some r ≡ at o (tickets b))
    ticket = ticket_row (tickets b) o s wants.2

    r : Row
    r = ticket.0

    serial : s ≡ r.serial
    serial = serial_here (tickets b) o s r ticket.1 wants.2

    found : word m r.block j ≡ w
    found =
        sym (subst (λ h. ReachesAs i h j (λ q. w ≡ word m q.block j)) (ap (holder_of m) serial ∙ ticket_held n all c (x ∷ es) i b o r u here ticket.1) may.0).2

    -- what it is told
    told : (chosen : Bool) → is_chosen l n i ≡ chosen → ◌≡◌ {A = Option Turn × Ledger} (cond chosen (Some Skip, Acted i TimedOut ∷ l) (Some Stay, l)) (rested m c.ledger.agents b.number r j w)
    told chosen is =
        ap (λ s. cond chosen (Some Skip, Acted i TimedOut ∷ Acted i (Slept s j w) ∷ m) (Some Stay, Acted i (Slept s j w) ∷ m)) serial
        ∙ rested_here m n i r j w chosen may.3 may.1 found (ap (λ s. is_chosen (Acted i (Slept s j w) ∷ m) n i) (sym serial) ∙ is)
        ∙ sym (ap (λ q. rested m q b.number r j w) u.number ∙ ap (λ q. rested m n q r j w) was.number)

    passes : (ys : List LedgerEvent) → es ≡ Acted i TimedOut ∷ ys → is_chosen l n i ≡ true → Stepped n all c (x ∷ es)
    passes ys split chosen =
        subst (λ es. (u : Underway n all c (x ∷ es)) (left : Left (account_of all i) b (ahead (x ∷ es) m i)) → left.rest ≡ e ∷ rest → Stepped n all c (x ∷ es)) (sym split)
        (λ u left is.
        at_once n all c x (Acted i TimedOut) ys i (Sleeps s j w) (TimesOut (sleep_of l i)) b e rest k whole u here left is asks refl refl refl refl refl refl
        (goes_on_at b c.ledger (with_history c.ledger (Acted i TimedOut ∷ l)) o j w r (Some Skip) WaitResult.TimedOut (Acted i TimedOut ∷ l) wants.1 ticket.1 (told true chosen) refl))
        u left is

    by : (t : Bool) → is_chosen l n i ≡ t → Stepped n all c (x ∷ es)
    by false resting =
        rests_on n all c x es i (Sleeps s j w) b u here refl refl (inr (o, j, w, wants.1)) (inr (o, j, w, r, wants.1, ticket.1, told false resting))
        (lies_down b m l sleep was.tied (ap (λ q. Acted q (Slept s j w) ∷ m) (sym was.number)) (ap (waits m) was.number ∙ may.1) (ap (asleep m) was.number ∙ may.3) acts.2 wants)
    by true chosen =
        let next = next_times_out n i l es g gs (u.steps.0.legal, u.legal) lives u.steps.1 (sleeps_now i (asleep m i)) (last_listed i (waiters m) (waiter i (block_by m s) j) refl) chosen some in
        passes next.0 next.1 chosen

pub sleep_step : (n : ℕ) (all : List Account) (c : ClusterView) (es : List LedgerEvent) (i s j w : ℕ) → ((i : ℕ) → i < n → IsWhole (account_of all i)) → Underway n all c (Acted i (Slept s j w) ∷ es) → Stepped n all c (Acted i (Slept s j w) ∷ es)
sleep_step n all c es i s j w wholes u =
    begin_step n all c (Acted i (Slept s j w)) es i (Sleeps s j w) wholes u refl refl
    (λ whole v d ds some. sleeps_or_passes n all v.after es i s j w v.agent v.event v.rest v.fewer d ds whole v.on v.here v.mine v.mine_is v.some some)
