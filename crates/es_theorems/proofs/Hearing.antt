-- The next event of the ledger is a wait for a message: its agent takes its turns up to it, and waits, or is told to skip its job at once.
use Rattle.std.proofs.Common.{◌≡◌, ◌||◌, ℕ, suc, ◌<◌, ◌==◌, ◌&&◌, Bool, true, false, cond, sym, ◌∙◌, ap, refl, subst, List, [], ◌∷◌, ◌++◌, take, Some, None, eq-eqb, eqb-true, inl}
use Rattle.std.specs.Prelude.{is_some, slice_get}
use Rattle.std.specs.Option.{option_map_or}
use Rattle.std.proofs.lemmas.Bool.{false≢true}
use Rattle.es_event.specs.declared.event.Event.{Event}
use Rattle.es_event.specs.declared.ledger_event.LedgerEvent.{LedgerEvent}
use Rattle.es_event.specs.declared.ledger_event.LedgerEvent.TheVariants.{Taken, Acted}
use Rattle.es_event.specs.declared.ledger_event.Act.TheVariants.{Waiting as WaitingEvent, Passed}
use Rattle.es_event.specs.Ledger.{Ledger, waits}
use Rattle.es_event.specs.LegalLedger.{ComesNext, LegalSoFar, MayCome, has_message, skips}
use Rattle.es_event.specs.Waiters.{asleep}
use Rattle.es_match.specs.Deeds.{Deed, Takes, Waits, Passes, deed, is_wait}
use Rattle.es_match.specs.Patience.{ends_wait, may_do}
use Rattle.es_match.specs.Cluster.{Account, account_of}
use Rattle.es_match.specs.Meets.{Tickets, after, refused_in}
use Rattle.es_ledger.specs.Turns.{asked, judged, told}
use Rattle.es_ledger.specs.declared.turn.Turn.{Turn as Told}
use Rattle.es_ledger.specs.declared.turn.Turn.TheVariants.{Ready as IsReadyTurn, Stay, Skip}
use Rattle.es_record.specs.AgentView.{AgentView}
use Rattle.es_rules.specs.Needs.{asks_message, need}
use Rattle.es_agent.specs.Tickets.{tickets}
use Rattle.es_cluster.specs.Tied.{came_to}
use Rattle.es_cluster.proofs.Midway.{awaits}
use Rattle.es_cluster.specs.Ends.{IsWhole}
use Rattle.es_cluster.specs.State.{ClusterView}
use Rattle.es_theorems.specs.Doing.{event_of}
use Rattle.es_theorems.specs.Together.{AnyPlan, StandsAtBy}
use Rattle.es_theorems.specs.Ahead.{Acts, Elsewhere, Steps, ahead, played}
use Rattle.es_theorems.specs.Found.{First, Found}
use Rattle.es_theorems.specs.Grown.{Unfolded, asked_by, deeds_asked, grown}
use Rattle.es_theorems.specs.Ready.{Goes, Lives, Ready}
use Rattle.es_theorems.specs.Underway.{Left, Stepped, Underway}
use Rattle.es_theorems.proofs.Choosing.{skips_is}
use Rattle.es_theorems.proofs.Gathering.{brought, find, found_acts, found_ahead, found_event, found_may, lives_far, next_ends, not_wait, part_mine, part_wait, rearranged_cons, waits_far, waits_now, steps_first, same_head}
use Rattle.es_theorems.proofs.Needing.{first_message}
use Rattle.es_theorems.proofs.Settling.{left_as, met_of, rearranged_on}
use Rattle.es_theorems.proofs.Swapping.{goes_after, ready_after}
use Rattle.es_theorems.proofs.Turn.{with_history}
use Rattle.es_theorems.proofs.TurningThreads.{next_of}
use Rattle.es_theorems.proofs.Pausing.{at_once, begin_step, rearranged_step, rests_on}
use Rattle.es_cluster.proofs.Hearing.{goes_on}

-- What is told where a wait begins

-- a wait that is recorded now
told_here : (m : Ledger) (n i s : ℕ) (skip : Bool) → has_message m s i ≡ false → waits m i ≡ None → asleep m i ≡ false → skips (Acted i (WaitingEvent s) ∷ m) n i s ≡ skip
    → ◌≡◌ {A = Told × Ledger} (told m n i s) (cond skip (Skip, Acted i (Passed s) ∷ Acted i (WaitingEvent s) ∷ m) (Stay, Acted i (WaitingEvent s) ∷ m))
told_here m n i s skip none free awake is =
    ap (λ b. cond b (IsReadyTurn, m) (judged (asked m i s) n i s)) none
    ∙ ap (λ w. judged (cond (is_some w || asleep m i) m (Acted i (WaitingEvent s) ∷ m)) n i s) free
    ∙ ap (λ b. judged (cond b m (Acted i (WaitingEvent s) ∷ m)) n i s) awake
    ∙ ap (λ w. cond (w && skips (Acted i (WaitingEvent s) ∷ m) n i s) (Skip, Acted i (Passed s) ∷ Acted i (WaitingEvent s) ∷ m) (Stay, Acted i (WaitingEvent s) ∷ m))
    (ap (λ b. option_map_or (λ t. t == s) (cond b (Some s) (waits m i)) false) (eq-eqb i i refl) ∙ eq-eqb s s refl)
    ∙ ap (λ b. cond b (Skip, Acted i (Passed s) ∷ Acted i (WaitingEvent s) ∷ m) (Stay, Acted i (WaitingEvent s) ∷ m)) is

heard_so : (n : ℕ) (all : List Account) (c : ClusterView) (es : List LedgerEvent) (i s : ℕ) (b : AgentView) (skip : Bool) → Underway n all c es → slice_get c.agents i ≡ Some b → MayCome n c.ledger.history (Acted i (WaitingEvent s))
    → skips (Acted i (WaitingEvent s) ∷ c.ledger.history) n i s ≡ skip
    → ◌≡◌ {A = Told × Ledger} (cond skip (Skip, Acted i (Passed s) ∷ Acted i (WaitingEvent s) ∷ c.ledger.history) (Stay, Acted i (WaitingEvent s) ∷ c.ledger.history)) (told c.ledger.history c.ledger.agents b.number s)
heard_so n all c es i s b skip u here may is =
    let m = c.ledger.history in
    let was = u.stands.each i b here in
    sym (ap (λ k. told m k b.number s) u.number ∙ ap (λ k. told m n k s) was.number ∙ told_here m n i s skip may.3 may.4 may.6 is)

-- The wait, as the next event

-- it stays
stays : (n : ℕ) (all : List Account) (c : ClusterView) (es : List LedgerEvent) (i s : ℕ) (b : AgentView) → (u : Underway n all c (Acted i (WaitingEvent s) ∷ es)) → slice_get c.agents i ≡ Some b → MayCome n c.ledger.history (Acted i (WaitingEvent s)) → need b ≡ asks_message s
    → skips (Acted i (WaitingEvent s) ∷ c.ledger.history) n i s ≡ false → Stepped n all c (Acted i (WaitingEvent s) ∷ es)
stays n all c es i s b u here may wants skip =
    let m = c.ledger.history in
    let was = u.stands.each i b here in
    rests_on n all c (Acted i (WaitingEvent s)) es i (Waits s) b u here refl refl (inl (s, wants)) (inl (s, wants, heard_so n all c (Acted i (WaitingEvent s) ∷ es) i s b false u here may skip))
    (awaits b m (Acted i (WaitingEvent s) ∷ m) s was.tied (ap (λ k. Acted k (WaitingEvent s) ∷ m) (sym was.number)) (ap (waits m) was.number ∙ may.4) u.steps.0.acts.2 wants)

-- what is ready stays ready behind what others do
ready_far : (k a : ℕ) (f : LedgerEvent) (xs : List LedgerEvent) (l : Ledger) → Elsewhere a xs l → LegalSoFar k l → Steps k xs l → Goes k l a → Ready k l a f → Ready k (played xs l) a f
ready_far k a f [] l away legal steps goes ready = ready
ready_far k a f (x ∷ xs) l away legal steps goes ready =
    ready_far k a f xs (x ∷ l) away.1 (steps.0.legal, legal) steps.1 (goes_after k l a away.0.0 x away.0.1 away.0.2 away.0.3 goes) (ready_after k l a away.0.0 f x away.0.1 legal away.0.2 away.0.3 goes.lives.paid steps.0 ready)

ends_which : (s : ℕ) (d : Deed) → ends_wait s d ≡ true → (P : Deed → Type 0) → ((m : _) (w : ℕ) → P (Takes s m w)) → P (Passes s) → P d
ends_which s (Takes t m w) is P takes passes = subst (λ s. P (Takes s m w)) (sym (eqb-true t s is)) (takes m w)
ends_which s (Passes t) is P takes passes = subst (λ s. P (Passes s)) (sym (eqb-true t s is)) passes
ends_which s _ is P takes passes = cc

-- where it may be skipped at once, it is
passes_next : (n i s : ℕ) (es : List LedgerEvent) (l : Ledger) (d : Deed) (ds : List Deed) → LegalSoFar n l → Goes n l i → Steps n es l → waits l i ≡ Some s → skips l n i s ≡ true → ahead es l i ≡ d ∷ ds → (d ≡ Passes s) × First n i (Passes s) ds es l
passes_next n i s es l d ds legal goes steps waiting skip is = at (ends_which s f.does ends (λ e. f.does ≡ e → (d ≡ Passes s) × First n i (Passes s) ds es l) took passed) refl
  where
    f : Found i es l
    f = find n i es l d ds goes.lives steps is

    far : Ledger
    far = played f.before l

    acts : Acts n far (Some (i, f.does))
    acts = found_acts n i es l f steps

    ends : ends_wait s f.does ≡ true
    ends = sym (ap (λ w. may_do w f.does) (waits_far i f.before l f.away ∙ waiting)) ∙ acts.3

    quick : is_wait f.does ≡ false
    quick = not_wait s f.does ends

    same : f.does ≡ d
    same = same_head f.does d (ahead f.behind (f.event ∷ far) i) ds (sym (found_ahead i es l f ∙ ap (λ p. p ++ ahead f.behind (f.event ∷ far) i) (part_mine i f.does (deed far f.event) f.mine quick)) ∙ is)

    may : MayCome n far f.event
    may = subst (ComesNext n far f.event) (lives_far n i f.before l f.away goes.lives).paid (found_may n i es l f steps).0.legal

    event : f.event ≡ event_of i f.does
    event = found_event n i es l f goes.lives steps

    ready : Ready n l i (Acted i (Passed s))
    ready = (refl, waiting, skip)

    there : Ready n far i (Acted i (Passed s))
    there = ready_far n i (Acted i (Passed s)) f.before l f.away legal (steps_first n f.before (f.event ∷ f.behind) l (subst (λ es. Steps n es l) f.split steps)) goes ready

    at : {A : Type 0} → (f.does ≡ f.does → A) → f.does ≡ f.does → A
    at go same = go same

    took : (m : _) (w : ℕ) → f.does ≡ Takes s m w → (d ≡ Passes s) × First n i (Passes s) ds es l
    took m w does =
        let taken : f.event ≡ Taken s i = event ∙ ap (event_of i) does in
        let here : has_message far s i ≡ true = subst (MayCome n far) taken may in
        let none = (skips_is far n i s there.2).1.none in
        absurd (false≢true (sym none ∙ here))

    passed : f.does ≡ Passes s → (d ≡ Passes s) × First n i (Passes s) ds es l
    passed does =
        let it : f.event ≡ Acted i (Passed s) = event ∙ ap (event_of i) does in
        let d_is : d ≡ Passes s = sym same ∙ does in
        (d_is, brought n i es l (Passes s) ds f legal goes steps (subst (Ready n l i) (sym it) ready) refl it (ap (deed l) it) (is ∙ ap (λ d. d ∷ ds) d_is))

-- it skips
skips_now : (n : ℕ) (all : List Account) (c : ClusterView) (es : List LedgerEvent) (i s : ℕ) (b : AgentView) (e : Event) (rest : List Event) (j : ℕ) (d : Deed) (ds : List Deed) → IsWhole (account_of all i) → (u : Underway n all c (Acted i (WaitingEvent s) ∷ es))
    → slice_get c.agents i ≡ Some b → (left : Left (account_of all i) b (ahead (Acted i (WaitingEvent s) ∷ es) c.ledger.history i)) → left.rest ≡ e ∷ rest → deeds_asked b e ≡ suc j → MayCome n c.ledger.history (Acted i (WaitingEvent s)) → need b ≡ asks_message s
    → ahead es (Acted i (WaitingEvent s) ∷ c.ledger.history) i ≡ d ∷ ds → skips (Acted i (WaitingEvent s) ∷ c.ledger.history) n i s ≡ true → Stepped n all c (Acted i (WaitingEvent s) ∷ es)
skips_now n all c es i s b e rest j d ds whole u here left is asks may wants some skip =
    let m = c.ledger.history in
    let x = Acted i (WaitingEvent s) in
    let goes : Goes n (x ∷ m) i = record { lives = record { known = may.0; going = may.5; paid = refl; undrained = u.steps.0.acts.2 }; awake = may.6 } in
    let first = (passes_next n i s es (x ∷ m) d ds (u.steps.0.legal, u.legal) goes u.steps.1 (waits_now m i s) skip some).1 in
    let re = rearranged_cons n x es (first.event ∷ first.behind) m u.steps.0 first.same in
    let u2 = rearranged_on n all c (x ∷ es) (x ∷ first.event ∷ first.behind) u re in
    let left2 = left_as (account_of all i) b (ahead (x ∷ es) m i) (ahead (x ∷ first.event ∷ first.behind) m i) (re.parts i) left in
    rearranged_step n all c (x ∷ es) (x ∷ first.event ∷ first.behind) re
    (at_once n all c x first.event first.behind i (Waits s) (Passes s) b e rest j whole u2 here left2 is asks refl refl first.mine refl refl refl
    (goes_on b c.ledger (with_history c.ledger (first.event ∷ x ∷ m)) s Skip _ wants (heard_so n all c (x ∷ es) i s b true u here may skip) (λ f. cc)))

-- The wait

waits_or_skips : (n : ℕ) (all : List Account) (c : ClusterView) (es : List LedgerEvent) (i s : ℕ) (b : AgentView) (e : Event) (rest : List Event) (j : ℕ) (d : Deed) (ds : List Deed) → IsWhole (account_of all i) → (u : Underway n all c (Acted i (WaitingEvent s) ∷ es))
    → slice_get c.agents i ≡ Some b → (left : Left (account_of all i) b (ahead (Acted i (WaitingEvent s) ∷ es) c.ledger.history i)) → left.rest ≡ e ∷ rest → deeds_asked b e ≡ suc j
    → ahead es (Acted i (WaitingEvent s) ∷ c.ledger.history) i ≡ d ∷ ds → Stepped n all c (Acted i (WaitingEvent s) ∷ es)
waits_or_skips n all c es i s b e rest j d ds whole u here left is asks some = at (skips l n i s) refl
  where
    m : Ledger
    m = c.ledger.history

    l : Ledger
    l = Acted i (WaitingEvent s) ∷ m

    was : StandsAtBy AnyPlan c i b
    was = u.stands.each i b here

    may : MayCome n m (Acted i (WaitingEvent s))
    may = subst (ComesNext n m (Acted i (WaitingEvent s))) u.stands.undrained u.steps.0.legal

    lives : Lives n l i
    lives = record { known = may.0; going = may.5; paid = refl; undrained = u.steps.0.acts.2 }

    ends : ends_wait s d ≡ true
    ends = next_ends n i es l d ds s lives u.steps.1 (waits_now m i s) some

    un : Unfolded b e rest (ahead (Acted i (WaitingEvent s) ∷ es) m i) left.final
    un = next_of (account_of all i) b (ahead (Acted i (WaitingEvent s) ∷ es) m i) e rest was.run whole left is

    now_is : take (deeds_asked b e) (ahead (Acted i (WaitingEvent s) ∷ es) m i) ≡ d ∷ take j ds
    now_is =
        ap (take (deeds_asked b e)) (ap (λ p. p ++ ahead es l i) (part_wait i i (Waits s) (Some (i, Waits s)) refl refl) ∙ some)
        ∙ ap (λ k. take k (d ∷ ds)) asks

    met : (t : Tickets) × (after (tickets b) (asked_by b e) (take (deeds_asked b e) (ahead (Acted i (WaitingEvent s) ∷ es) m i)) ≡ Some t)
    met = met_of b e (take (deeds_asked b e) (ahead (Acted i (WaitingEvent s) ∷ es) m i)) (came_to (grown b un.row e)) un.met

    wants : need b ≡ asks_message s
    wants = first_message b un.row e s d (take j ds) met.0 un.next (ap (after (tickets b) (asked_by b e)) (sym now_is) ∙ met.1) (ap (refused_in (asked_by b e)) (sym now_is) ∙ un.named) ends

    at : (t : Bool) → skips l n i s ≡ t → Stepped n all c (Acted i (WaitingEvent s) ∷ es)
    at false skip = stays n all c es i s b u here may wants skip
    at true skip = skips_now n all c es i s b e rest j d ds whole u here left is asks may wants some skip

pub wait_step : (n : ℕ) (all : List Account) (c : ClusterView) (es : List LedgerEvent) (i s : ℕ) → ((i : ℕ) → i < n → IsWhole (account_of all i)) → Underway n all c (Acted i (WaitingEvent s) ∷ es) → Stepped n all c (Acted i (WaitingEvent s) ∷ es)
wait_step n all c es i s wholes u =
    begin_step n all c (Acted i (WaitingEvent s)) es i (Waits s) wholes u refl refl
    (λ whole v d ds some. waits_or_skips n all v.after es i s v.agent v.event v.rest v.fewer d ds whole v.on v.here v.mine v.mine_is v.some some)
