-- An agent asks for a message: what the ledger's history is then.
use Rattle.std.proofs.Common.{◌≡◌, ℕ, ◌&&◌, ◌||◌, Bool, true, false, cond, sym, ◌∙◌, ap, refl, subst, ◌∷◌, Option, Some, None}
use Rattle.std.specs.Prelude.{is_some}
use Rattle.es_event.specs.declared.ledger_event.LedgerEvent.TheVariants.{Taken, Acted}
use Rattle.es_event.specs.declared.ledger_event.Act.TheVariants.{Waiting, Passed}
use Rattle.es_event.specs.Ledger.{Ledger, waits, ended}
use Rattle.es_event.specs.Waiters.{asleep}
use Rattle.es_event.specs.LegalLedger.{has_message, skips}
use Rattle.es_ledger.specs.LedgerView.{LedgerView}
use Rattle.es_ledger.specs.Turns.{asked, judged, told, waits_for}
use Rattle.es_ledger.specs.declared.turn.Turn.{Turn}
use Rattle.es_ledger.specs.declared.turn.Turn.TheVariants.{Ready, Stay, Skip}
use Rattle.es_match.specs.Patience.{has_drained}
use Rattle.es_match.specs.Deeds.{Waits, Passes}
use Rattle.es_ticket.specs.Stakes.{StakeView}
use Rattle.es_record.specs.AgentView.{AgentView}
use Rattle.es_event.specs.declared.access.Task.{Task}
use Rattle.es_rules.specs.Needs.{for_word, asks_ledger, asks_message, need}
use Rattle.es_agent.specs.Tickets.{Skips}
use Rattle.es_cluster.specs.Midway.{IsHeld, IsReady, asks_to_sleep}
use Rattle.es_cluster.specs.Members.{Holds}
use Rattle.es_cluster.specs.Tied.{GrowsBy, IsSettled, IsTied}
use Rattle.es_cluster.specs.Turned.{WaitsRightly, Keeps}
use Rattle.es_cluster.specs.declared.member.Progress.TheVariants.{Moved}
use Rattle.es_cluster.proofs.Growing.{grows_none, grows_one, grows_on}
use Rattle.es_cluster.proofs.Midway.{awaits, awake}
use Rattle.es_cluster.proofs.MovingMembers.{Stays, keeps, kept_after, skipped_stays, holds_still}
use Rattle.es_cluster.proofs.Tying.{still_undrained, skip_ties, taking_grows}

judged_stays : (b : Bool) (l k : Ledger) (a s : ℕ) → ◌≡◌ {A = Turn × Ledger} (Stay, k) (cond b (Skip, Acted a (Passed s) ∷ l) (Stay, l)) → k ≡ l
judged_stays true l k a s is = let clash : Stay ≡ Skip = ap (λ p. p.0) is in cc
judged_stays false l k a s is = ap (λ p. p.1) is

judged_skips : (b : Bool) (l k : Ledger) (a s : ℕ) → ◌≡◌ {A = Turn × Ledger} (Skip, k) (cond b (Skip, Acted a (Passed s) ∷ l) (Stay, l)) → k ≡ Acted a (Passed s) ∷ l
judged_skips true l k a s is = ap (λ p. p.1) is
judged_skips false l k a s is = let clash : Skip ≡ Stay = ap (λ p. p.0) is in cc

judged_ready : (b : Bool) (l k : Ledger) (a s : ℕ) → ◌≡◌ {A = Turn × Ledger} (Ready, k) (cond b (Skip, Acted a (Passed s) ∷ l) (Stay, l)) → ⊥
judged_ready true l k a s is = let clash : Ready ≡ Skip = ap (λ p. p.0) is in cc
judged_ready false l k a s is = let clash : Ready ≡ Stay = ap (λ p. p.0) is in cc

by_message : {P : Type 0} (t : Turn) (l k : Ledger) (n a s : ℕ) → ◌≡◌ {A = Turn × Ledger} (t, k) (told l n a s) → (has_message l s a ≡ true → ◌≡◌ {A = Turn × Ledger} (t, k) (Ready, l) → P)
    → (◌≡◌ {A = Turn × Ledger} (t, k) (judged (asked l a s) n a s) → P) → P
by_message {P} t l k n a s is ready not_ready = at (has_message l s a) refl is
  where
    at : (b : Bool) → has_message l s a ≡ b → ◌≡◌ {A = Turn × Ledger} (t, k) (cond b (Ready, l) (judged (asked l a s) n a s)) → P
    at true b is = ready b is
    at false b is = not_ready is

pub where_ready : (l k : Ledger) (n a s : ℕ) → ◌≡◌ {A = Turn × Ledger} (Ready, k) (told l n a s) → (k ≡ l) × (has_message l s a ≡ true)
where_ready l k n a s is = by_message Ready l k n a s is (λ b is. (ap (λ p. p.1) is, b)) (λ is. absurd (judged_ready (waits_for (asked l a s) a s && skips (asked l a s) n a s) (asked l a s) k a s is))

pub where_stay : (l k : Ledger) (n a s : ℕ) → ◌≡◌ {A = Turn × Ledger} (Stay, k) (told l n a s) → k ≡ asked l a s
where_stay l k n a s is =
    by_message Stay l k n a s is (λ b is. let clash : Stay ≡ Ready = ap (λ p. p.0) is in cc) (λ is. judged_stays (waits_for (asked l a s) a s && skips (asked l a s) n a s) (asked l a s) k a s is)

pub where_skip : (l k : Ledger) (n a s : ℕ) → ◌≡◌ {A = Turn × Ledger} (Skip, k) (told l n a s) → k ≡ Acted a (Passed s) ∷ asked l a s
where_skip l k n a s is =
    by_message Skip l k n a s is (λ b is. let clash : Skip ≡ Ready = ap (λ p. p.0) is in cc) (λ is. judged_skips (waits_for (asked l a s) a s && skips (asked l a s) n a s) (asked l a s) k a s is)

-- An agent that goes on was not told to stay

pub goes_on : (b : AgentView) (l m : LedgerView) (s : ℕ) (t : Turn) (k : Ledger) → need b ≡ asks_message s → ◌≡◌ {A = Turn × Ledger} (t, k) (told l.history l.agents b.number s) → (t ≡ Stay → ⊥) → WaitsRightly Moved b l m
goes_on b l m s t k is heard other = (
  λ u asks stays.
      let both : asks_message s ≡ asks_message u = sym is ∙ asks in
      let same : s ≡ u = cc in
      other (ap (λ p. p.0) heard ∙ ap (λ s. (told l.history l.agents b.number s).0) same ∙ stays),
  λ o i w r asks here stays. let clash : asks_message s ≡ asks_ledger (for_word o i (Task.Sleep w)) = sym is ∙ asks in cc,
)

pub goes_on_ready : (b : AgentView) (l m : LedgerView) (s : ℕ) → need b ≡ asks_message s → has_message l.history s b.number ≡ true → WaitsRightly Moved b l m
goes_on_ready b l m s is there =
    goes_on b l m s Ready l.history is (ap (λ t. cond t (Ready, l.history) (judged (asked l.history b.number s) l.agents b.number s)) (sym there)) (λ e. cc)

-- The wait is recorded, where it is not yet

asked_tied : (b : AgentView) (l : Ledger) (s : ℕ) → IsTied b l → has_drained l ≡ false → need b ≡ asks_message s → IsTied b (asked l b.number s) × (has_drained (asked l b.number s) ≡ false)
asked_tied b l s tied still is = subst (λ z. IsTied b (cond (is_some (waits l b.number) || z) l (Acted b.number (Waiting s) ∷ l)) × (has_drained (cond (is_some (waits l b.number) || z) l (Acted b.number (Waiting s) ∷ l)) ≡ false)) (sym (awake b l tied (ap asks_to_sleep is))) (by_wait (waits l b.number) refl)
  where
    by_wait : (w : Option ℕ) → waits l b.number ≡ w → IsTied b (cond (is_some w || false) l (Acted b.number (Waiting s) ∷ l)) × (has_drained (cond (is_some w || false) l (Acted b.number (Waiting s) ∷ l)) ≡ false)
    by_wait None w = (awaits b l (Acted b.number (Waiting s) ∷ l) s tied refl w still is, still)
    by_wait (Some t) w = (tied, still)

asked_grows : (l : Ledger) (n s : ℕ) → GrowsBy n l (asked l n s)
asked_grows l n s = by_wait (is_some (waits l n) || asleep l n)
  where
    by_wait : (b : Bool) → GrowsBy n l (cond b l (Acted n (Waiting s) ∷ l))
    by_wait true = grows_none n l
    by_wait false = grows_one n l (Acted n (Waiting s) ∷ l) (Acted n (Waiting s)) (Waits s) refl refl

asked_ends : (l : Ledger) (n s a : ℕ) → ended (asked l n s) a ≡ ended l a
asked_ends l n s a = by_wait (is_some (waits l n) || asleep l n)
  where
    by_wait : (b : Bool) → ended (cond b l (Acted n (Waiting s) ∷ l)) a ≡ ended l a
    by_wait true = refl
    by_wait false = refl

-- the agent waits on
pub stay_ties : (b : AgentView) (s : StakeView) (l : LedgerView) (k : Ledger) (n t : ℕ) → IsReady b s l → need b ≡ asks_message t → n ≡ b.number → k ≡ asked l.history n t → IsTied b k
stay_ties b s l k n t ready is same more =
    subst (IsTied b) (sym (more ∙ ap (λ n. asked l.history n t) same)) (asked_tied b l.history t ready.tied (still_undrained b s l t ready is) is).0

pub stay_keeps : (b : AgentView) (s : StakeView) (l m : LedgerView) (n t : ℕ) → IsHeld b s l → n ≡ b.number → m.agents ≡ l.agents → m.history ≡ asked l.history n t → Keeps b l b s m
stay_keeps b s l m n t ready same agents more =
    let is = more ∙ ap (λ n. asked l.history n t) same in
    kept_after b b s s l m ready refl refl agents (ap (λ l. ended l b.number) is ∙ asked_ends l.history b.number t b.number) (subst (GrowsBy b.number l.history) (sym is) (asked_grows l.history b.number t))

-- it skips its job
skip_grows : (l k : Ledger) (n t : ℕ) → k ≡ Acted n (Passed t) ∷ asked l n t → GrowsBy n l k
skip_grows l k n t more = grows_on n l (asked l n t) k (asked_grows l n t) (grows_one n (asked l n t) k (Acted n (Passed t)) (Passes t) more refl)

pub skipped_ties : (old new : AgentView) (s : StakeView) (l : LedgerView) (k : Ledger) (n t : ℕ) → IsReady old s l → need old ≡ asks_message t → n ≡ old.number → k ≡ Acted n (Passed t) ∷ asked l.history n t → Skips old new → IsSettled new k
skipped_ties old new s l k n t ready is same more skips =
    let before = asked_tied old l.history t ready.tied (still_undrained old s l t ready is) is in
    skip_ties old new (asked l.history old.number t) k t before.0 before.1 is (more ∙ ap (λ n. Acted n (Passed t) ∷ asked l.history n t) same) skips

pub skipped_keeps : (old new : AgentView) (s : StakeView) (l m : LedgerView) (n t : ℕ) → IsHeld old s l → n ≡ old.number → m.agents ≡ l.agents → m.history ≡ Acted n (Passed t) ∷ asked l.history n t → Skips old new → Keeps old l new s m
skipped_keeps old new s l m n t ready same agents more skips =
    let is = more ∙ ap (λ n. Acted n (Passed t) ∷ asked l.history n t) same in
    let stays = skipped_stays old new skips in
    keeps old new l m s stays.step (holds_still old new s stays ready.held) agents (ap (λ l. ended l old.number) is ∙ asked_ends l.history old.number t old.number) (skip_grows l.history m.history old.number t is)

pub unskipped_keeps : (old new : AgentView) (s : StakeView) (l m : LedgerView) (n t : ℕ) → IsHeld old s l → n ≡ old.number → m.agents ≡ l.agents → m.history ≡ Acted n (Passed t) ∷ asked l.history n t → new ≡ old → Keeps old l new s m
unskipped_keeps old new s l m n t ready same agents more back =
    let is = more ∙ ap (λ n. Acted n (Passed t) ∷ asked l.history n t) same in
    kept_after old new s s l m ready back refl agents (ap (λ l. ended l old.number) is ∙ asked_ends l.history old.number t old.number) (skip_grows l.history m.history old.number t is)

-- A message is taken

pub message_keeps : (old new : AgentView) (s t : StakeView) (l m : LedgerView) (a k : ℕ) → IsHeld old s l → Stays old new → t ≡ s → a ≡ old.number → m.agents ≡ l.agents → m.history ≡ Taken k a ∷ l.history → Keeps old l new t m
message_keeps old new s t l m a k ready stays stake same agents more =
    keeps old new l m t stays.step (subst (Holds new) (sym stake) (holds_still old new s stays ready.held)) agents (ap (λ l. ended l old.number) more) (taking_grows old l.history m.history a k same more)

pub unreceived_keeps : (old new : AgentView) (s t : StakeView) (l m : LedgerView) (a k : ℕ) → IsHeld old s l → new ≡ old → t ≡ s → a ≡ old.number → m.agents ≡ l.agents → m.history ≡ Taken k a ∷ l.history → Keeps old l new t m
unreceived_keeps old new s t l m a k ready back stake same agents more =
    kept_after old new s t l m ready back stake agents (ap (λ l. ended l old.number) more) (taking_grows old l.history m.history a k same more)
