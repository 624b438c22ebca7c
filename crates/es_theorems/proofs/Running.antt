-- Two runs by turns of one plan come to clusters that tell the same.
use Rattle.std.proofs.Common.{◌≡◌, ℕ, zero, suc, ◌+◌, ◌<◌, ◌||◌, not, Bool, true, cond, sym, ◌∙◌, ap, refl, subst, arith, List, [], ◌∷◌, ◌++◌, length, Option, Some, None, inl, inr, ◌⊎◌, false}
use Rattle.std.specs.Prelude.{slice_get, slice_set}
use Rattle.std.specs.List.{list_all, position_from}
use Rattle.std.proofs.lemmas.Bool.{and_parts}
use Rattle.es_event.specs.declared.event.Event.{Event}
use Rattle.es_event.specs.declared.ledger_event.LedgerEvent.{LedgerEvent}
use Rattle.es_event.specs.declared.plan.AgentPlan.{AgentPlan}
use Rattle.es_event.specs.declared.plan.Plan.{Plan}
use Rattle.es_event.specs.declared.row.Row.{Row}
use Rattle.es_event.specs.Follows.{Permits}
use Rattle.es_event.specs.Jobs.{receivers}
use Rattle.es_event.specs.Ledger.{Ledger, ended as has_ended, word as word_of}
use Rattle.es_event.specs.LegalLedger.{LegalSoFar, all_ended, has_message, owed, ComesNext}
use Rattle.es_event.specs.Order.{Phase, between, handed, inside, stopped, ended, phase, nothing, due_at}
use Rattle.es_event.specs.Runs.{IsRunOver}
use Rattle.es_event.specs.Waiters.{asleep}
use Rattle.es_event.proofs.Extending.{agrees_longer, still_follows, still_legal}
use Rattle.es_match.specs.Cluster.{DeedsMeet}
use Rattle.es_match.specs.Deeds.{Deed, part}
use Rattle.es_record.specs.AgentView.{AgentView, IsNext, with_row}
use Rattle.es_rules.specs.Needs.{Need, asks_ledger, asks_message, need, for_word, asks_nothing}
use Rattle.es_agent.specs.Tickets.{is_ended, tickets}
use Rattle.es_cluster.specs.Tied.{IsTied, came_to}
use Rattle.es_cluster.specs.Turned.{GrowsByOne, WaitsOn, SleepsOn}
use Rattle.es_cluster.specs.declared.member.Progress.{Progress}
use Rattle.es_cluster.specs.declared.member.Progress.TheVariants.{Moved, Waiting, Ended}
use Rattle.es_cluster.proofs.Midway.{ended_where_all, awake as up_of}
use Rattle.es_cluster.specs.Moves.{all_over, goes_on, goes_on_by, is_over, mover, or_else}
use Rattle.es_cluster.specs.State.{ClusterView, first_views, first_state}
use Rattle.es_cluster.specs.Turns.{Takes, Turned}
use Rattle.es_cluster.proofs.Beginning.{first_view, first_length}
use Rattle.es_cluster.proofs.Mover.{by_asked, stays_here, over_asks_nothing}
use Rattle.es_cluster.proofs.Standing.{by_place, seated_still, set_length, set_same, tied_of, tied_still, within}
use Rattle.es_event.specs.declared.access.Task.{Task}
use Rattle.es_event.specs.declared.ledger_event.Act.TheVariants.{Slept}
use Rattle.es_event.specs.declared.ledger_event.LedgerEvent.TheVariants.{Acted}
use Rattle.es_ticket.specs.Stakes.{at}
use Rattle.es_ledger.specs.declared.turn.Turn.{Turn}
use Rattle.es_ledger.specs.declared.turn.Turn.TheVariants.{Stay}
use Rattle.es_cluster.specs.Midway.{asks_to_sleep}
use Rattle.es_cluster.proofs.Sleeping.{begun_at, by_rest, no_message, roused_stays, some_turn}
use Rattle.es_theorems.proofs.Waiting.{its_word_as}
use Rattle.es_theorems.specs.Settled.{word_at}
use Rattle.es_theorems.specs.Rousing.{Led, Way, awake, sleeping}
use Rattle.es_theorems.specs.Alike.{Alike}
use Rattle.es_theorems.specs.Calm.{Calm}
use Rattle.es_theorems.specs.Doing.{did}
use Rattle.es_theorems.specs.Sleepless.{never_sleeps, never_sleeps_in}
use Rattle.es_theorems.specs.Together.{Same, Stands, StandsAt, Together, AnyPlan, StandsAtBy, StandsBy}
use Rattle.es_theorems.proofs.Calm.{waits_on}
use Rattle.es_theorems.proofs.Deciding.{Agree, one_way}
use Rattle.es_theorems.proofs.Doing.{all_fit_same, did_same, same_listed}
use Rattle.es_theorems.proofs.Sleepless.{calm_view}
use Rattle.es_theorems.proofs.Telling.{after_wait, same, same_message, through, turned}
use Rattle.es_theorems.proofs.Turning.{after_event, still_owes_nothing, DoneAll, done_all, way}
use Rattle.es_theorems.proofs.Liking.{same_all_ended}

-- A cluster before its first event

first_at : (agents n : ℕ) (ps : List AgentPlan) (i : ℕ) (b : AgentView) → slice_get (first_views agents n ps) i ≡ Some b → (p : AgentPlan) × (b ≡ first_view agents (n + i) p) × (i < length ps)
first_at agents n [] i b is = cc
first_at agents n (p ∷ ps) zero b is =
    let found : b ≡ first_view agents n p = cc in
    (p, found ∙ ap (λ m. first_view agents m p) (let same : n ≡ n + 0 = omega arith in same), omega arith)
first_at agents n (p ∷ ps) (suc i) b is =
    let rest = first_at agents (n + 1) ps i b is in
    (rest.0, rest.1 ∙ ap (λ m. first_view agents m rest.0) (let same : n + 1 + i ≡ n + suc i = omega arith in same), (let r = rest.2 in omega (arith, r)))

pub first_calm : (agents n : ℕ) (ps : List AgentPlan) (i : ℕ) (b : AgentView) → list_all never_sleeps_in ps ≡ true → slice_get (first_views agents n ps) i ≡ Some b → never_sleeps_in b.plan ≡ true
first_calm agents n [] i b calm is = cc
first_calm agents n (p ∷ ps) zero b calm is =
    let found : b ≡ first_view agents n p = cc in
    ap (λ b. never_sleeps_in b.plan) found ∙ (and_parts (never_sleeps_in p) (list_all never_sleeps_in ps) calm).0
first_calm agents n (p ∷ ps) (suc i) b calm is = first_calm agents (n + 1) ps i b (and_parts (never_sleeps_in p) (list_all never_sleeps_in ps) calm).1 is

stands_first_at : {Says : AgentPlan → Type 0} (p : Plan) (n : ℕ) (a : AgentPlan) → n < length p.agents → Says a → StandsAtBy Says (first_state p) n (first_view (length p.agents) n a)
stands_first_at p n a known says = record {
  number = refl;
  tied = record { ties = (refl, refl); awaits = λ s is. cc; sleeps = λ s is. cc; waits_end = refl; drains_end = refl };
  seated = record { known = known; agents = refl; over = refl };
  run = (tt, tt);
  calm = says;
}

stands_first_by : {Says : AgentPlan → Type 0} (p : Plan) → ((n : ℕ) (b : AgentView) → slice_get (first_views (length p.agents) 0 p.agents) n ≡ Some b → Says b.plan) → StandsBy Says (first_state p)
stands_first_by {Says} p all = record {
  size = first_length (length p.agents) 0 p.agents;
  each = λ n b is.
      (let at = first_at (length p.agents) 0 p.agents n b is in
      let same : 0 + n ≡ n = omega arith in
      let its : Says at.0 = subst (λ b. Says b.plan) at.1 (all n b is) in
      subst (StandsAtBy Says (first_state p) n) (sym (at.1 ∙ ap (λ m. first_view (length p.agents) m at.0) same)) (stands_first_at p n at.0 at.2 its));
  undrained = refl;
}

pub stands_first : (p : Plan) → never_sleeps p ≡ true → Stands (first_state p)
stands_first p calm = stands_first_by p (λ n b is. first_calm (length p.agents) 0 p.agents n b calm is)

pub stands_anyhow : (p : Plan) → StandsBy AnyPlan (first_state p)
stands_anyhow p = stands_first_by p (λ n b is. tt)

-- whatever is said of the plans
pub anyhow : {Says : AgentPlan → Type 0} (c : ClusterView) → StandsBy Says c → StandsBy AnyPlan c
anyhow c stands = record {
  size = stands.size;
  each = λ n b is. (let was = stands.each n b is in record { number = was.number; tied = was.tied; seated = was.seated; run = was.run; calm = tt });
  undrained = stands.undrained;
}

-- A cluster after a turn

-- whatever ticket comes with the event, its history is a run still
pub run_on : (b new : AgentView) → IsRunOver b.over b.plan b.history → GrowsByOne b new → IsRunOver new.over new.plan new.history
run_on b new run turn = subst (λ x. IsRunOver x.over x.plan x.history) (sym turn.3) (by_row turn.1 turn.2)
  where
    by_row : (r : Option Row) → IsNext (with_row r b) turn.0 → IsRunOver (with_row r b).over b.plan (turn.0 ∷ b.history)
    by_row None next = ((next.lawful, run.0), (next.permitted, run.1))
    by_row (Some r) next =
        let agrees = agrees_longer b.history b.over r in (
          (next.lawful, still_legal b.over (with_row (Some r) b).over (receivers b.plan.jobs) b.history agrees run.0),
          (next.permitted, still_follows b.over (with_row (Some r) b).over b.plan b.history agrees run.0 run.1),
        )

number_on : (p : Progress) (b new : AgentView) → Takes p b new → new.number ≡ b.number
number_on Moved b new turn = ap (λ b. b.number) turn.3
number_on Waiting b new turn = ap (λ b. b.number) turn.1
number_on Ended b new turn = ap (λ b. b.number) turn.1

plan_on : (p : Progress) (b new : AgentView) → Takes p b new → new.plan ≡ b.plan
plan_on Moved b new turn = ap (λ b. b.plan) turn.3
plan_on Waiting b new turn = ap (λ b. b.plan) turn.1
plan_on Ended b new turn = ap (λ b. b.plan) turn.1

still_run : (p : Progress) (b new : AgentView) → IsRunOver b.over b.plan b.history → Takes p b new → IsRunOver new.over new.plan new.history
still_run Moved b new run turn = run_on b new run turn
still_run Waiting b new run turn = subst (λ b. IsRunOver b.over b.plan b.history) (sym turn.1) run
still_run Ended b new run turn = subst (λ b. IsRunOver b.over b.plan b.history) (sym turn.1) run

pub stands_after : {Says : AgentPlan → Type 0} (p : Progress) (n : ℕ) (c d : ClusterView) → StandsBy Says c → Turned p n c d → StandsBy Says d
stands_after {Says} p n c d stands turn = record {
  size = ap length turn.agents ∙ set_length c.agents n turn.after ∙ stands.size ∙ sym turn.number;
  each = λ i b is. by_place (StandsAtBy Says d) c.agents n turn.after (within c.agents n turn.before turn.agent) here there i b (ap (λ bs. slice_get bs i) (sym turn.agents) ∙ is);
  undrained = subst (λ l. owed l ≡ None) (sym turn.ledger.1) (still_owes_nothing n c.ledger.history turn.ledger.0 turn.ledger.2 stands.undrained);
}
  where
    was : StandsAtBy Says c n turn.before
    was = stands.each n turn.before turn.agent

    here : StandsAtBy Says d n turn.after
    here = record {
      number = number_on p turn.before turn.after turn.turn ∙ was.number;
      tied = tied_of p turn.after d.ledger.history turn.tied;
      seated = turn.seated;
      run = still_run p turn.before turn.after was.run turn.turn;
      calm = subst Says (sym (plan_on p turn.before turn.after turn.turn)) was.calm;
    }

    there : (i : ℕ) (b : AgentView) → (i ≡ n → ⊥) → slice_get c.agents i ≡ Some b → StandsAtBy Says d i b
    there i b other is =
        let before = stands.each i b is in
        let apart : b.number ≡ n → ⊥ = λ same. other (sym before.number ∙ same) in
        record {
          number = before.number;
          tied = tied_still b c.ledger.history d.ledger.history n apart turn.ledger before.tied turn.after (tied_of p turn.after d.ledger.history turn.tied);
          seated = seated_still b c.ledger d.ledger n apart (turn.number, turn.ledger) before.seated;
          run = before.run;
          calm = before.calm;
        }

-- The agent never slept

-- where it waits on, it does for a message
pub waits_for_one : (n : ℕ) (c d : ClusterView) → Stands c → (turn : Turned Waiting n c d) → WaitsOn turn.before c.ledger d.ledger
waits_for_one n c d stands turn = waits_on turn.before c.ledger d.ledger (stands.each n turn.before turn.agent).calm turn.told

-- after a turn it is awake, and did nothing of sleep
pub turn_calm : (n : ℕ) (c d : ClusterView) → Stands c → (turn : Turned Moved n c d) → Calm n d.ledger.history
turn_calm n c d stands turn =
    let was : StandsAt c n turn.before = stands.each n turn.before turn.agent in
    calm_view turn.after n d.ledger.history (number_on Moved turn.before turn.after turn.turn ∙ was.number) (ap never_sleeps_in (plan_on Moved turn.before turn.after turn.turn) ∙ was.calm)
    (still_run Moved turn.before turn.after was.run turn.turn).1 turn.tied

-- what is legal after that was legal before
pub shorter : (k : ℕ) (es : List LedgerEvent) (l : Ledger) → LegalSoFar k (es ++ l) → LegalSoFar k l
shorter k [] l legal = legal
shorter k (e ∷ es) l legal = shorter k es l legal.1

-- A turn in both

-- agent n of this view went on so, from a ledger to another
pub record Step (n : ℕ) (b : AgentView) (l m : Ledger) (new : AgentView) : Type 0 where
  pub event : Event
  pub row : Option Row
  pub deeds : List Deed
  pub is : new ≡ after_event b row event
  pub alike : Alike m (did n deeds l)
  pub way : Way n l b event row deeds

pub step_of : (n : ℕ) (c d : ClusterView) → StandsBy AnyPlan c → (turn : Turned Moved n c d) → Step n turn.before c.ledger.history d.ledger.history turn.after
step_of n c d stands turn =
    let b = turn.before in
    let was : StandsAtBy AnyPlan c n b = stands.each n b turn.agent in
    let e = turn.turn.0 in
    let r = turn.turn.1 in
    let tied : IsTied turn.after d.ledger.history = turn.tied.tied in
    let number : turn.after.number ≡ n = number_on Moved b turn.after turn.turn ∙ was.number in
    let doing : DoneAll n c.ledger.history d.ledger.history = done_all d.ledger.agents n c.ledger.history d.ledger.history turn.ledger stands.undrained turn.legal.0 tied.waits_end in
    let before : DeedsMeet b.history (part c.ledger.history n) (came_to b) = subst (λ n. DeedsMeet b.history (part c.ledger.history n) (came_to b)) was.number was.tied.ties in
    let ties : DeedsMeet turn.after.history (part d.ledger.history n) (came_to turn.after) = subst (λ n. DeedsMeet turn.after.history (part d.ledger.history n) (came_to turn.after)) number tied.ties in
    let now : DeedsMeet (e ∷ b.history) (part d.ledger.history n) (came_to (after_event b r e)) = subst (λ x. DeedsMeet x.history (part d.ledger.history n) (came_to x)) turn.turn.3 ties in
    let up : asleep d.ledger.history n ≡ false = ap (asleep d.ledger.history) (sym number) ∙ turn.tied.awake in
    record { event = e; row = r; deeds = doing.deeds; is = turn.turn.3; alike = doing.alike; way = way n c.ledger.history d.ledger.history b e r before now turn.turn.2 doing up }

elsewhere : (n : ℕ) (l m : Ledger) (b : AgentView) (e : Event) (r : Option Row) (ds : List Deed) → Alike l m → Way n l b e r ds → Way n m b e r ds
elsewhere n l m b e r ds alike x = record {
  next = x.next;
  left = x.left;
  met = x.met;
  came = x.came;
  sender = x.sender;
  fit = all_fit_same l m n ds alike x.fit;
  led = subst (λ t. Led (cond t (sleeping None) awake) ds awake) (alike.asleep n) x.led;
}

-- from a ledger that tells the same
pub step_from : (n : ℕ) (b new : AgentView) (k l m : Ledger) → Alike l k → Step n b l m new → Step n b k m new
step_from n b new k l m alike x = record {
  event = x.event;
  row = x.row;
  deeds = x.deeds;
  is = x.is;
  alike = through m (did n x.deeds l) (did n x.deeds k) x.alike (did_same l k n x.deeds alike);
  way = elsewhere n l k b x.event x.row x.deeds alike x.way;
}

-- the two come to one view, and to ledgers that tell the same
pub record Meet (l m : Ledger) (x y : AgentView) : Type 0 where
  pub core : x ≡ y
  pub ledgers : Alike l m

pub meet : (n : ℕ) (b x y : AgentView) (l m u v : Ledger) → IsRunOver b.over b.plan b.history → Alike l m → Step n b l u x → Step n b m v y → Meet u v x y
meet n b x y l m u v run alike left right =
    let there = step_from n b y l m v (turned l m alike) right in
    let ds = left.deeds in
    let es = there.deeds in
    let agreed : Agree n l left.event there.event left.row there.row ds es = one_way n l b left.event there.event left.row there.row ds es run left.way there.way in
    record {
      core = left.is ∙ ap (λ r. after_event b r left.event) agreed.row ∙ ap (after_event b there.row) agreed.event ∙ sym there.is;
      ledgers = through u (did n ds l) v left.alike (through (did n ds l) (did n es l) v agreed.alike (turned v (did n es l) there.alike));
    }

turn_same : (n : ℕ) (c d x y : ClusterView) → Together c d → Turned Moved n c x → Turned Moved n d y → Same x y
turn_same n c d x y both left right =
    let there : Some right.before ≡ Some left.before = sym right.agent ∙ ap (λ bs. slice_get bs n) (sym both.same.agents) ∙ left.agent in
    let view : right.before ≡ left.before = cc in
    let one = step_of n c x both.left left in
    let two = subst (λ b. Step n b d.ledger.history y.ledger.history right.after) view (step_of n d y both.right right) in
    let met = meet n left.before left.after right.after c.ledger.history d.ledger.history x.ledger.history y.ledger.history (both.left.each n left.before left.agent).run both.same.ledgers one two in
    record {
      agents = left.agents ∙ ap (slice_set c.agents n) met.core ∙ ap (λ bs. slice_set bs n right.after) both.same.agents ∙ sym right.agents;
      number = left.number ∙ both.same.number ∙ sym right.number;
      ledgers = met.ledgers;
    }

pub turn_together : (n : ℕ) (c d x y : ClusterView) → Together c d → Turned Moved n c x → Turned Moved n d y → Together x y
turn_together n c d x y both left right = record { left = stands_after Moved n c x both.left left; right = stands_after Moved n d y both.right right; same = turn_same n c d x y both left right }

-- A turn in which an agent has no event more

-- an agent that begins to sleep at a word, which is the one that it waits for, through its ticket of this row
pub record Lies (n : ℕ) (c d : ClusterView) : Type 0 where
  pub before : AgentView
  pub here : slice_get c.agents n ≡ Some before
  pub agents : d.agents ≡ c.agents
  pub number : d.ledger.agents ≡ c.ledger.agents
  pub object : ℕ
  pub index : ℕ
  pub word : ℕ
  pub row : Row
  pub asks : need before ≡ asks_ledger (for_word object index (Task.Sleep word))
  pub ticket : Some row ≡ at object (tickets before)
  pub up : asleep c.ledger.history n ≡ false
  pub found : word_of c.ledger.history row.block index ≡ word
  pub reached : word_at c.ledger.history row.serial index ≡ word
  pub history : d.ledger.history ≡ Acted n (Slept row.serial index word) ∷ c.ledger.history

pub same_through : (c d e : ClusterView) → Same c d → Same d e → Same c e
same_through c d e a b = record { agents = a.agents ∙ b.agents; number = a.number ∙ b.number; ledgers = through c.ledger.history d.ledger.history e.ledger.history a.ledgers b.ledgers }

pub same_turned : (c d : ClusterView) → Same c d → Same d c
same_turned c d a = record { agents = sym a.agents; number = sym a.number; ledgers = turned c.ledger.history d.ledger.history a.ledgers }

idle_agents : (n : ℕ) (c d : ClusterView) → (turn : Turned Waiting n c d) → d.agents ≡ c.agents
idle_agents n c d turn = turn.agents ∙ ap (slice_set c.agents n) turn.turn.1 ∙ set_same c.agents n turn.before turn.agent

-- it waits for a message, which tells nothing
waited : (n : ℕ) (c d : ClusterView) → StandsBy AnyPlan c → (turn : Turned Waiting n c d) → WaitsOn turn.before c.ledger d.ledger → Same d c
waited n c d stands turn on =
    let b = turn.before in
    let was = stands.each n b turn.agent in
    let stays = stays_here b c.ledger.history d.ledger.history c.ledger.agents on.0 (up_of b c.ledger.history was.tied (ap asks_to_sleep on.1)) was.tied.awaits on.1 on.2 in
    record {
      agents = idle_agents n c d turn;
      number = turn.number;
      ledgers = subst (λ l. Alike l c.ledger.history) (sym stays.history) (by_asked (λ l. Alike l c.ledger.history) c.ledger.history b.number on.0 (same c.ledger.history) (after_wait c.ledger.history b.number on.0));
    }

-- or it sleeps on, or begins to
slept_or_lies : (n : ℕ) (c d : ClusterView) → StandsBy AnyPlan c → (turn : Turned Waiting n c d) → SleepsOn turn.before c.ledger d.ledger → Same d c ⊎ Lies n c d
slept_or_lies n c d stands turn on =
    by_rest (Some Stay) d.ledger.history l c.ledger.agents b.number on.1 on.2 on.3 on.6
    (λ sleeping told more. inl (unchanged (roused_stays l d.ledger.history c.ledger.agents b.number more (some_turn _ told))))
    (λ waiting told more. no_message b l on.0 on.1 on.2 was.tied on.4 waiting)
    (λ up there told more. inr (lies up there (roused_stays (begun_at l b.number on.3 on.1 on.2) d.ledger.history c.ledger.agents b.number more (some_turn _ told) ∙ ap (λ a. Acted a (Slept on.3.serial on.1 on.2) ∷ l) was.number)))
    (λ up other told more. let clash : ◌≡◌ {A = Option Turn} (Some Stay) None = told in cc)
  where
    b : AgentView
    b = turn.before

    l : Ledger
    l = c.ledger.history

    was : StandsAtBy AnyPlan c n b
    was = stands.each n b turn.agent

    unchanged : d.ledger.history ≡ l → Same d c
    unchanged is = record { agents = idle_agents n c d turn; number = turn.number; ledgers = subst (λ k. Alike k l) (sym is) (same l) }

    -- it reaches the word through the ticket
    reaches : d.ledger.history ≡ Acted n (Slept on.3.serial on.1 on.2) ∷ l → on.2 ≡ word_at l on.3.serial on.1
    reaches history =
        let legal : LegalSoFar d.ledger.agents (Acted n (Slept on.3.serial on.1 on.2) ∷ l) = subst (LegalSoFar d.ledger.agents) history turn.legal.0 in
        let may : ComesNext d.ledger.agents l (Acted n (Slept on.3.serial on.1 on.2)) None = subst (ComesNext d.ledger.agents l (Acted n (Slept on.3.serial on.1 on.2))) stands.undrained legal.0 in
        its_word_as l n on.3.serial on.1 on.2 may.0

    lies : asleep l b.number ≡ false → word_of l on.3.block on.1 ≡ on.2 → d.ledger.history ≡ Acted n (Slept on.3.serial on.1 on.2) ∷ l → Lies n c d
    lies up there history = record {
      before = b;
      here = turn.agent;
      agents = idle_agents n c d turn;
      number = turn.number;
      object = on.0;
      index = on.1;
      word = on.2;
      row = on.3;
      asks = on.4;
      ticket = on.5;
      up = ap (asleep l) (sym was.number) ∙ up;
      found = there;
      reached = sym (reaches history);
      history = history;
    }

pub waits_or_lies : (n : ℕ) (c d : ClusterView) → StandsBy AnyPlan c → Turned Waiting n c d → Same d c ⊎ Lies n c d
waits_or_lies n c d stands turn = elim turn.told [
  | inl on ↦ inl (waited n c d stands turn on)
  | inr on ↦ slept_or_lies n c d stands turn on
]

-- Who moves

same_goes : (l m : Ledger) (b : AgentView) → Alike l m → goes_on l b ≡ goes_on m b
same_goes l m b alike = by_need (need b)
  where
    by_need : (q : Need) → goes_on_by l b.number q ≡ goes_on_by m b.number q
    by_need (asks_message s) = ap (λ x. x || has_ended l s) (same_message l m s b.number alike) ∙ ap (λ x. has_message m s b.number || x) (alike.ends s)
    by_need (asks_ledger r) = ap not (same_listed l m b.number alike)
    by_need _ = refl

same_position : {X : Type 0} (f g : X → Bool) (k : ℕ) (xs : List X) → ((x : X) → f x ≡ g x) → position_from f k xs ≡ position_from g k xs
same_position f g k [] same = refl
same_position f g k (x ∷ xs) same = ap (λ b. cond b (Some k) (position_from f (k + 1) xs)) (same x) ∙ ap (cond (g x) (Some k)) (same_position f g (k + 1) xs same)

pub same_mover : (c d : ClusterView) → Same c d → mover c ≡ mover d
same_mover c d both =
    ap (λ o. or_else o (position_from (λ b. not (is_over b)) 0 c.agents))
    (same_position (goes_on c.ledger.history) (goes_on d.ledger.history) 0 c.agents (λ b. same_goes c.ledger.history d.ledger.history b both.ledgers))
    ∙ ap (λ bs. or_else (position_from (goes_on d.ledger.history) 0 bs) (position_from (λ b. not (is_over b)) 0 bs)) both.agents

pub same_over : (c d : ClusterView) → Same c d → all_over c ≡ all_over d
same_over c d both = same_all_ended c.ledger.history d.ledger.history c.ledger.agents both.ledgers ∙ ap (all_ended d.ledger.history) both.number

nothing_due : (b : AgentView) (p : Phase) → is_ended p ≡ true → due_at b.plan b.history p ≡ nothing
nothing_due b between is = cc
nothing_due b handed is = cc
nothing_due b inside is = cc
nothing_due b stopped is = cc
nothing_due b ended is = refl

-- where all have ended none moves
pub none_moves : (n : ℕ) (c d : ClusterView) → StandsBy AnyPlan c → all_over c ≡ true → Turned Moved n c d → ⊥
none_moves n c d stands all turn =
    let b = turn.before in
    let was : StandsAtBy AnyPlan c n b = stands.each n b turn.agent in
    let known : n < c.ledger.agents = (let there = within c.agents n b turn.agent in let size = stands.size in omega (arith, there, size)) in
    let closed : is_ended (phase b.history) ≡ true = sym was.seated.over ∙ ap (has_ended c.ledger.history) was.number ∙ ended_where_all c.ledger.history c.ledger.agents n known all in
    subst (λ d. Permits (with_row turn.turn.1 b).over (receivers b.plan.jobs) b.history d turn.turn.0) (nothing_due b (phase b.history) closed) turn.turn.2.permitted

-- nor begins to sleep
pub none_lies : (n : ℕ) (c d : ClusterView) → StandsBy AnyPlan c → all_over c ≡ true → Lies n c d → ⊥
none_lies n c d stands all lies =
    let b = lies.before in
    let was : StandsAtBy AnyPlan c n b = stands.each n b lies.here in
    let known : n < c.ledger.agents = (let there = within c.agents n b lies.here in let size = stands.size in omega (arith, there, size)) in
    let closed : is_over b ≡ true = sym was.seated.over ∙ ap (has_ended c.ledger.history) was.number ∙ ended_where_all c.ledger.history c.ledger.agents n known all in
    let clash : asks_nothing ≡ asks_ledger (for_word lies.object lies.index (Task.Sleep lies.word)) = sym (over_asks_nothing b closed) ∙ lies.asks in
    cc
