-- The scribes of agents, and what turns tell.
use Rattle.std.proofs.Common.{◌≡◌, ℕ, zero, suc, ◌+◌, ◌-◌, ◌<◌, ◌≤◌, sym, ◌∙◌, ap, refl, subst, arith, List, [], ◌∷◌, ◌++◌, append_assoc, append-nil, length, length-append, reverse, take, get_or, Some, Result, Ok, Err, ◌⊎◌, inl, inr}
use Rattle.std.specs.Prelude.{slice_get, slice_index_or, slice_set, OnOk}
use Rattle.std.specs.List.{AllByRecursion}
use Rattle.std.proofs.lemmas.List.{map_more, reverse-append, reverse-reverse}
use Rattle.es_event.specs.declared.event.Event.{Event}
use Rattle.es_event.specs.declared.plan.AgentPlan.{AgentPlan}
use Rattle.es_event.specs.declared.plan.Plan.{Plan}
use Rattle.es_options.specs.declared.view.View.{View}
use Rattle.es_cluster.specs.declared.member.Progress.{Progress}
use Rattle.es_cluster.specs.declared.member.Progress.TheVariants.{Moved, Waiting, Ended}
use Rattle.es_cluster.specs.Members.{MemberView}
use Rattle.es_cluster.specs.Turned.{GrowsByOne}
use Rattle.es_record.specs.AgentView.{AgentView}
use Rattle.es_cluster.specs.Moves.{with_drained}
use Rattle.es_trace.specs.declared.scribe.Scribe.{Scribe}
use Rattle.es_trace.specs.Keeping.{Keeps}
use Rattle.es_cluster.specs.State.{ClusterView, cores, first_views, first_state, names_of}
use Rattle.es_cluster.specs.Turns.{Takes, Turned}
use Rattle.es_cluster.specs.Watched.{TakenTurn, IsToldOf, IsWatched}
use Rattle.es_cluster.proofs.Standing.{mapped_still, set_here, set_same, within}
use Rattle.es_turns.specs.declared.chronicle.Chronicle.{Chronicle}
use Rattle.es_turns.specs.Known.{Grows, HaveScribes, IsUnbegun, Knows, Says, Tells, so_far}
use Rattle.es_turns.proofs.Growing.{drained_later, ready}
use Rattle.es_turns.specs.Told.{AreTurnsTold, IsAfterTold, IsMoveTold, IsNewestTold, IsTraceFrom, event_told, told_from}

pub on_ok : {A E : Type 0} (r : Result A E) (P Q : Type 0) → (P → Q) → OnOk r P → OnOk r Q
on_ok (Ok a) P Q f p = f p
on_ok (Err e) P Q f p = tt

pub always_ok : {A E : Type 0} (r : Result A E) (P : Type 0) → P → OnOk r P
always_ok (Ok a) P p = p
always_ok (Err e) P p = tt

pub both_ok : {A E : Type 0} (r : Result A E) (P Q R : Type 0) → (P → Q → R) → OnOk r P → OnOk r Q → OnOk r R
both_ok (Ok a) P Q R f p q = f p q
both_ok (Err e) P Q R f p q = tt

-- Each agent has a scribe

pub have_length : (names : List (List ℕ)) (bs : List AgentView) (ss : List Scribe) → HaveScribes names bs ss → length ss ≡ length bs
have_length names [] [] have = refl
have_length names [] (s ∷ ss) have = absurd have
have_length names (b ∷ bs) [] have = absurd have
have_length names (b ∷ bs) (s ∷ ss) have = ap suc (have_length names bs ss have.1)

pub have_index : (names : List (List ℕ)) (bs : List AgentView) (ss : List Scribe) (n : ℕ) (b : AgentView) (d : Scribe) → HaveScribes names bs ss → slice_get bs n ≡ Some b → Keeps names b.plan b.history (slice_index_or ss n d)
have_index names [] [] n b d have is = cc
have_index names [] (t ∷ ss) n b d have is = absurd have
have_index names (c ∷ bs) [] n b d have is = absurd have
have_index names (c ∷ bs) (t ∷ ss) zero b d have is = let view : c ≡ b = cc in subst (λ b. Keeps names b.plan b.history t) view have.0
have_index names (c ∷ bs) (t ∷ ss) (suc n) b d have is = have_index names bs ss n b d have.1 is

pub have_set : (names : List (List ℕ)) (bs : List AgentView) (ss : List Scribe) (n : ℕ) (b : AgentView) (s : Scribe) → HaveScribes names bs ss → Keeps names b.plan b.history s → HaveScribes names (slice_set bs n b) (slice_set ss n s)
have_set names [] [] n b s have keeps = tt
have_set names [] (t ∷ ss) n b s have keeps = absurd have
have_set names (c ∷ bs) [] n b s have keeps = absurd have
have_set names (c ∷ bs) (t ∷ ss) zero b s have keeps = (keeps, have.1)
have_set names (c ∷ bs) (t ∷ ss) (suc n) b s have keeps = (have.0, have_set names bs ss n b s have.1 keeps)

pub have_more : (names : List (List ℕ)) (bs : List AgentView) (ss : List Scribe) (b : AgentView) (s : Scribe) → HaveScribes names bs ss → Keeps names b.plan b.history s → HaveScribes names (bs ++ b ∷ []) (ss ++ s ∷ [])
have_more names [] [] b s have keeps = (keeps, tt)
have_more names [] (t ∷ ss) b s have keeps = absurd have
have_more names (c ∷ bs) [] b s have keeps = absurd have
have_more names (c ∷ bs) (t ∷ ss) b s have keeps = (have.0, have_more names bs ss b s have.1 keeps)

-- A turn

pub takes_plan : (p : Progress) (old new : AgentView) → Takes p old new → new.plan ≡ old.plan
takes_plan Moved old new step = ap (λ (b : AgentView). b.plan) step.3
takes_plan Waiting old new step = ap (λ (b : AgentView). b.plan) step.1
takes_plan Ended old new step = ap (λ (b : AgentView). b.plan) step.1

-- one that does not move stays, and nothing is told of it
pub stays : (p : Progress) (old new : AgentView) → (p ≡ Waiting) ⊎ (p ≡ Ended) → Takes p old new → new ≡ old
stays Moved old new is takes = elim is [ inl e ↦ cc | inr e ↦ cc ]
stays Waiting old new is takes = takes.1
stays Ended old new is takes = takes.1

nothing_told : (v : View) (names : List (List ℕ)) (p : Progress) (b : AgentView) → (p ≡ Waiting) ⊎ (p ≡ Ended) → IsMoveTold v names p (Some b) []
nothing_told v names Moved b is = elim is [ inl e ↦ cc | inr e ↦ cc ]
nothing_told v names Waiting b is = refl
nothing_told v names Ended b is = refl

pub grows_by_none : (v : View) (names : List (List ℕ)) (p : Progress) (b : AgentView) (text : List ℕ) → (p ≡ Waiting) ⊎ (p ≡ Ended) → Grows text text (IsMoveTold v names p (Some b))
grows_by_none v names p b text is = ([], nothing_told v names p b is, sym (append-nil text))

pub still_have : (names : List (List ℕ)) (p : Progress) (n : ℕ) (bs : List AgentView) (b new : AgentView) (ss : List Scribe) → (p ≡ Waiting) ⊎ (p ≡ Ended) → slice_get bs n ≡ Some b → HaveScribes names bs ss → Takes p b new → HaveScribes names (slice_set bs n new) ss
still_have names p n bs b new ss is at have takes =
    subst (λ cs. HaveScribes names cs ss) (sym (ap (slice_set bs n) (stays p b new is takes) ∙ set_same bs n b at)) have

after_is : (p : Progress) (n : ℕ) (old new : ClusterView) (t : Turned p n old new) (x : AgentView) → slice_get new.agents n ≡ Some x → t.after ≡ x
after_is p n old new t x is =
    let found : Some t.after ≡ Some x = sym (ap (λ bs. slice_get bs n) t.agents ∙ set_here old.agents n t.after (within old.agents n t.before t.agent)) ∙ is in
    cc

pub takes_there : (p : Progress) (n : ℕ) (old new : ClusterView) (t : Turned p n old new) (x : AgentView) → slice_get new.agents n ≡ Some x → Takes p t.before x
takes_there p n old new t x at = subst (λ b. Takes p t.before b) (after_is p n old new t x at) t.turn

-- what is known after it
pub knows_more : (p : Progress) (n : ℕ) (old new : ClusterView) (was now : Chronicle) (x : AgentView) (t : Turned p n old new) → slice_get new.agents n ≡ Some x → Knows old was
    → now.names.items ≡ was.names.items
    → ((bs : List AgentView) (b : AgentView) → slice_get bs n ≡ Some b → HaveScribes was.names.items bs was.scribes.items → Takes p b x → HaveScribes was.names.items (slice_set bs n x) now.scribes.items)
    → now.written ≡ length new.ledger.history → Says new.ledger.history now.blocks → Knows new now
knows_more p n old new was now x t at known names scribes written blocks =
    let after = after_is p n old new t x at in
    let takes : Takes p t.before x = subst (λ b. Takes p t.before b) after t.turn in
    let agents : new.agents ≡ slice_set old.agents n x = t.agents ∙ ap (slice_set old.agents n) after in
    let same : names_of new.agents ≡ names_of old.agents = ap names_of agents ∙ mapped_still (λ b. b.plan.name) old.agents n t.before x t.agent (ap (λ (q : AgentPlan). q.name) (takes_plan p t.before x takes)) in
    record {
      names = names ∙ known.names ∙ sym same;
      scribes = subst (λ ns. HaveScribes ns new.agents now.scribes.items) (sym names) (subst (λ bs. HaveScribes was.names.items bs now.scribes.items) (sym agents) (scribes old.agents t.before t.agent known.scribes takes));
      written = written;
      blocks = blocks;
    }

-- what was written
pub tells_more : (p : Progress) (n : ℕ) (old new : ClusterView) (was mid now : Chronicle) (x : AgentView) → slice_get new.agents n ≡ Some x → Knows old was
    → mid.view ≡ was.view → mid.names.items ≡ was.names.items → mid.written ≡ was.written → Grows was.text.items mid.text.items (IsMoveTold was.view was.names.items p (Some x))
    → now.view ≡ mid.view → now.names.items ≡ mid.names.items → now.text.items ≡ mid.text.items ++ told_from mid.view.form mid.names.items mid.written new.ledger.history
    → Tells (record { progress = p; agent = n; before = old; after = new }) was now
tells_more p n old new was mid now x at known view names written moved same_view same_names added =
    let ns = was.names.items in
    let l = new.ledger.history in
    let rest = told_from was.view.form ns (length old.ledger.history) l in
    record {
      view = same_view ∙ view;
      names = same_names ∙ names;
      text = (
        moved.0 ++ rest,
        (moved.0, subst (λ o. IsMoveTold was.view ns p o moved.0) (sym at) moved.1, refl),
        added
            ∙ ap (λ (v : View). mid.text.items ++ told_from v.form mid.names.items mid.written l) view
            ∙ ap (λ ns. mid.text.items ++ told_from was.view.form ns mid.written l) names
            ∙ ap (λ k. mid.text.items ++ told_from was.view.form ns k l) (written ∙ known.written)
            ∙ ap (λ text. text ++ rest) moved.2
            ∙ append_assoc was.text.items moved.0 rest,
      );
    }

-- Of the newest event

-- where it moved, the agent has one event more, and the same plan
pub moves_plan : (old new : AgentView) → GrowsByOne old new → new.plan ≡ old.plan
moves_plan old new step = ap (λ (b : AgentView). b.plan) step.3

pub moves_event : (old new : AgentView) (step : GrowsByOne old new) → new.history ≡ step.0 ∷ old.history
moves_event old new step = ap (λ (b : AgentView). b.history) step.3

last_here : {A : Type 0} (xs : List A) (x : A) → slice_get (xs ++ x ∷ []) (length xs) ≡ Some x
last_here [] x = refl
last_here (y ∷ xs) x = last_here xs x

-- the last of its events, the oldest first, is the newest
pub newest_is : (events : List Event) (earlier : List Event) (e x : Event) → reverse events ≡ e ∷ earlier → slice_get events (length events - 1) ≡ Some x → x ≡ e
newest_is events earlier e x is at =
    let all : events ≡ reverse earlier ++ e ∷ [] = sym (reverse-reverse events) ∙ ap reverse is ∙ reverse-append (e ∷ []) earlier in
    let whole = ap length all in
    let parts = length-append (reverse earlier) (e ∷ []) in
    let last : length events - 1 ≡ length (reverse earlier) = omega (arith, whole, parts) in
    let found : Some x ≡ Some e = sym at ∙ ap (slice_get events) last ∙ ap (λ es. slice_get es (length (reverse earlier))) all ∙ last_here (reverse earlier) e in
    cc

-- what is told of the event, and then of what stays
pub told_newest : (v : View) (names : List (List ℕ)) (old new : AgentView) (e : Event) (a b c : List ℕ) → new.history ≡ e ∷ old.history → b ≡ a ++ event_told v.form names new.plan old.history e
    → Grows b c (IsAfterTold v names new e) → Grows a c (IsNewestTold v names new new.history)
told_newest v names old new e a b c grew event after =
    let first = event_told v.form names new.plan old.history e in (
      first ++ after.0,
      subst (λ h. IsNewestTold v names new h (first ++ after.0)) (sym grew) (after.0, after.1, refl),
      after.2 ∙ ap (λ text. text ++ after.0) event ∙ append_assoc a first after.0,
    )

-- Turns

-- what the turns tell of which it was told
pub told_turns : (ts : List TakenTurn) (was now : Chronicle) → IsToldOf Tells ts was now
    → (now.view ≡ was.view) × (now.names.items ≡ was.names.items) × Grows was.text.items now.text.items (AreTurnsTold was.view was.names.items ts)
told_turns [] was now told = (
  ap (λ (w : Chronicle). w.view) told,
  ap (λ (w : Chronicle). w.names.items) told,
  ([], refl, ap (λ (w : Chronicle). w.text.items) told ∙ sym (append-nil was.text.items)),
)
told_turns (t ∷ ts) was now told =
    let mid = told.0 in
    let here = told.1 in
    let rest = told_turns ts mid now told.2 in
    let first = here.text in
    let more = rest.2 in
    let same : AreTurnsTold was.view was.names.items ts more.0 =
    subst (λ v. AreTurnsTold v was.names.items ts more.0) here.view (subst (λ ns. AreTurnsTold mid.view ns ts more.0) here.names more.1) in (
      rest.0 ∙ here.view,
      rest.1 ∙ here.names,
      (
        first.0 ++ more.0,
        (first.0, more.0, first.1, same, refl),
        more.2 ∙ ap (λ text. text ++ more.0) first.2 ∙ append_assoc was.text.items first.0 more.0,
      ),
    )

-- Before the first event

pub unbegun_at : (bs : List AgentView) (i : ℕ) (b : AgentView) → AllByRecursion (λ (b : AgentView). b.history ≡ []) bs → slice_get bs i ≡ Some b → b.history ≡ []
unbegun_at [] i b all is = cc
unbegun_at (c ∷ bs) zero b all is = let same : b ≡ c = cc in ap (λ (b : AgentView). b.history) same ∙ all.0
unbegun_at (c ∷ bs) (suc i) b all is = unbegun_at bs i b all.1 is

pub first_unbegun : (agents n : ℕ) (ps : List AgentPlan) → AllByRecursion (λ (b : AgentView). b.history ≡ []) (first_views agents n ps)
first_unbegun agents n [] = tt
first_unbegun agents n (p ∷ ps) = (refl, first_unbegun agents (n + 1) ps)

cores_more : (ms : List MemberView) (i : ℕ) (m : MemberView) → i < length ms → m ≡ get_or ms i m → cores (take (i + 1) ms) ≡ cores (take i ms) ++ m.core ∷ []
cores_more ms i m within is = map_more (λ m. m.core) ms i m within ∙ ap (λ (x : MemberView). cores (take i ms) ++ x.core ∷ []) (sym is)

seat_at : (ms : List MemberView) (i : ℕ) (m : MemberView) → i < length ms → m ≡ get_or ms i m → slice_get (cores ms) i ≡ Some m.core
seat_at [] i m less is = absurd (omega (arith, less))
seat_at (x ∷ ms) zero m less is = ap (λ (m : MemberView). Some m.core) (sym is)
seat_at (x ∷ ms) (suc i) m less is = seat_at ms i m (omega (arith, less)) is

pub scribes_more : (names : List (List ℕ)) (ms : List MemberView) (i : ℕ) (m : MemberView) (ss more : List Scribe) (s : Scribe) → i < length ms → m ≡ get_or ms i m → AllByRecursion (λ (b : AgentView). b.history ≡ []) (cores ms)
    → HaveScribes names (cores (take i ms)) ss → Keeps names m.core.plan [] s → more ≡ ss ++ s ∷ [] → HaveScribes names (cores (take (i + 1) ms)) more
scribes_more names ms i m ss more s less is all before keeps added =
    let none = unbegun_at (cores ms) i m.core all (seat_at ms i m less is) in
    let one : HaveScribes names (cores (take i ms) ++ m.core ∷ []) (ss ++ s ∷ []) = have_more names (cores (take i ms)) ss m.core s before (subst (λ h. Keeps names m.core.plan h s) (sym none) keeps) in
    subst (λ bs. HaveScribes names bs more) (sym (cores_more ms i m less is)) (subst (λ l. HaveScribes names (cores (take i ms) ++ m.core ∷ []) l) (sym added) one)

pub starts_unbegun : (p : Plan) (c : ClusterView) → c ≡ first_state p → IsUnbegun c
starts_unbegun p c is = subst IsUnbegun (sym is) (record { agents = first_unbegun (length p.agents) 0 p.agents; ledger = refl })

-- After the last

-- what is written of the ledger is not more than there is, and what was kept of blocks says what it said before the drained messages
pub drained_ready : (first new : ClusterView) (was w : Chronicle) → IsWatched Knows Tells first new was w
    → (w.written ≤ length new.ledger.history) × Says (so_far w.written new.ledger.history) w.blocks
drained_ready first new was w watched =
    let end = watched.end in
    let later = drained_later end.ledger.history end.ledger.agents in
    let same = ap (λ (c : ClusterView). c.ledger.history) watched.drained in
    ready end.ledger.history new.ledger.history w.written w.blocks (later.0, same ∙ later.1) watched.known.written watched.known.blocks

pub chronicled : (v : View) (first new : ClusterView) (was mid now : Chronicle) → IsWatched Knows Tells first new was mid → Knows first was → was.view ≡ v → was.text.items ≡ []
    → now.text.items ≡ mid.text.items ++ told_from mid.view.form mid.names.items mid.written new.ledger.history → IsTraceFrom v first now.text.items
chronicled v first new was mid now watched known view empty added =
    let ts = watched.told.0 in
    let turns = told_turns ts was mid watched.told.3 in
    let text = turns.2 in
    let ns = names_of first.agents in
    let old = watched.end.ledger.history in
    let l = new.ledger.history in
    record {
      turns = ts;
      end = watched.end;
      taken = watched.told.1;
      moves = watched.told.2;
      runs = watched.runs;
      told = text.0;
      are_told = subst (λ v. AreTurnsTold v ns ts text.0) view (subst (λ ns. AreTurnsTold was.view ns ts text.0) known.names text.1);
      is =
          added
          ∙ ap (λ (v : View). mid.text.items ++ told_from v.form mid.names.items mid.written l) (turns.0 ∙ view)
          ∙ ap (λ ns. mid.text.items ++ told_from v.form ns mid.written l) (turns.1 ∙ known.names)
          ∙ ap (λ k. mid.text.items ++ told_from v.form ns k l) watched.known.written
          ∙ ap (λ (c : ClusterView). mid.text.items ++ told_from v.form ns (length old) c.ledger.history) watched.drained
          ∙ ap (λ text. text ++ told_from v.form ns (length old) (with_drained watched.end).ledger.history) (text.2 ∙ ap (λ l. l ++ text.0) empty);
    }
