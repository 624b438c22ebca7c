-- What a run in threads ends in, some turns end in.
use Rattle.std.proofs.Common.{◌≡◌, ℕ, zero, suc, ◌<◌, ◌&&◌, true, sym, ◌∙◌, ap, refl, subst, arith, List, [], ◌∷◌, ◌++◌, length, map, reverse, Some, inl, inr}
use Rattle.std.specs.Prelude.{slice_get}
use Rattle.std.specs.List.{AllByRecursion}
use Rattle.std.proofs.lemmas.Bool.{false≢true}
use Rattle.std.proofs.lemmas.List.{reverse-reverse}
use Rattle.es_event.specs.declared.event.Event.{Event}
use Rattle.es_event.specs.declared.outcome.Outcome.{Outcome}
use Rattle.es_event.specs.declared.plan.Plan.{Plan}
use Rattle.es_event.specs.Ledger.{Ledger, count, ended as has_ended, port_of, table}
use Rattle.es_event.specs.LegalLedger.{LegalLedger, LegalSoFar, all_ended}
use Rattle.es_event.specs.Report.{report}
use Rattle.es_event.specs.Rows.{count_of, unspent}
use Rattle.es_event.specs.Runs.{IsRunOver}
use Rattle.es_event.specs.Totals.{drained}
use Rattle.es_match.specs.Deeds.{Deed, part}
use Rattle.es_match.specs.Asks.{between_jobs}
use Rattle.es_match.specs.Cluster.{Account, DeedsMeet, IsClusterOf, IsSaid, account_of}
use Rattle.es_match.specs.Goes.{goes}
use Rattle.es_match.specs.Meets.{Came, no_more, nothing_came}
use Rattle.es_ledger.specs.Draining.{after_drain}
use Rattle.es_ledger.proofs.Emptying.{all_drained}
use Rattle.es_ledger.proofs.Mailed.{none_counted}
use Rattle.es_record.specs.AgentView.{AgentView, with_row}
use Rattle.es_agent.proofs.Racks.{open_before}
use Rattle.es_cluster.specs.Tied.{came_to}
use Rattle.es_cluster.specs.Ends.{IsWhole}
use Rattle.es_cluster.specs.Moves.{all_over}
use Rattle.es_cluster.specs.State.{ClusterView, account, accounts, first_state, names_of}
use Rattle.es_cluster.proofs.Draining.{Over, drained_over}
use Rattle.es_cluster.proofs.Ended.{there}
use Rattle.es_theorems.specs.Alike.{Alike, SameEnd}
use Rattle.es_theorems.proofs.Telling.{same_report, through as through_ledgers, turned as turned_ledgers}
use Rattle.es_outcome.specs.Outcomes.{IsClusterOutcome}
use Rattle.es_outcome.proofs.Telling.{told_histories}
use Rattle.es_theorems.specs.Ahead.{ahead, played}
use Rattle.es_theorems.specs.ThreadsLaws.{ComesByTurns, TurnsEndAlike, TurnsReportAlike}
use Rattle.es_theorems.specs.Through.{Through}
use Rattle.es_theorems.specs.Underway.{Left, Underway}
use Rattle.es_theorems.specs.Unmoved.{Kept, Ownerless, Unmoved}
use Rattle.es_theorems.proofs.Draining.{held_before, idle_all, kept_outlasts, none_holds, none_left, none_letters, ownerless_ahead, same_tables, unmoved_far, unmoved_same}
use Rattle.es_theorems.proofs.Gathering.{legal_far}
use Rattle.es_theorems.proofs.Settling.{finished}
use Rattle.es_theorems.proofs.Starting.{less_or, nobody_at, played_all, size_of, starts, wholes_of}
use Rattle.es_theorems.proofs.Through.{through}
use Rattle.es_theorems.proofs.TurningThreads.{next_of}
use Rattle.es_theorems.proofs.Coming.{some_if_is}

-- An agent without deeds left has its account

no_rest : (a : Account) (b : AgentView) (ds : List Deed) (events : List Event) → IsRunOver b.over b.plan b.history → IsWhole a → (left : Left a b ds) → ds ≡ [] → left.rest ≡ events → events ≡ []
no_rest a b ds [] history whole left none is = refl
no_rest a b ds (e ∷ rest) history whole left none is =
    let x = next_of a b ds e rest history whole left is in
    absurd (false≢true (sym (open_before (with_row x.row b) e x.next) ∙ finished a b ds whole left none))

its_account : (a : Account) (b : AgentView) (ds : List Deed) → IsRunOver b.over b.plan b.history → IsWhole a → (left : Left a b ds) → ds ≡ [] → account b ≡ a
its_account a b ds history whole left none =
    let rest = no_rest a b ds left.rest history whole left none refl in
    let told : b.history ≡ a.history = sym (left.history ∙ ap (λ es. reverse es ++ b.history) rest) in
    let last : left.final ≡ came_to b = some_if_is (no_more ds) (came_to b) left.final (ap (λ es. goes (between_jobs b.history) (came_to b) es ds) (sym rest) ∙ left.go) in
    let over : b.over ≡ a.over = sym (reverse-reverse b.over) ∙ ap reverse (ap (λ c. c.ever) (sym last) ∙ left.said.buffers) ∙ reverse-reverse a.over in
    λ i. record { plan = left.plan i; over = over i; history = told i }

same_accounts : (bs : List AgentView) (all : List Account) → length bs ≡ length all → ((i : ℕ) (b : AgentView) → slice_get bs i ≡ Some b → account b ≡ account_of all i) → accounts bs ≡ all
same_accounts [] [] size each = refl
same_accounts [] (a ∷ all) size each = cc
same_accounts (b ∷ bs) [] size each = cc
same_accounts (b ∷ bs) (a ∷ all) size each = ap (λ c. c ∷ accounts bs) (each 0 b refl) ∙ ap (λ cs. a ∷ cs) (same_accounts bs all (omega (arith, size)) (λ i d is. each (suc i) d is))

pub names_are : (bs : List AgentView) → names_of bs ≡ map (λ q. q.name) (map (λ a. a.plan) (accounts bs))
names_are [] = refl
names_are (b ∷ bs) = ap (λ ns. b.plan.name ∷ ns) (names_are bs)

all_ended_of : (l : Ledger) (n : ℕ) → ((i : ℕ) → i < n → has_ended l i ≡ true) → all_ended l n ≡ true
all_ended_of l zero each = refl
all_ended_of l (suc n) each = ap (λ b. b && all_ended l n) (each n (omega arith)) ∙ all_ended_of l n (λ i less. each i (omega (arith, less)))

pub refines : (p : Plan) (o : Outcome) → IsClusterOutcome p o → ComesByTurns p o
refines p o r = record {
  turns = t.turns;
  end = e;
  turned = t.turned;
  over = over;
  outcome = q;
  ends = record {
    names = r.names ∙ ap (map (λ q. q.name)) (sym r.runs.plans_are ∙ ap (map (λ a. a.plan)) (sym accounts_are)) ∙ sym (names_are e.agents);
    agents = record {
      are = sym r.runs.histories_are ∙ ap (map (λ a. a.history)) (sym accounts_are) ∙ told_histories e.agents;
      runs = subst (AllByRecursion IsWhole) (sym accounts_are) r.runs.whole;
    };
    ledger = reverse-reverse drain_twice;
    legal = subst (LegalLedger k) (sym (reverse-reverse drain_twice)) (twice.legal, twice.paid);
    cluster = subst (IsClusterOf (accounts e.agents)) (sym (reverse-reverse drain_twice)) (subst (λ all. IsClusterOf all drain_twice) (sym accounts_are) twice.kept.cluster);
    tickets = λ b. ap (λ l. count l b) (reverse-reverse drain_twice) ∙ none_there b;
    messages = λ s r. ap (λ l. port_of l s r) (reverse-reverse drain_twice) ∙ empty s r;
  };
  same = same;
  reported = same_report o q same;
  parts = λ a. ap (λ l. part l a) (sym (played_all o)) ∙ t.parts a ∙ far.parts a ∙ sym (near.parts a) ∙ ap (λ l. part l a) (sym (reverse-reverse drain_twice));
}
  where
    n : ℕ
    n = length p.agents

    t : Through n r.agents (first_state p) o.ledger
    t = through (length o.ledger) n r.agents (first_state p) o.ledger (wholes_of p o r) (starts p o r) (omega arith)

    e : ClusterView
    e = t.after

    m : Ledger
    m = e.ledger.history

    k : ℕ
    k = e.ledger.agents

    u : Underway n r.agents e t.behind
    u = t.on

    last : Ledger
    last = played t.behind m

    alike : Alike (reverse o.ledger) last
    alike = subst (λ l. Alike l last) (played_all o) t.like.alike

    own : Ownerless t.behind m
    own = idle_all n t.behind m u.steps u.stands.undrained t.idle

    whole_of : (i : ℕ) (b : AgentView) → slice_get e.agents i ≡ Some b → IsWhole (account_of r.agents i)
    whole_of i b here =
        let was = u.stands.each i b here in
        wholes_of p o r i (let known = was.seated.known in let place = was.number in let size = u.number in omega (arith, known, place, size))

    its : (i : ℕ) (b : AgentView) → slice_get e.agents i ≡ Some b → account b ≡ account_of r.agents i
    its i b here = its_account (account_of r.agents i) b (ahead t.behind m i) (u.stands.each i b here).run (whole_of i b here) (u.left i b here) (ownerless_ahead t.behind m i own)

    accounts_are : accounts e.agents ≡ r.agents
    accounts_are = same_accounts e.agents r.agents (u.stands.size ∙ u.number ∙ sym (size_of p o r)) its

    found : (i : ℕ) → i < n → (b : AgentView) × (slice_get e.agents i ≡ Some b)
    found i less = there e.agents i (let a = u.stands.size in let b = u.number in omega (arith, a, b, less))

    over : all_over e ≡ true
    over = all_ended_of m k (λ i less.
        let b = found i (let size = u.number in omega (arith, less, size)) in
        let was = u.stands.each i b.0 b.1 in
        ap (has_ended m) (sym was.number) ∙ was.seated.over ∙ finished (account_of r.agents i) b.0 (ahead t.behind m i) (whole_of i b.0 b.1) (u.left i b.0 b.1) (ownerless_ahead t.behind m i own))

    count_last : (b : ℕ) → count last b ≡ 0
    count_last b = ap (λ t. count_of (unspent t) b) (sym alike.tables) ∙ r.tickets b

    part_of_cluster : (a : ℕ) → (c : Came) × DeedsMeet (account_of r.agents a).history (part m a) c × IsSaid (account_of r.agents a) c
    part_of_cluster a = elim (less_or a n) [
      | inl less ↦
          let b = found a less in
          let was = u.stands.each a b.0 b.1 in
          let same = its a b.0 b.1 in (
            came_to b.0,
            subst (λ c. DeedsMeet c.history (part m a) (came_to b.0)) same (subst (λ i. DeedsMeet b.0.history (part m i) (came_to b.0)) was.number was.tied.ties),
            subst (λ c. IsSaid c (came_to b.0)) same (record { buffers = refl; senders = refl }),
          )
      | inr beyond ↦
          let none = nobody_at r.agents a (let size = size_of p o r in omega (arith, size, beyond)) in
          (nothing_came, subst (λ c. DeedsMeet c.history (part m a) nothing_came) (sym none) (u.strangers a beyond, refl), subst (λ c. IsSaid c nothing_came) (sym none) (record { buffers = refl; senders = refl }))
    ]

    legal : LegalSoFar k m
    legal = subst (λ n. LegalSoFar n m) (sym u.number) u.legal

    begun : Over (Kept r.agents m) k m
    begun = record {
      legal = legal;
      paid = u.stands.undrained;
      over = over;
      kept = record {
        cluster = record { parts = part_of_cluster; waits = u.waits_end; drains = u.drains_end };
        held = λ a. sym (held_before n t.behind m a u.legal u.steps own) ∙ none_holds last count_last a;
        unmoved = unmoved_same m;
      };
    }

    once : Over (Kept r.agents m) k (after_drain m k)
    once = drained_over (Kept r.agents m) k m (kept_outlasts r.agents m) begun

    drain_twice : Ledger
    drain_twice = after_drain (after_drain m k) k

    twice : Over (Kept r.agents m) k drain_twice
    twice = drained_over (Kept r.agents m) k (after_drain m k) (kept_outlasts r.agents m) once

    empty : (s r : ℕ) → port_of drain_twice s r ≡ []
    empty = all_drained k (after_drain m k) drain_twice once.legal refl

    none_there : (b : ℕ) → count drain_twice b ≡ 0
    none_there = none_counted k drain_twice twice.legal twice.paid (λ a less. twice.kept.held a) empty

    q : Outcome
    q = record { names = o.names; histories = o.histories; ledger = reverse drain_twice }

    far : Unmoved m last
    far = unmoved_far t.behind m m own (unmoved_same m)

    near : Unmoved m drain_twice
    near = twice.kept.unmoved

    ledgers : Alike (reverse o.ledger) drain_twice
    ledgers = record {
      opened = alike.opened ∙ far.opened ∙ sym near.opened;
      serials = alike.serials ∙ far.serials ∙ sym near.serials;
      sizes = λ b. alike.sizes b ∙ far.sizes b ∙ sym (near.sizes b);
      ports = λ s q. r.messages s q ∙ sym (empty s q);
      tables = alike.tables ∙ same_tables (table last) (table drain_twice) (none_left last count_last) (none_left drain_twice none_there) (far.rows ∙ sym near.rows);
      words = λ b i. alike.words b i ∙ far.words b i ∙ sym (near.words b i);
      waiters = alike.waiters ∙ far.lists ∙ sym near.lists;
      asleep = λ a. alike.asleep a ∙ far.asleep a ∙ sym (near.asleep a);
      ends = λ a. alike.ends a ∙ far.ends a ∙ sym (near.ends a);
      posted = alike.posted ∙ far.posted ∙ sym near.posted;
      taken = alike.taken ∙ far.taken ∙ sym near.taken;
      drained = same_drained;
    }
      where
        same_drained : drained (reverse o.ledger) ≡ drained drain_twice
        same_drained =
            let a = none_letters n last (legal_far n t.behind m u.legal u.steps) (λ s q. sym (alike.ports s q) ∙ r.messages s q) in
            let b = none_letters k drain_twice twice.legal empty in
            let c = far.posted in
            let d = near.posted in
            let f = far.taken in
            let g = near.taken in
            let h = alike.drained in
            omega (arith, a, b, c, d, f, g, h)

    same : SameEnd o q
    same = record { names = refl; histories = refl; ledgers = subst (Alike (reverse o.ledger)) (sym (reverse-reverse drain_twice)) ledgers }

-- Where turns end alike

pub ends_alike : (p : Plan) (o q : Outcome) → TurnsEndAlike p → IsClusterOutcome p o → IsClusterOutcome p q → SameEnd o q
ends_alike p o q alike a b =
    let x = refines p o a in
    let y = refines p q b in
    let both = alike x.turns y.turns x.end y.end x.outcome y.outcome x.turned x.ends y.turned y.ends in
    record {
      names = x.same.names ∙ both.names ∙ sym y.same.names;
      histories = x.same.histories ∙ both.histories ∙ sym y.same.histories;
      ledgers =
          through_ledgers (reverse o.ledger) (reverse x.outcome.ledger) (reverse q.ledger) x.same.ledgers
          (through_ledgers (reverse x.outcome.ledger) (reverse y.outcome.ledger) (reverse q.ledger) both.ledgers (turned_ledgers (reverse q.ledger) (reverse y.outcome.ledger) y.same.ledgers));
    }

pub reports_alike : (p : Plan) (o q : Outcome) → TurnsReportAlike p → IsClusterOutcome p o → IsClusterOutcome p q → report o ≡ report q
reports_alike p o q alike a b =
    let x = refines p o a in
    let y = refines p q b in
    x.reported ∙ alike x.turns y.turns x.end y.end x.outcome y.outcome x.turned x.ends y.turned y.ends ∙ sym y.reported
