-- What one more event leaves of an agent: its place among the agents, and its tickets, counted.
use Rattle.std.proofs.Common.{◌≡◌, ℕ, ◌+◌, ◌||◌, Bool, true, false, cond, not, sym, ◌∙◌, ap, refl, subst, arith, List, [], ◌∷◌, ◌++◌, map, reverse, Option, Some, None, eq-eqb}
use Rattle.std.specs.List.{filter, count_by}
use Rattle.std.proofs.lemmas.List.{reverse-append}
use Rattle.std.proofs.lemmas.List.Elements.{filter-append}
use Rattle.std.proofs.lemmas.List.Filters.{sum_by-filter_both}
use Rattle.es_value.specs.declared.value.Value.{Value}
use Rattle.es_event.specs.declared.event.Answer.{Answer}
use Rattle.es_event.specs.declared.event.Event.{Event}
use Rattle.es_event.specs.declared.event.Event.TheVariants.{Received, Refused, Emptied, Skipped, Closed}
use Rattle.es_event.specs.declared.event.Refusal.TheVariants.{TooManyValues}
use Rattle.es_event.specs.declared.row.Row.{Row}
use Rattle.es_event.specs.History.{History}
use Rattle.es_event.specs.Identities.{is_in, is_gone, made}
use Rattle.es_event.specs.Jobs.{receivers}
use Rattle.es_event.specs.Ledger.{Ledger, ended as has_ended}
use Rattle.es_event.specs.declared.ledger_event.LedgerEvent.TheVariants.{Spent, Acted}
use Rattle.es_event.specs.declared.ledger_event.Act.TheVariants.{Ended as EndedEvent}
use Rattle.es_event.specs.Order.{phase, due}
use Rattle.es_event.specs.Follows.{Permits}
use Rattle.es_event.specs.Runs.{IsRunOver}
use Rattle.es_event.proofs.Alive.{next_alive}
use Rattle.es_tables.proofs.CallerLemmas.{IsQuiet}
use Rattle.es_ticket.specs.Owned.{Owns}
use Rattle.es_ticket.specs.Stakes.{StakeView, among, besides}
use Rattle.es_ticket.proofs.Counted.{counted_last}
use Rattle.es_ledger.specs.LedgerView.{LedgerView}
use Rattle.es_record.specs.AgentView.{AgentView, IsNext, Records, with_buffer, with_row}
use Rattle.es_rules.specs.Needs.{need, asks_nobody, asks_copy, asks_closing}
use Rattle.es_rules.proofs.Answering.{opening_next}
use Rattle.es_agent.specs.Later.{opening}
use Rattle.es_rules.proofs.Needs.{local_is_quiet, closes}
use Rattle.es_agent.specs.Tickets.{is_ended, tickets, RecordsNext, Empties, Admits, RefusesMessage, Receives, DoesWith, Skips}
use Rattle.es_agent.proofs.Racks.{open_before, open_after, local_stays, kept_tickets, emptied_tickets, done_leaves, brings_leaves}
use Rattle.es_cluster.specs.Members.{rows_of, Holds, HoldsBeside}
use Rattle.es_match.specs.Deeds.{Ends}
use Rattle.es_cluster.specs.Tied.{AreDeedsOf, GrowsBy}
use Rattle.es_cluster.specs.Turned.{GrowsByOne, Keeps, spent}
use Rattle.es_cluster.specs.Midway.{IsHeld}
use Rattle.es_cluster.proofs.CountingTickets.{counted_rows}
use Rattle.es_cluster.proofs.Growing.{grows_none, grows_on}

-- One event more that is no closing

pub record Step (old new : AgentView) : Type 0 where
  pub number : new.number ≡ old.number
  pub agents : new.agents ≡ old.agents
  pub going : is_ended (phase new.history) ≡ is_ended (phase old.history)

pub no_step : (b : AgentView) → Step b b
no_step b = record { number = refl; agents = refl; going = refl }

pub step_of : (old new : AgentView) (r : Option Row) (e : Event) → IsNext (with_row r old) e → (e ≡ Closed → ⊥) → Records (with_row r old) e new → Step old new
step_of old new r e next other records =
    let before = open_before (with_row r old) e next in
    record {
      number = ap (λ b. b.number) records;
      agents = ap (λ b. b.agents) records;
      going = ap (λ b. is_ended (phase b.history)) records ∙ open_after old.history e other before ∙ sym before;
    }

-- and leaves its tickets
pub record Stays (old new : AgentView) : Type 0 where
  pub moves : GrowsByOne old new
  pub step : Step old new
  pub same : tickets new ≡ tickets old

stays_of : (old new : AgentView) (e : Event) → IsNext old e → IsQuiet e → (e ≡ Closed → ⊥) → Records old e new → Stays old new
stays_of old new e next quiet other records = record {
  moves = (e, None, next, records);
  step = step_of old new None e next other records;
  same = ap tickets records ∙ kept_tickets old e next quiet other;
}

pub local_leaves : (old new : AgentView) → need old ≡ asks_nobody → RecordsNext old new → Stays old new
local_leaves old new is r = stays_of old new r.0 r.1 (local_is_quiet old r.0 is r.1) (local_stays old r.0 is r.1) r.2

-- the opening of a later collection
pub opened_leaves : (old new : AgentView) → need old ≡ asks_copy → Records old opening new → Stays old new
opened_leaves old new is r = stays_of old new opening (opening_next old is) tt (λ f. cc) r

pub done_stays : (old new : AgentView) (a : Answer) → DoesWith old a new → Stays old new
done_stays old new a r = let leaves = done_leaves old a r.0 r.1 in stays_of old new r.0 r.2 leaves.0 leaves.1 r.3

pub received_stays : (old new : AgentView) (v : Value) → Receives old v new → Stays old new
received_stays old new v r = stays_of old new (Received r.0 v) r.2 tt (λ f. cc) r.3

pub skipped_stays : (old new : AgentView) → Skips old new → Stays old new
skipped_stays old new r = stays_of old new (Skipped r.0 r.1) r.3 tt (λ f. cc) r.4

pub refused_stays : (old new : AgentView) → RefusesMessage old new → Stays old new
refused_stays old new r = stays_of old new (Refused TooManyValues) r.2 tt (λ f. cc) r.3

pub holds_still : (old new : AgentView) (s : StakeView) → Stays old new → Holds old s → Holds new s
holds_still old new s stays holds = (holds.0 ∙ sym stays.step.number, λ p. ap (λ ts. count_by p (map (λ t. t.1) ts)) stays.same ∙ holds.1 p)

-- A collection

pub collected_step : {chosen : List ℕ → Type 0} (old new : AgentView) (out : List (ℕ × Row)) → Empties chosen old out new → Step old new
collected_step old new out c = step_of old new None (Emptied c.0) c.2 (λ f. cc) c.3

pub collected_moves : {chosen : List ℕ → Type 0} (old new : AgentView) (out : List (ℕ × Row)) → Empties chosen old out new → GrowsByOne old new
collected_moves old new out c = (Emptied c.0, None, c.2, c.3)

counted_apart : (p : Row → Bool) (ids : List ℕ) (ts : List (ℕ × Row)) → count_by (λ t. p t.1) (among ids ts) + count_by (λ t. p t.1) (besides ids ts) ≡ count_by (λ t. p t.1) ts
counted_apart p ids ts =
    let a = sum_by-filter_both (λ t. is_in ids t.0) (λ t. not (is_in ids t.0)) (λ t. refl) (λ t. cond {A = ℕ} (p t.1) 1 0) ts in omega (arith, a)

collected_counts : {chosen : List ℕ → Type 0} (old new : AgentView) (out : List (ℕ × Row)) → Empties chosen old out new → (p : Row → Bool) → count_by p (rows_of old) ≡ count_by p (rows_of new) + count_by (λ t. p t.1) out
collected_counts old new out c p =
    let left = ap tickets c.3 ∙ emptied_tickets old c.0 c.2 in
    let a = counted_apart p c.0 (tickets old) in
    let b = ap (λ ts. count_by (λ t. p t.1) ts) left in
    let d = ap (λ ts. count_by (λ t. p t.1) ts) c.4 in
    let e = counted_rows p (tickets old) in
    let f = counted_rows p (tickets new) in
    omega (arith, a, b, d, e, f)

pub collected_owns : {chosen : List ℕ → Type 0} (old new : AgentView) (s : StakeView) (out : List (ℕ × Row)) → Empties chosen old out new → Holds old s → Owns s.rows out
collected_owns old new s out c holds p = let a = collected_counts old new out c p in let b = holds.1 p in omega (arith, a, b)

pub collected_holds : {chosen : List ℕ → Type 0} (old new : AgentView) (s t : StakeView) (out : List (ℕ × Row)) → Empties chosen old out new → Holds old s → t.agent ≡ s.agent
    → ((p : Row → Bool) → count_by p s.rows ≡ count_by p t.rows + count_by (λ t. p t.1) out) → Holds new t
collected_holds old new s t out c holds agent counts = (
  agent ∙ holds.0 ∙ sym (collected_step old new out c).number,
  λ p. (let a = collected_counts old new out c p in let b = holds.1 p in let d = counts p in omega (arith, a, b, d)),
)

-- a ticket beside its own was spent
spent_holds : (old new : AgentView) (s t : StakeView) (r q : Row) → new.number ≡ old.number → tickets new ≡ tickets old → HoldsBeside r old s → q ≡ r → t.agent ≡ s.agent
    → ((p : Row → Bool) → count_by p s.rows ≡ count_by p t.rows + cond {A = ℕ} (p q) 1 0) → Holds new t
spent_holds old new s t r q number same holds ticket agent counts = (
  agent ∙ holds.0 ∙ sym number,
  λ p. (let a = holds.1 p in
      let b = counts p in
      let c = ap (λ q. cond {A = ℕ} (p q) 1 0) ticket in
      let d = ap (λ ts. count_by p (map (λ t. t.1) ts)) same in
      omega (arith, a, b, c, d)),
)

-- A ticket that comes

opened : (h : History) (over : List (ℕ × Row)) → is_ended (phase h) ≡ false → cond (is_ended (phase h)) [] (filter (λ t. not (is_gone h t.0)) (reverse over)) ≡ filter (λ t. not (is_gone h t.0)) (reverse over)
opened h over is = ap (λ b. cond b [] (filter (λ t. not (is_gone h t.0)) (reverse over))) is

-- it comes last
pub admitted_tickets : (old new : AgentView) (r : Row) → IsRunOver old.over old.plan old.history → Admits old r new → tickets new ≡ tickets old ++ (made old.history + 1, r) ∷ []
admitted_tickets old new r run a =
    let i = made old.history + 1 in
    let leaves = brings_leaves (due old.plan old.history) i a.0 a.1 in
    let before = open_before (with_buffer r old) a.0 a.2 in
    let kept = filter (λ t. not (is_gone old.history t.0)) (reverse old.over) in
    let fresh = next_alive old.over (receivers old.plan.jobs) old.history run.0 i refl in
    ap tickets a.3
    ∙ kept_tickets (with_buffer r old) a.0 a.2 leaves.0 leaves.1
    ∙ opened old.history ((i, r) ∷ old.over) before
    ∙ ap (filter (λ t. not (is_gone old.history t.0))) (reverse-append ((i, r) ∷ []) old.over)
    ∙ filter-append (λ t. not (is_gone old.history t.0)) (reverse old.over) ((i, r) ∷ [])
    ∙ ap (λ g. kept ++ cond (not g) ((i, r) ∷ []) []) fresh
    ∙ ap (λ ts. ts ++ (i, r) ∷ []) (sym (opened old.history old.over before))

pub admitted_step : (old new : AgentView) (r : Row) → Admits old r new → Step old new
admitted_step old new r a = step_of old new (Some r) a.0 a.2 (brings_leaves (due old.plan old.history) (made old.history + 1) a.0 a.1).1 a.3

pub admitted_moves : (old new : AgentView) (r : Row) → Admits old r new → GrowsByOne old new
admitted_moves old new r a = (a.0, Some r, a.2, a.3)

pub admitted_holds : (old new : AgentView) (s : StakeView) (r : Row) → IsRunOver old.over old.plan old.history → Admits old r new → HoldsBeside r old s → Holds new s
admitted_holds old new s r run a holds = (
  holds.0 ∙ sym (admitted_step old new r a).number,
  λ p. (let b = holds.1 p in
      let d = ap (λ ts. count_by (λ t. p t.1) ts) (admitted_tickets old new r run a) in
      let e = counted_last p (made old.history + 1) r (tickets old) in
      let f = counted_rows p (tickets old) in
      let g = counted_rows p (tickets new) in
      omega (arith, b, d, e, f, g)),
)

-- Its place

pub keeps : (old new : AgentView) (before after : LedgerView) (s : StakeView) → Step old new → Holds new s → after.agents ≡ before.agents
    → has_ended after.history old.number ≡ has_ended before.history old.number → GrowsBy old.number before.history after.history → Keeps old before new s after
keeps old new before after s step holds agents over deeds = record {
  number = step.number;
  held = holds;
  seated = λ seated. record {
    known = (let a = step.number in let b = seated.known in omega (arith, a, b, agents));
    agents = step.agents ∙ seated.agents ∙ sym agents;
    over = ap (has_ended after.history) step.number ∙ over ∙ seated.over ∙ sym step.going;
  };
  others = (agents, deeds);
}

-- where a ticket that came was spent
pub refused_keeps : (old new : AgentView) (before after : LedgerView) (s t : StakeView) (r q : Row) → Stays old new → HoldsBeside r old s → q ≡ r → t.agent ≡ s.agent → ((p : Row → Bool) → count_by p s.rows ≡ count_by p t.rows + cond {A = ℕ} (p q) 1 0)
    → after.agents ≡ before.agents → has_ended after.history old.number ≡ has_ended before.history old.number → GrowsBy old.number before.history after.history → Keeps old before new t after
refused_keeps old new before after s t r q stays holds ticket agent counts agents over deeds =
    keeps old new before after t stays.step (spent_holds old new s t r q stays.step.number stays.same holds ticket agent counts) agents over deeds

-- and where the agent did not change
pub returned_keeps : (old new : AgentView) (before after : LedgerView) (s t : StakeView) (r q : Row) → new ≡ old → HoldsBeside r old s → q ≡ r → t.agent ≡ s.agent → ((p : Row → Bool) → count_by p s.rows ≡ count_by p t.rows + cond {A = ℕ} (p q) 1 0)
    → after.agents ≡ before.agents → has_ended after.history old.number ≡ has_ended before.history old.number → GrowsBy old.number before.history after.history → Keeps old before new t after
returned_keeps old new before after s t r q same holds ticket agent counts agents over deeds =
    subst (λ b. Keeps old before b t after) (sym same) (keeps old old before after t (no_step old) (spent_holds old old s t r q refl refl holds ticket agent counts) agents over deeds)

-- where nothing changed
pub kept : (old new : AgentView) (s t : StakeView) (l m : LedgerView) → IsHeld old s l → new ≡ old → t ≡ s → m ≡ l → Keeps old l new t m
kept old new s t l m ready same stake ledger = subst (λ b. Keeps old l b t m) (sym same) (subst (λ t. Keeps old l old t m) (sym stake) (subst (Keeps old l old s) (sym ledger) (record {
  number = refl;
  held = ready.held;
  seated = λ seated. seated;
  others = (refl, grows_none old.number l.history);
})))

-- where the agent has done something in the ledger alone
pub kept_after : (old new : AgentView) (s t : StakeView) (l m : LedgerView) → IsHeld old s l → new ≡ old → t ≡ s → m.agents ≡ l.agents → has_ended m.history old.number ≡ has_ended l.history old.number → GrowsBy old.number l.history m.history → Keeps old l new t m
kept_after old new s t l m ready same stake agents over deeds =
    subst (λ b. Keeps old l b t m) (sym same) (keeps old old l m t (no_step old) (subst (Holds old) (sym stake) ready.held) agents over deeds)

-- where it had done something before
pub keeps_on : (old : AgentView) (l m k : LedgerView) (b : AgentView) (s : StakeView) → Keeps old m b s k → m.agents ≡ l.agents → has_ended m.history old.number ≡ has_ended l.history old.number → GrowsBy old.number l.history m.history → Keeps old l b s k
keeps_on old l m k b s after agents over deeds = record {
  number = after.number;
  held = after.held;
  seated = λ seated. after.seated (record { known = (let a = seated.known in omega (arith, a, agents)); agents = seated.agents ∙ sym agents; over = over ∙ seated.over });
  others = (after.others.0 ∙ agents, grows_on old.number l.history m.history k.history deeds after.others.1);
}

-- a command was done in the ledger, and the stake stays
pub done_keeps : (old new : AgentView) (a : Answer) (before after : LedgerView) (s t : StakeView) → DoesWith old a new → t ≡ s → Holds old s → after.agents ≡ before.agents
    → has_ended after.history old.number ≡ has_ended before.history old.number → GrowsBy old.number before.history after.history → Keeps old before new t after
done_keeps old new a before after s t done same holds agents over deeds =
    let stays = done_stays old new a done in
    keeps old new before after t stays.step (subst (Holds new) (sym same) (holds_still old new s stays holds)) agents over deeds

-- The closing

closing_next : (b : AgentView) → need b ≡ asks_closing → IsNext b Closed
closing_next b is = record {
  lawful = tt;
  permitted = subst (λ d. Permits b.over (receivers b.plan.jobs) b.history d Closed) (sym (closes b (due b.plan b.history) is)) tt;
}

pub closed_moves : (old new : AgentView) → need old ≡ asks_closing → Records old Closed new → GrowsByOne old new
closed_moves old new is records = (Closed, None, closing_next old is, records)

closed_owns : (old : AgentView) (s : StakeView) (out : List (ℕ × Row)) → out ≡ tickets old → Holds old s → (p : Row → Bool) → count_by (λ t. p t.1) out ≡ count_by p s.rows
closed_owns old s out is holds p =
    let a = ap (λ ts. count_by (λ t. p t.1) ts) is in let b = holds.1 p in let c = counted_rows p (tickets old) in omega (arith, a, b, c)

pub closing_owns : (old : AgentView) (s : StakeView) (out : List (ℕ × Row)) → out ≡ tickets old → Holds old s → Owns s.rows out
closing_owns old s out is holds p = let a = closed_owns old s out is holds p in omega (arith, a)

ended_itself : (l : Ledger) (n a : ℕ) → a ≡ n → has_ended (Acted n EndedEvent ∷ l) a ≡ true
ended_itself l n a e = ap (λ b. b || has_ended l a) (eq-eqb n a (sym e))

pub closed_keeps : (old new : AgentView) (before after : LedgerView) (s t : StakeView) (out : List (ℕ × Row)) → Records old Closed new → out ≡ tickets old → Holds old s → t.agent ≡ s.agent
    → ((p : Row → Bool) → count_by p s.rows ≡ count_by p t.rows + count_by (λ t. p t.1) out) → after.agents ≡ before.agents
    → after.history ≡ Acted old.number EndedEvent ∷ spent out before.history → AreDeedsOf old.number (map (λ t. Spent t.1.serial) out) before.history → Keeps old before new t after
closed_keeps old new before after s t out records is holds agent counts agents history deeds =
    let number = ap (λ b. b.number) records in
    record {
      number = number;
      held = (
        agent ∙ holds.0 ∙ sym number,
        λ p. ap (λ b. count_by p (rows_of b)) records ∙ (let a = closed_owns old s out is holds p in let b = counts p in omega (arith, a, b)),
      );
      seated = λ seated. record {
        known = (let a = number in let b = seated.known in omega (arith, a, b, agents));
        agents = ap (λ b. b.agents) records ∙ seated.agents ∙ sym agents;
        over = ap (λ l. has_ended l new.number) history ∙ ended_itself (spent out before.history) old.number new.number number ∙ sym (ap (λ b. is_ended (phase b.history)) records);
      };
      others = (agents, (Acted old.number EndedEvent ∷ map (λ t. Spent t.1.serial) out, history, ((Ends, refl), deeds)));
    }

-- A turn, whatever came of it
