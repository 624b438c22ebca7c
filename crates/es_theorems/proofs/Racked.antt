-- Whatever turn an agent took, what it holds in the ledger are its tickets: they come and go by its deeds.
use Rattle.std.proofs.Common.{◌≡◌, ℕ, ◌+◌, ◌≤◌, ◌==◌, ◌&&◌, ◌||◌, Bool, true, false, cond, not, sym, ◌∙◌, ap, refl, subst, arith, eq-eqb, eqb-true, ne_eqb, List, [], ◌∷◌, ◌++◌, append-nil, append_assoc, reverse, Option, Some, None, inl, inr}
use Rattle.std.specs.Prelude.{ℤ, is_some, unwrap_or}
use Rattle.std.specs.List.{filter}
use Rattle.std.specs.Option.{option_and_then, option_map, option_map_or}
use Rattle.std.proofs.lemmas.Bool.{and_parts, false≢true}
use Rattle.std.proofs.lemmas.List.{append_cancel_left, reverse-append}
use Rattle.std.proofs.lemmas.List.Elements.{filter_agree}
use Rattle.es_value.specs.declared.value.Value.{Value}
use Rattle.es_event.specs.declared.access.Task.{Task}
use Rattle.es_event.specs.declared.access.WaitResult.{WaitResult}
use Rattle.es_event.specs.declared.command.Command.{Command}
use Rattle.es_event.specs.declared.command.Command.TheVariants.{Atomic, SharedArrayBuffer}
use Rattle.es_event.specs.declared.event.Answer.{Answer}
use Rattle.es_event.specs.declared.event.Event.{Event}
use Rattle.es_event.specs.declared.event.Event.TheVariants.{Did, Received, Refused}
use Rattle.es_event.specs.declared.ledger_event.Act.{Act}
use Rattle.es_event.specs.declared.ledger_event.Act.TheVariants.{Waiting}
use Rattle.es_event.specs.declared.ledger_event.Body.{Body}
use Rattle.es_event.specs.declared.ledger_event.Body.TheVariants.{Plain, Block}
use Rattle.es_event.specs.declared.ledger_event.LedgerEvent.{LedgerEvent}
use Rattle.es_event.specs.declared.ledger_event.LedgerEvent.TheVariants.{Opened, Posted, Taken, Spent, Accessed, Acted, Drained}
use Rattle.es_event.specs.declared.row.Row.{Row}
use Rattle.es_event.specs.Commands.{first}
use Rattle.es_event.specs.Heard.{wait_given}
use Rattle.es_event.specs.History.{History}
use Rattle.es_event.specs.Identities.{is_in, made, object_of}
use Rattle.es_event.specs.Ledger.{Ledger, front, holder_of, serial_in, serials, size}
use Rattle.es_event.specs.LegalLedger.{ComesNext, LegalSoFar, MayCome, has_message, owed}
use Rattle.es_event.specs.Numbers.{index_of, task_of}
use Rattle.es_event.specs.Rows.{row}
use Rattle.es_event.specs.Runs.{IsRunOver}
use Rattle.es_event.proofs.Entries.{inner}
use Rattle.es_match.specs.declared.deed.Sleep.{Sleep}
use Rattle.es_match.specs.Asks.{Asking, nothing, to_open, to_measure, to_compare, to_access, to_miss, to_sleep, to_notify, to_post, to_receive, to_refuse, to_pass, to_empty, to_close, asks, asks_did, asks_wait, asks_word, between_jobs, given, wants_room}
use Rattle.es_match.specs.Cluster.{DeedsMeet, refused_senders}
use Rattle.es_match.specs.Deeds.{Deed, Opens, Posts, Takes, Spends, Accesses, Waits, Passes, Ends, Sleeps, Notifies, Wakes, TimesOut, acting, deed, is_wait, part, words_in}
use Rattle.es_match.specs.Meets.{Tickets, after, beyond, gives as gives_body, is_access, is_end_of_sleep, is_miss, is_notify, is_one, is_pass, is_post, is_refusal, no_more, opening, pair, receiving, serials_of, sole, refused_in, some_if, spends, spends_ticket_in, strike, taken_ticket, ticket_in, within}
use Rattle.es_match.proofs.Bridge.{mapped}
use Rattle.es_record.specs.AgentView.{AgentView, with_row}
use Rattle.es_record.specs.Newest.{newest}
use Rattle.es_ticket.specs.Stakes.{is_rising_from}
use Rattle.es_agent.specs.Tickets.{tickets}
use Rattle.es_agent.proofs.Racks.{filtered_twice, still_rises}
use Rattle.es_cluster.specs.Tied.{AreDeedsOf, GrowsBy, IsTied, came_to}
use Rattle.es_cluster.specs.Turned.{GrowsByOne}
use Rattle.es_cluster.proofs.Growing.{part_own, part_waits}
use Rattle.es_theorems.proofs.Coming.{some_if_is}
use Rattle.es_theorems.proofs.Commands.{none_more, one_of, sole_of, some_if_true}
use Rattle.es_theorems.specs.Going.{Apart, Going, OtherThan, Racked}
use Rattle.es_theorems.proofs.Holding.{held_new, held_taken, not_mine, not_yet}
use Rattle.es_theorems.proofs.Newest.{came_next}
use Rattle.es_theorems.proofs.Only.{Gives, back, dropped, only_after, only_more, spent_off}
use Rattle.es_theorems.proofs.Rack.{apart_more, apart_picked, held_after, held_but, held_more, held_picked, other_picked, other_than_held}
use Rattle.es_theorems.proofs.Running.{run_on}
use Rattle.es_theorems.proofs.Spending.{listed, struck_listed, test_turned}
use Rattle.es_theorems.proofs.Turning.{after_event, still_owes_nothing}

-- The tickets after deeds, where what comes is that of object o

abbrev ticket_with : ℕ → Option Body → ℕ → Tickets
ticket_with o None w = []
ticket_with o (Some (Plain v)) w = []
ticket_with o (Some (Block b k)) w = (o, row k b w) ∷ []

abbrev after_deed : ℕ → Deed → Tickets → Tickets
after_deed o (Opens b w s) ts = ts ++ (o, row s b w) ∷ []
after_deed o (Posts r m) ts = ts
after_deed o (Takes s m w) ts = ts ++ ticket_with o m w
after_deed o (Spends s) ts = filter (λ t. not (t.1.serial == s)) ts
after_deed o (Accesses s i m old) ts = ts
after_deed o (Waits s) ts = ts
after_deed o (Passes s) ts = ts
after_deed o Ends ts = ts
after_deed o (Sleeps s i w) ts = ts
after_deed o (Notifies s i n k) ts = ts
after_deed o (Wakes p) ts = ts
after_deed o (TimesOut p) ts = ts

abbrev after_deeds : ℕ → List Deed → Tickets → Tickets
after_deeds o [] ts = ts
after_deeds o (d ∷ ds) ts = after_deeds o ds (after_deed o d ts)

one_more : (o : ℕ) (ds : List Deed) (d : Deed) (ts : Tickets) → after_deeds o (ds ++ d ∷ []) ts ≡ after_deed o d (after_deeds o ds ts)
one_more o [] d ts = refl
one_more o (c ∷ ds) d ts = one_more o ds d (after_deed o c ts)

-- at no time two of them have one serial
abbrev StayApart : ℕ → List Deed → Tickets → Type 0
StayApart o [] ts = Apart ts
StayApart o (d ∷ ds) ts = Apart ts × StayApart o ds (after_deed o d ts)

apart_then : (o : ℕ) (ds : List Deed) (d : Deed) (ts : Tickets) → StayApart o ds ts → Apart (after_deed o d (after_deeds o ds ts)) → StayApart o (ds ++ d ∷ []) ts
apart_then o [] d ts before now = (before, now)
apart_then o (c ∷ ds) d ts before now = (before.0, apart_then o ds d (after_deed o c ts) before.1 now)

apart_first : (o : ℕ) (ds : List Deed) (ts : Tickets) → StayApart o ds ts → Apart ts
apart_first o [] ts apart = apart
apart_first o (d ∷ ds) ts apart = apart.0

-- One event

-- it gives nothing, and spends nothing
pub quiet : (k n : ℕ) (l : Ledger) (e : LedgerEvent) (ts : Tickets) → LegalSoFar k l → ((j : ℕ) → e ≡ Spent j → ⊥) → ((j : ℕ) → Gives l e j n → ⊥) → Racked n l ts → Racked n (e ∷ l) ts
quiet k n l e ts legal unspent none r = record { held = held_after k l e n ts legal unspent r.held; apart = r.apart; only = only_after n l e ts none r.only }

-- it gives this ticket
one_given : (k n o : ℕ) (l : Ledger) (e : LedgerEvent) (q : Row) (ts : Tickets) → LegalSoFar k l → ((j : ℕ) → e ≡ Spent j → ⊥) → holder_of (e ∷ l) q.serial ≡ Some (n, q) → ((p : Row) → holder_of l q.serial ≡ Some (n, p) → ⊥) → ((j : ℕ) → Gives l e j n → q.serial ≡ j) → Racked n l ts
    → Racked n (e ∷ l) (ts ++ (o, q) ∷ [])
one_given k n o l e q ts legal unspent mine fresh one r = record {
  held = held_more n (e ∷ l) ts (o, q) (held_after k l e n ts legal unspent r.held) mine;
  apart = apart_more ts (o, q) r.apart (other_than_held n q.serial l ts r.held fresh);
  only = only_more n q.serial l e ts (o, q) refl one r.only;
}

opened : (k n o b w s : ℕ) (l : Ledger) (ts : Tickets) → LegalSoFar k l → s ≡ serials l + 1 → Racked n l ts → Racked n (Opened b w s n ∷ l) (ts ++ (o, row s b w) ∷ [])
opened k n o b w s l ts legal next r =
    one_given k n o l (Opened b w s n) (row s b w) ts legal (λ j f. cc) (held_new k l b w s n legal next) (λ q mine. not_yet k l s n q legal mine next) (λ j gives. gives.0) r

taken : (k n o s : ℕ) (l : Ledger) (ts : Tickets) → LegalSoFar k l → has_message l s n ≡ true → Racked n l ts → Racked n (Taken s n ∷ l) (ts ++ ticket_with o (front l s n) (option_map_or (words_in l) (front l s n) 0))
taken k n o s l ts legal there r = by (front l s n) refl there
  where
    by : (m : Option Body) → front l s n ≡ m → is_some m ≡ true → Racked n (Taken s n ∷ l) (ts ++ ticket_with o m (option_map_or (words_in l) m 0))
    by None is some = cc
    by (Some (Plain v)) is some =
        subst (Racked n (Taken s n ∷ l)) (sym (append-nil ts))
        (quiet k n l (Taken s n) ts legal (λ j f. cc) (λ j gives. (let none : ◌≡◌ {A = Option ℕ} None (Some j) = sym (ap (option_and_then serial_in) is) ∙ gives.0 in cc)) r)
    by (Some (Block b j)) is some =
        one_given k n o l (Taken s n) (row j b (size l b)) ts legal (λ i f. cc) (held_taken k l s n b j legal is) (λ q mine. not_mine k l s n j b n q legal is mine)
        (λ i gives. inner (sym (ap (option_and_then serial_in) is) ∙ gives.0)) r

none_left : (j : ℕ) (ts : Tickets) → OtherThan j (filter (λ t. not (t.1.serial == j)) ts)
none_left j [] = tt
none_left j (t ∷ ts) = by (t.1.serial == j) refl (none_left j ts)
  where
    by : (b : Bool) → (t.1.serial == j) ≡ b → OtherThan j (filter (λ t. not (t.1.serial == j)) ts) → OtherThan j (cond (not b) (t ∷ filter (λ t. not (t.1.serial == j)) ts) (filter (λ t. not (t.1.serial == j)) ts))
    by true is rest = rest
    by false is rest = ((λ same. false≢true (sym is ∙ eq-eqb t.1.serial j same)), rest)

put_back : (i j : ℕ) (ts : Tickets) → (j ≡ i → ⊥) → OtherThan i (filter (λ t. not (t.1.serial == j)) ts) → OtherThan i ts
put_back i j [] apart other = tt
put_back i j (t ∷ ts) apart other = by (t.1.serial == j) refl other (put_back i j ts apart)
  where
    by : (b : Bool) → (t.1.serial == j) ≡ b → OtherThan i (cond (not b) (t ∷ filter (λ t. not (t.1.serial == j)) ts) (filter (λ t. not (t.1.serial == j)) ts))
        → (OtherThan i (filter (λ t. not (t.1.serial == j)) ts) → OtherThan i ts) → OtherThan i (t ∷ ts)
    by true is other rest = ((λ same. apart (sym (eqb-true t.1.serial j is) ∙ same)), rest other)
    by false is other rest = (other.0, rest other.1)

spent : (k n j : ℕ) (l : Ledger) (ts : Tickets) → LegalSoFar k l → Racked n l ts → Racked n (Spent j ∷ l) (filter (λ t. not (t.1.serial == j)) ts)
spent k n j l ts legal r = record {
  held = held_but k l j n (filter (λ t. not (t.1.serial == j)) ts) legal (none_left j ts) (held_picked (λ t. not (t.1.serial == j)) n l ts r.held);
  apart = apart_picked (λ t. not (t.1.serial == j)) ts r.apart;
  only = λ i q is other. elim (back l (Spent j) i n q is) [
    | inl was ↦ r.only i q was (put_back i j ts (λ same. spent_off l i n q (ap (λ j. holder_of (Spent j ∷ l) i) (sym same) ∙ is)) other)
    | inr gives ↦ gives
  ];
}

-- whose deed it is, and what
turned_to : (o : ℕ) (ts : Tickets) (l m : Ledger) (a n : ℕ) (c d : Deed) → ◌≡◌ {A = Option (ℕ × Deed)} (Some (a, c)) (Some (n, d)) → (Racked a l ts → Racked a m (after_deed o c ts)) → Racked n l ts → Racked n m (after_deed o d ts)
turned_to o ts l m a n c d is f = let both : ◌≡◌ {A = ℕ × Deed} (a, c) (n, d) = inner is in subst (λ (p : ℕ × Deed). Racked p.0 l ts → Racked p.0 m (after_deed o p.1 ts)) both f

acted : (o : ℕ) (p : Option Sleep) (act : Act) (ts : Tickets) → after_deed o (acting p act) ts ≡ ts
acted o p (Waiting s) ts = refl
acted o p _ ts = refl

racked_next : (k n o : ℕ) (l : Ledger) (e : LedgerEvent) (d : Deed) (ts : Tickets) → LegalSoFar k l → MayCome k l e → deed l e ≡ Some (n, d) → Racked n l ts → Racked n (e ∷ l) (after_deed o d ts)
racked_next k n o l (Opened b w s a) d ts legal may is = turned_to o ts l (Opened b w s a ∷ l) a n (Opens b w s) d is (opened k a o b w s l ts legal may.1)
racked_next k n o l (Posted a q m) d ts legal may is = turned_to o ts l (Posted a q m ∷ l) a n (Posts q m) d is (quiet k a l (Posted a q m) ts legal (λ j f. cc) (λ j f. f))
racked_next k n o l (Taken s a) d ts legal may is = turned_to o ts l (Taken s a ∷ l) a n (Takes s (front l s a) (option_map_or (words_in l) (front l s a) 0)) d is (taken k a o s l ts legal may)
racked_next k n o l (Spent j) d ts legal may is = by (holder_of l j) is
  where
    by : (h : Option (ℕ × Row)) → option_map {U = ℕ × Deed} (λ p. (p.0, Spends j)) h ≡ Some (n, d) → Racked n l ts → Racked n (Spent j ∷ l) (after_deed o d ts)
    by None is = cc
    by (Some p) is = turned_to o ts l (Spent j ∷ l) p.0 n (Spends j) d is (spent k p.0 j l ts legal)
racked_next k n o l (Accessed s i m old) d ts legal may is = by (holder_of l s) is
  where
    by : (h : Option (ℕ × Row)) → option_map {U = ℕ × Deed} (λ p. (p.0, Accesses s i m old)) h ≡ Some (n, d) → Racked n l ts → Racked n (Accessed s i m old ∷ l) (after_deed o d ts)
    by None is = cc
    by (Some p) is = turned_to o ts l (Accessed s i m old ∷ l) p.0 n (Accesses s i m old) d is (quiet k p.0 l (Accessed s i m old) ts legal (λ j f. cc) (λ j f. f))
racked_next k n o l (Acted a act) d ts legal may is =
    turned_to o ts l (Acted a act ∷ l) a n _ d is (λ r. subst (Racked a (Acted a act ∷ l)) (sym (acted o _ act ts)) (quiet k a l (Acted a act) ts legal (λ j f. cc) (λ j f. f) r))
racked_next k n o l (Drained s q) d ts legal may is = cc

-- The events of a turn

record Grown (o n : ℕ) (l m : Ledger) (ts : Tickets) : Type 0 where
  deeds : List Deed
  part_is : part m n ≡ part l n ++ deeds
  rack : Racked n m (after_deeds o deeds ts)
  apart : StayApart o deeds ts

wait_leaves : (o : ℕ) (d : Deed) (ts : Tickets) → is_wait d ≡ true → after_deed o d ts ≡ ts
wait_leaves o (Waits s) ts w = refl
wait_leaves o (Sleeps s i x) ts w = refl
wait_leaves o _ ts w = cc

grown_next : (k o n : ℕ) (l m : Ledger) (e : LedgerEvent) (d : Deed) (ts : Tickets) → LegalSoFar k m → MayCome k m e → deed m e ≡ Some (n, d) → Grown o n l m ts → Grown o n l (e ∷ m) ts
grown_next k o n l m e d ts legal may is before = by (is_wait d) refl
  where
    now : Racked n (e ∷ m) (after_deed o d (after_deeds o before.deeds ts))
    now = racked_next k n o m e d (after_deeds o before.deeds ts) legal may is before.rack

    by : (w : Bool) → is_wait d ≡ w → Grown o n l (e ∷ m) ts
    by true w = record {
      deeds = before.deeds;
      part_is = part_waits m e n n d is w ∙ before.part_is;
      rack = subst (Racked n (e ∷ m)) (wait_leaves o d (after_deeds o before.deeds ts) w) now;
      apart = before.apart;
    }
    by false w = record {
      deeds = before.deeds ++ d ∷ [];
      part_is = part_own m e n d is w ∙ ap (λ p. p ++ d ∷ []) before.part_is ∙ append_assoc (part l n) before.deeds (d ∷ []);
      rack = subst (Racked n (e ∷ m)) (sym (one_more o before.deeds d ts)) now;
      apart = apart_then o before.deeds d ts before.apart now.apart;
    }

grown : (k o n : ℕ) (l : Ledger) (es : List LedgerEvent) (ts : Tickets) → AreDeedsOf n es l → owed l ≡ None → LegalSoFar k (es ++ l) → Racked n l ts → Grown o n l (es ++ l) ts
grown k o n l [] ts are none legal r = record { deeds = []; part_is = sym (append-nil (part l n)); rack = r; apart = r.apart }
grown k o n l (e ∷ es) ts are none legal r =
    grown_next k o n l (es ++ l) e are.0.0 ts legal.1 (subst (ComesNext k (es ++ l) e) (still_owes_nothing n l es are.1 none) legal.0) are.0.1 (grown k o n l es ts are.1 none legal.1 r)

-- What they meet

-- the object that comes with what is asked
abbrev object_in : Asking → ℕ
object_in (to_open n v) = unwrap_or (object_of v) 0
object_in (to_receive s v) = unwrap_or (object_of v) 0
object_in _ = 0

-- no deed, or one that brings and spends nothing
none_done : (o : ℕ) (t left : Tickets) (ds : List Deed) (b : Bool) → no_more ds ≡ true → some_if b t ≡ Some left → after_deeds o ds t ≡ left
none_done o t left ds b none e = ap (λ ds. after_deeds o ds t) (none_more ds none) ∙ sym (some_if_is b t left e)

quiet_done : (o : ℕ) (t left : Tickets) (ds : List Deed) (test : Deed → Bool) → ((b w s : ℕ) → test (Opens b w s) ≡ false) → ((s w : ℕ) (m : Option Body) → test (Takes s m w) ≡ false) → ((s : ℕ) → test (Spends s) ≡ false)
    → some_if (is_one test ds) t ≡ Some left → after_deeds o ds t ≡ left
quiet_done o t left ds test opens takes spends e = let one = one_of test ds (some_if_true _ t left e) in ap (λ ds. after_deeds o ds t) one.1 ∙ at one.0 one.2 ∙ sym (some_if_is _ t left e)
  where
    at : (d : Deed) → test d ≡ true → after_deed o d t ≡ t
    at (Opens b w s) is = absurd (false≢true (sym (opens b w s) ∙ is))
    at (Takes s m w) is = absurd (false≢true (sym (takes s w m) ∙ is))
    at (Spends s) is = absurd (false≢true (sym (spends s) ∙ is))
    at _ is = refl

-- one that brings a ticket
added : (t left : Tickets) (o : Option ℕ) (r : Row) → option_map (λ o. t ++ (o, r) ∷ []) o ≡ Some left → t ++ (unwrap_or o 0, r) ∷ [] ≡ left
added t left None r is = cc
added t left (Some o) r is = inner is

open_done : (t left : Tickets) (n : ℕ) (v : Value) (d : Deed) → opening t n v d ≡ Some left → after_deed (unwrap_or (object_of v) 0) d t ≡ left
open_done t left n v (Opens b w s) is = by (w == n) is
  where
    by : (x : Bool) → cond x (option_map (λ o. t ++ (o, row s b w) ∷ []) (object_of v)) None ≡ Some left → t ++ (unwrap_or (object_of v) 0, row s b w) ∷ [] ≡ left
    by true is = added t left (object_of v) (row s b w) is
    by false is = cc
open_done t left n v _ is = cc

receive_done : (t left : Tickets) (s : ℕ) (v : Value) (d : Deed) → receiving t s v d ≡ Some left → after_deed (unwrap_or (object_of v) 0) d t ≡ left
receive_done t left s v (Takes u m w) is = by (u == s) m is
  where
    by : (x : Bool) (m : Option Body) → cond x (option_and_then (λ b. gives_body t v b w) m) None ≡ Some left → t ++ ticket_with (unwrap_or (object_of v) 0) m w ≡ left
    by false m is = cc
    by true None is = cc
    by true (Some (Plain u)) is = append-nil t ∙ sym (some_if_is _ t left is)
    by true (Some (Block b k)) is = added t left (object_of v) (row k b w) is
receive_done t left s v _ is = cc

-- a message whose ticket is spent at once
unlast : (t : Tickets) (o q : ℕ) (r : Row) → q ≡ r.serial → Apart (t ++ (o, r) ∷ []) → filter (λ t. not (t.1.serial == q)) (t ++ (o, r) ∷ []) ≡ t
unlast [] o q r same apart = ap (λ b. cond (not b) ((o, r) ∷ []) []) (eq-eqb r.serial q (sym same))
unlast (x ∷ t) o q r same apart =
    let other = (dropped x.1.serial t (o, r) apart.0).1 in
    ap (λ b. cond (not b) (x ∷ filter (λ t. not (t.1.serial == q)) (t ++ (o, r) ∷ [])) (filter (λ t. not (t.1.serial == q)) (t ++ (o, r) ∷ []))) (ne_eqb x.1.serial q (λ is. other (sym same ∙ sym is)))
    ∙ ap (λ t. x ∷ t) (unlast t o q r same apart.1)

refuse_done : (t : Tickets) (ds : List Deed) → option_map_or (λ p. is_refusal p.0 p.1) (pair ds) false ≡ true → StayApart 0 ds t → after_deeds 0 ds t ≡ t
refuse_done t [] is apart = cc
refuse_done t (c ∷ []) is apart = cc
refuse_done t (b ∷ c ∷ d ∷ ds) is apart = cc
refuse_done t (Takes u m w ∷ d ∷ []) is apart = by m d is apart
  where
    by : (m : Option Body) (d : Deed) → spends_ticket_in m d ≡ true → StayApart 0 (Takes u m w ∷ d ∷ []) t → after_deeds 0 (Takes u m w ∷ d ∷ []) t ≡ t
    by (Some (Block b k)) (Spends q) is apart = unlast t 0 q (row k b w) (eqb-true q k is) apart.1.0
    by (Some (Block b k)) d is apart = absurd (false≢true is)
    by (Some (Plain v)) d is apart = cc
    by None d is apart = cc
refuse_done t (c ∷ d ∷ []) is apart = cc

-- Tickets that are spent, in any order

all_picked : (ts : Tickets) → filter (λ t. true) ts ≡ ts
all_picked [] = refl
all_picked (t ∷ ts) = ap (λ ts. t ∷ ts) (all_picked ts)

none_picked : (ts : Tickets) → filter (λ t. false) ts ≡ []
none_picked [] = refl
none_picked (t ∷ ts) = none_picked ts

not_either : (a b : Bool) → not (a || b) ≡ (not b && not a)
not_either true true = refl
not_either true false = refl
not_either false true = refl
not_either false false = refl

spend_done : (o : ℕ) (closing : Bool) (ns : List ℕ) (ds : List Deed) (t : Tickets) → spends closing ns ds ≡ true → after_deeds o ds t ≡ filter (λ t. not (listed t.1.serial ns)) t
spend_done o false [] [] t is = sym (all_picked t)
spend_done o true [] (Ends ∷ []) t is = sym (all_picked t)
spend_done o closing [] ds t is = absurd (cc)
spend_done o closing (k ∷ ns) (Spends s ∷ ds) t is = by (strike s (k ∷ ns)) refl (λ ms is. spend_done o closing ms ds (filter (λ t. not (t.1.serial == s)) t) is) is
  where
    by : (p : Option (List ℕ)) → strike s (k ∷ ns) ≡ p → ((ms : List ℕ) → spends closing ms ds ≡ true → after_deeds o ds (filter (λ t. not (t.1.serial == s)) t) ≡ filter (λ t. not (listed t.1.serial ms)) (filter (λ t. not (t.1.serial == s)) t))
        → option_map_or (λ ms. spends closing ms ds) p false ≡ true → after_deeds o ds (filter (λ t. not (t.1.serial == s)) t) ≡ filter (λ t. not (listed t.1.serial (k ∷ ns))) t
    by None at more is = absurd (cc)
    by (Some ms) at more is =
        more ms is
        ∙ sym (filtered_twice (λ t. not (listed t.1.serial ms)) (λ t. not (t.1.serial == s)) t)
        ∙ sym (filter_agree (λ t. not (listed t.1.serial (k ∷ ns))) (λ t. not (listed t.1.serial ms) && not (t.1.serial == s))
        (λ t. ap not (struck_listed s t.1.serial (k ∷ ns) ms at ∙ ap (λ b. b || listed t.1.serial ms) (test_turned s t.1.serial)) ∙ not_either (t.1.serial == s) (listed t.1.serial ms)) t)
spend_done o closing (k ∷ ns) _ t is = absurd (cc)

passed_over : (k : ℕ) (f : ℕ × Row → Bool) (ts : Tickets) → OtherThan k ts → filter (λ t. not ((k == t.1.serial) || f t)) ts ≡ filter (λ t. not (f t)) ts
passed_over k f [] other = refl
passed_over k f (t ∷ ts) other =
    ap (λ b. cond (not (b || f t)) (t ∷ filter (λ t. not ((k == t.1.serial) || f t)) ts) (filter (λ t. not ((k == t.1.serial) || f t)) ts)) (ne_eqb k t.1.serial (λ same. other.0 (sym same)))
    ∙ ap (λ ts. cond (not (f t)) (t ∷ ts) ts) (passed_over k f ts other.1)

unlisted : (k : ℕ) (ts : Tickets) → OtherThan k ts → listed k (serials_of ts) ≡ false
unlisted k [] other = refl
unlisted k (t ∷ ts) other = ap (λ b. b || listed k (serials_of ts)) (ne_eqb t.1.serial k other.0) ∙ unlisted k ts other.1

-- where those that pass are spent, the others are left
others_left : (g : ℕ × Row → Bool) (ts : Tickets) → Apart ts → filter (λ t. not (listed t.1.serial (serials_of (filter g ts)))) ts ≡ filter (λ t. not (g t)) ts
others_left g [] apart = refl
others_left g (t ∷ ts) apart = by (g t) (others_left g ts apart.1)
  where
    by : (b : Bool) → filter (λ t. not (listed t.1.serial (serials_of (filter g ts)))) ts ≡ filter (λ t. not (g t)) ts
        → filter (λ x. not (listed x.1.serial (serials_of (cond b (t ∷ filter g ts) (filter g ts))))) (t ∷ ts) ≡ cond (not b) (t ∷ filter (λ t. not (g t)) ts) (filter (λ t. not (g t)) ts)
    by true rest =
        ap (λ b. cond (not (b || listed t.1.serial (serials_of (filter g ts)))) (t ∷ filter (λ x. not ((t.1.serial == x.1.serial) || listed x.1.serial (serials_of (filter g ts)))) ts) (filter (λ x. not ((t.1.serial == x.1.serial) || listed x.1.serial (serials_of (filter g ts)))) ts)) (eq-eqb t.1.serial t.1.serial refl)
        ∙ passed_over t.1.serial (λ x. listed x.1.serial (serials_of (filter g ts))) ts apart.0
        ∙ rest
    by false rest =
        ap (λ b. cond (not b) (t ∷ filter (λ x. not (listed x.1.serial (serials_of (filter g ts)))) ts) (filter (λ x. not (listed x.1.serial (serials_of (filter g ts)))) ts)) (unlisted t.1.serial (filter g ts) (other_picked g t.1.serial ts apart.0))
        ∙ ap (λ ts. t ∷ ts) rest

-- Whatever is asked

met : (t left : Tickets) (q : Asking) (ds : List Deed) → after t q ds ≡ Some left → StayApart (object_in q) ds t → after_deeds (object_in q) ds t ≡ left
met t left nothing ds e apart = none_done 0 t left ds _ (some_if_true _ t left e) e
met t left (to_open n v) ds e apart = let one = sole_of (opening t n v) ds left e in ap (λ ds. after_deeds (unwrap_or (object_of v) 0) ds t) one.1 ∙ open_done t left n v one.0 one.2
met t left (to_measure b v) ds e apart = none_done 0 t left ds _ (and_parts (no_more ds) _ (some_if_true _ t left e)).0 e
met t left (to_compare b c v) ds e apart = none_done 0 t left ds _ (and_parts (no_more ds) _ (some_if_true _ t left e)).0 e
met t left (to_access b i m v) ds e apart = quiet_done 0 t left ds (is_access t b i m v) (λ b w s. refl) (λ s w m. refl) (λ s. refl) e
met t left (to_miss b i w) ds e apart = quiet_done 0 t left ds (is_miss t b i w) (λ b w s. refl) (λ s w m. refl) (λ s. refl) e
met t left (to_sleep b i w WaitResult.Woken) ds e apart = quiet_done 0 t left ds (is_end_of_sleep t b i w WaitResult.Woken) (λ b w s. refl) (λ s w m. refl) (λ s. refl) e
met t left (to_sleep b i w WaitResult.NotEqual) ds e apart = quiet_done 0 t left ds (is_end_of_sleep t b i w WaitResult.NotEqual) (λ b w s. refl) (λ s w m. refl) (λ s. refl) e
met t left (to_sleep b i w WaitResult.TimedOut) ds e apart = quiet_done 0 t left ds (is_end_of_sleep t b i w WaitResult.TimedOut) (λ b w s. refl) (λ s w m. refl) (λ s. refl) e
met t left (to_notify b i n v) ds e apart = quiet_done 0 t left ds (is_notify t b i n v) (λ b w s. refl) (λ s w m. refl) (λ s. refl) e
met t left (to_post a v) ds e apart = quiet_done 0 t left ds (is_post t a v) (λ b w s. refl) (λ s w m. refl) (λ s. refl) e
met t left (to_receive s v) ds e apart = let one = sole_of (receiving t s v) ds left e in ap (λ ds. after_deeds (unwrap_or (object_of v) 0) ds t) one.1 ∙ receive_done t left s v one.0 one.2
met t left to_refuse ds e apart = refuse_done t ds (some_if_true _ t left e) apart ∙ sym (some_if_is _ t left e)
met t left (to_pass s) ds e apart = quiet_done 0 t left ds (is_pass s) (λ b w s. refl) (λ s w m. refl) (λ s. refl) e
met t left (to_empty ids) ds e apart =
    spend_done 0 false (serials_of (within ids t)) ds t (some_if_true _ (beyond ids t) left e) ∙ others_left (λ p. is_in ids p.0) t (apart_first 0 ds t apart) ∙ sym (some_if_is _ (beyond ids t) left e)
met t left to_close ds e apart =
    spend_done 0 true (serials_of t) ds t (some_if_true _ [] left e)
    ∙ ap (λ u. filter (λ t. not (listed t.1.serial (serials_of u))) t) (sym (all_picked t))
    ∙ others_left (λ p. true) t (apart_first 0 ds t apart)
    ∙ none_picked t
    ∙ sym (some_if_is _ [] left e)

-- with a ticket comes a new object
word_brings_none : (b : Value) (i : ℤ) (t : Task) (v : Value) (ds : List Deed) → ticket_in (asks_word b i t v) ds ≡ []
word_brings_none b i (Task.Access m) v ds = refl
word_brings_none b i (Task.Sleep w) v ds = by (wait_given v)
  where
    by : (r : WaitResult) → ticket_in (asks_wait b i w r) ds ≡ []
    by WaitResult.Woken = refl
    by _ = refl
word_brings_none b i (Task.Notify n) v ds = refl

did_made : (h : History) (c : Command) (vs : List Value) (a : Answer) (ds : List Deed) (t : ℕ × Row) → ticket_in (asks_did c vs a) ds ≡ t ∷ [] → made h + 1 ≤ made (Did (c, vs, a) ∷ h)
did_made h (SharedArrayBuffer to n) vs a ds t is = omega arith
did_made h (Atomic c) vs a ds t is = let clash : [] ≡ t ∷ [] = sym (word_brings_none (first vs) (index_of c vs) (task_of c vs) (given a) ds) ∙ is in cc
did_made h _ vs a ds t is = cc

received_made : (h : History) (s : ℕ) (v : Value) (d : Option Deed) (t : ℕ × Row) → option_map_or (taken_ticket v) d [] ≡ t ∷ [] → made h + 1 ≤ made (Received s v ∷ h)
received_made h s v None t is = cc
received_made h s v (Some d) t is = by d is
  where
    with_body : (o : Option ℕ) (r : Row) → option_map_or (λ o. (o, r) ∷ []) o [] ≡ t ∷ [] → made h + 1 ≤ option_map_or (λ i. 1) o 0 + made h
    with_body None r is = cc
    with_body (Some o) r is = omega arith

    by : (d : Deed) → taken_ticket v d ≡ t ∷ [] → made h + 1 ≤ made (Received s v ∷ h)
    by (Takes u (Some (Block b k)) w) is = with_body (object_of v) (row k b w) is
    by _ is = cc

made_more : (between : Bool) (h : History) (e : Event) (ds : List Deed) (t : ℕ × Row) → ticket_in (asks between e) ds ≡ t ∷ [] → made h + 1 ≤ made (e ∷ h)
made_more between h (Did (c, vs, a)) ds t is = did_made h c vs a ds t is
made_more between h (Received s v) ds t is = received_made h s v (sole ds) t is
made_more between h (Refused code) ds t is = by (between && wants_room code) is
  where
    by : (b : Bool) → ticket_in (cond b to_refuse nothing) ds ≡ t ∷ [] → made h + 1 ≤ made (Refused code ∷ h)
    by true is = cc
    by false is = cc
made_more between h _ ds t is = cc

record Rises (b : AgentView) (r : Option Row) (e : Event) : Type 0 where
  rising : is_rising_from 0 (reverse (with_row r b).over) ≡ true
  newest_is : newest (with_row r b).over ≤ made (e ∷ b.history)

rises : (b : AgentView) (l : Ledger) (r : Option Row) (e : Event) (ds : List Deed) → Going b l → reverse b.over ++ ticket_in (asks (between_jobs b.history) e) ds ≡ reverse (with_row r b).over → Rises b r e
rises b l None e ds g is = record { rising = g.rising; newest_is = (let small = g.newest_is in omega (arith, small)) }
rises b l (Some q) e ds g is =
    let one = append_cancel_left (reverse b.over) (ticket_in (asks (between_jobs b.history) e) ds) ((made b.history + 1, q) ∷ []) (is ∙ reverse-append ((made b.history + 1, q) ∷ []) b.over) in
    record { rising = still_rises b.over (made b.history + 1) q g.rising (let small = g.newest_is in omega (arith, small)); newest_is = made_more (between_jobs b.history) b.history e ds (made b.history + 1, q) one }

-- An agent that has one event more goes on still

pub goes_on_after : (k : ℕ) (b new : AgentView) (l m : Ledger) → Going b l → IsTied b l → owed l ≡ None → LegalSoFar k m → GrowsBy b.number l m → GrowsByOne b new → IsTied new m → Going new m
goes_on_after k b new l m g tied none legal grows step now = subst (λ x. Going x m) (sym step.3) (record {
  run = subst (λ x. IsRunOver x.over x.plan x.history) step.3 (run_on b new g.run step);
  rising = more.rising;
  newest_is = more.newest_is;
  rack = subst (Racked b.number m) (met (tickets b) had.0 asking did.deeds had.1 did.apart ∙ ap (λ c. c.tickets) had.2) did.rack;
})
  where
    asking : Asking
    asking = asks (between_jobs b.history) step.0

    after_it : AgentView
    after_it = after_event b step.1 step.0

    did : Grown (object_in asking) b.number l m (tickets b)
    did = subst (λ m. Grown (object_in asking) b.number l m (tickets b)) (sym grows.1) (grown k (object_in asking) b.number l grows.0 (tickets b) grows.2 none (subst (LegalSoFar k) grows.1 legal) g.rack)

    ties : DeedsMeet (step.0 ∷ b.history) (part l b.number ++ did.deeds) (came_to after_it)
    ties = subst (λ p. DeedsMeet (step.0 ∷ b.history) p (came_to after_it)) did.part_is (subst (λ x. DeedsMeet x.history (part m x.number) (came_to x)) step.3 now.ties)

    had : (t : Tickets) × (after (tickets b) asking did.deeds ≡ Some t) × (record { tickets = t; ever = reverse b.over ++ ticket_in asking did.deeds; refused = refused_senders b.plan b.history ++ refused_in asking did.deeds } ≡ came_to after_it)
    had = mapped _ (after (tickets b) asking did.deeds) (came_to after_it) (came_next b.history (part l b.number) did.deeds (came_to b) (came_to after_it) step.0 tied.ties ties)

    more : Rises b step.1 step.0
    more = rises b l step.1 step.0 did.deeds g (ap (λ c. c.ever) had.2)
