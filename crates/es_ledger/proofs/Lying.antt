-- In a legal history each ticket of a message lies in the message's port, and nowhere else.
use Rattle.std.proofs.Common.{◌≡◌, ℕ, ◌==◌, List, [], ◌∷◌, ◌++◌, drop, Option, Some, None, Bool, true, false, cond, refl, sym, ap, ◌∙◌, subst, eq-eqb}
use Rattle.std.specs.Prelude.{is_some}
use Rattle.std.specs.Option.{option_map, option_and_then}
use Rattle.std.proofs.lemmas.Bool.{eqb-true, false≢true, and_parts, and_from}
use Rattle.es_event.specs.declared.ledger_event.Body.{Body}
use Rattle.es_event.specs.declared.ledger_event.Body.TheVariants.{Plain, Block}
use Rattle.es_event.specs.declared.ledger_event.LedgerEvent.{LedgerEvent}
use Rattle.es_event.specs.declared.ledger_event.LedgerEvent.TheVariants.{Opened, Posted, Taken, Spent, Drained}
use Rattle.es_event.specs.declared.row.Row.{Row}
use Rattle.es_event.specs.declared.row.Entry.{Entry}
use Rattle.es_event.specs.declared.row.Holder.{Holder}
use Rattle.es_event.specs.declared.row.Holder.TheVariants.{Agent, Port, Nobody}
use Rattle.es_event.specs.Rows.{row, held_by, line_of}
use Rattle.es_event.specs.Ledger.{Ledger, table, port_of, is_at, front, serial_in, size, posted_line, moved_if, by_agent}
use Rattle.es_event.specs.LegalLedger.{ComesNext, LegalSoFar, IsPostable, owed}
use Rattle.es_ledger.proofs.Lines.{holder_at, at_last}
use Rattle.es_ledger.proofs.Numbered.{IsNumbered, numbered, none_next}
use Rattle.es_ledger.proofs.Queues.{NotIn, AloneIn, AreApart, LiesAt, AllLieAt, lie_append, lie_moved, not_in, lie_more, apart_more, lie_fewer, apart_fewer, front_lies, front_alone}

-- each message's ticket lies in its port, no serial stands in two messages, and a ticket that is owed stands in none
pub record Lying (l : Ledger) : Type 0 where
  pub lie : (s r : ℕ) → AllLieAt (Port s r) (table l) (port_of l s r)
  pub apart : (s r : ℕ) → AreApart (port_of l s r)
  pub out : (k : ℕ) → owed l ≡ Some k → (s r : ℕ) → NotIn k (port_of l s r)

-- The port of an event

either : (P : List Body → Type 0) (b : Bool) (q p : List Body) → (b ≡ true → P q) → (b ≡ false → P p) → P (cond b q p)
either P true q p at off = at refl
either P false q p at off = off refl

-- the parts of the test
is_there : (s r t u : ℕ) → is_at s r t u ≡ true → (s ≡ t) × (r ≡ u)
is_there s r t u e = let parts = and_parts (s == t) (r == u) e in (eqb-true s t parts.0, eqb-true r u parts.1)

elsewhere : (s r t u : ℕ) → is_at s r t u ≡ false → Some (Port t u) ≡ Some (Port s r) → ⊥
elsewhere s r t u e same =
    let sender : s ≡ t = cc in
    let receiver : r ≡ u = cc in
    false≢true (sym e ∙ and_from (s == t) (r == u) (eq-eqb s t sender) (eq-eqb r u receiver))

-- the ticket in the oldest message

with_serial : (o : Option Body) (k : ℕ) → option_and_then serial_in o ≡ Some k → (b : ℕ) × (o ≡ Some (Block b k))
with_serial None k e = cc
with_serial (Some (Plain v)) k e = cc
with_serial (Some (Block b j)) k e = (b, cc)

pub lies_in_front : (l : Ledger) (s r k : ℕ) → Lying l → option_and_then serial_in (front l s r) ≡ Some k → holder_at k (table l) ≡ Some (Port s r)
lies_in_front l s r k lying e = let m = with_serial (front l s r) k e in front_lies (Port s r) (table l) (port_of l s r) (Block m.0 k) m.1 (lying.lie s r)

-- it stands in no other message
out_after : (l : Ledger) (t u k : ℕ) → Lying l → option_and_then serial_in (front l t u) ≡ Some k → (s r : ℕ) → NotIn k (cond (is_at s r t u) (drop 1 (port_of l s r)) (port_of l s r))
out_after l t u k lying e s r =
    either (NotIn k) (is_at s r t u) _ _
    (λ at.
    let same = is_there s r t u at in
    let here : option_and_then serial_in (front l s r) ≡ Some k = ap (λ s. option_and_then serial_in (front l s r)) same.0 ∙ ap (λ r. option_and_then serial_in (front l t r)) same.1 ∙ e in
    let m = with_serial (front l s r) k here in
    front_alone (port_of l s r) (Block m.0 k) m.1 (lying.apart s r))
    (λ off. not_in (Port s r) k (table l) (Some (Port t u)) (port_of l s r) (lies_in_front l t u k lying e) (elsewhere s r t u off) (lying.lie s r))

lie_after : (h : Holder) (t : List Entry) (b : Bool) (q : List Body) → AllLieAt h t q → AllLieAt h t (cond b (drop 1 q) q)
lie_after h t b q lie = either (AllLieAt h t) b _ _ (λ e. lie_fewer h t q lie) (λ e. lie)

apart_after : (b : Bool) (q : List Body) → AreApart q → AreApart (cond b (drop 1 q) q)
apart_after b q apart = either AreApart b _ _ (λ e. apart_fewer q apart) (λ e. apart)

-- Each event

-- where the oldest message is taken
lie_taken : (l : Ledger) (t u : ℕ) (o : Option ℕ) → Lying l → option_and_then serial_in (front l t u) ≡ o → (s r : ℕ)
    → AllLieAt (Port s r) (moved_if o (Agent u) (table l)) (cond (is_at s r t u) (drop 1 (port_of l s r)) (port_of l s r))
lie_taken l t u None lying e s r = lie_after (Port s r) (table l) (is_at s r t u) (port_of l s r) (lying.lie s r)
lie_taken l t u (Some k) lying e s r =
    lie_moved (Port s r) (Agent u) k (table l) _ (out_after l t u k lying e s r)
    (lie_after (Port s r) (table l) (is_at s r t u) (port_of l s r) (lying.lie s r))

-- where a message is posted
lies_posted : (l : Ledger) (a r : ℕ) (m : Body) → IsNumbered l → IsPostable l a m → LiesAt (Port a r) (table l ++ posted_line l a r m) m
lies_posted l a r (Plain v) is may = tt
lies_posted l a r (Block b k) is may =
    at_last k (table l) (posted_line l a r (Block b k)) (none_next l k is may.0)
    ∙ ap (λ t. option_map (λ (e : Entry). e.holder) (cond t (Some (held_by (Port a r) (row k b (size l b)))) None)) (eq-eqb k k refl)

alone_posted : (l : Ledger) (a s r : ℕ) (m : Body) → IsNumbered l → IsPostable l a m → Lying l → AloneIn m (port_of l s r)
alone_posted l a s r (Plain v) is may lying = tt
alone_posted l a s r (Block b k) is may lying = not_in (Port s r) k (table l) None (port_of l s r) (none_next l k is may.0) (λ e. cc) (lying.lie s r)

lie_posted : (l : Ledger) (t u : ℕ) (m : Body) → IsNumbered l → IsPostable l t m → Lying l → (s r : ℕ)
    → AllLieAt (Port s r) (table l ++ posted_line l t u m) (cond (is_at s r t u) (port_of l s r ++ m ∷ []) (port_of l s r))
lie_posted l t u m is may lying s r =
    let old = lie_append (Port s r) (table l) (posted_line l t u m) (port_of l s r) (lying.lie s r) in
    either (AllLieAt (Port s r) (table l ++ posted_line l t u m)) (is_at s r t u) _ _
    (λ at.
    let same = is_there s r t u at in
    let port : Port t u ≡ Port s r = ap (λ s. Port s u) (sym same.0) ∙ ap (Port s) (sym same.1) in
    lie_more (Port s r) _ (port_of l s r) m old (subst (λ h. LiesAt h (table l ++ posted_line l t u m) m) port (lies_posted l t u m is may)))
    (λ off. old)

-- an agent holds the ticket that is spent
by_some : (r : Row) (h : Holder) → is_some (by_agent (held_by h r)) ≡ true → (a : ℕ) × (h ≡ Agent a)
by_some r (Agent a) e = (a, refl)
by_some r (Port s t) e = cc
by_some r Nobody e = cc

agent_at : (o : Option Entry) → is_some (option_and_then by_agent o) ≡ true → (a : ℕ) × (option_map (λ e. e.holder) o ≡ Some (Agent a))
agent_at None e = cc
agent_at (Some x) e = let found = by_some x.row x.holder e in (found.0, ap Some found.1)

spent : (l : Ledger) (k : ℕ) → Lying l → ((s r : ℕ) → NotIn k (port_of l s r)) → Lying (Spent k ∷ l)
spent l k lying out = record {
  lie = λ s r. lie_moved (Port s r) Nobody k (table l) (port_of l s r) (out s r) (lying.lie s r);
  apart = lying.apart;
  out = λ j e. cc;
}

one_more : (n : ℕ) (l : Ledger) (e : LedgerEvent) (o : Option ℕ) → owed l ≡ o → ComesNext n l e o → IsNumbered l → Lying l → Lying (e ∷ l)
one_more n l e (Some k) owes c is lying = subst (λ e. Lying (e ∷ l)) (sym c) (spent l k lying (lying.out k owes))
one_more n l (Opened b w k a) None owes c is lying = record {
  lie = λ s r. lie_append (Port s r) (table l) _ (port_of l s r) (lying.lie s r);
  apart = lying.apart;
  out = λ j e. cc;
}
one_more n l (Posted a u m) None owes c is lying = record {
  lie = lie_posted l a u m is c.3 lying;
  apart = λ s r. either AreApart (is_at s r a u) _ _ (λ at. apart_more (port_of l s r) m (lying.apart s r) (alone_posted l a s r m is c.3 lying)) (λ off. lying.apart s r);
  out = λ j e. cc;
}
one_more n l (Taken t u) None owes c is lying = record {
  lie = lie_taken l t u (option_and_then serial_in (front l t u)) lying refl;
  apart = λ s r. apart_after (is_at s r t u) (port_of l s r) (lying.apart s r);
  out = λ j e. cc;
}
one_more n l (Drained t u) None owes c is lying = record {
  lie = λ s r. lie_after (Port s r) (table l) (is_at s r t u) (port_of l s r) (lying.lie s r);
  apart = λ s r. apart_after (is_at s r t u) (port_of l s r) (lying.apart s r);
  out = λ j e. out_after l t u j lying e;
}
one_more n l (Spent k) None owes c is lying =
    let by = agent_at (line_of k (table l)) c in
    spent l k lying (λ s r. not_in (Port s r) k (table l) (Some (Agent by.0)) (port_of l s r) by.1 (λ e. cc) (lying.lie s r))
one_more n l _ None owes c is lying = record { lie = lying.lie; apart = lying.apart; out = λ j e. cc }

pub lying_all : (n : ℕ) (l : Ledger) → LegalSoFar n l → Lying l
lying_all n [] legal = record { lie = λ s r. tt; apart = λ s r. tt; out = λ k e. cc }
lying_all n (e ∷ l) legal = one_more n l e (owed l) refl legal.0 (numbered n l legal.1) (lying_all n l legal.1)
