-- Who holds a ticket after one more event, and that who posts is one of the agents.
use Rattle.std.proofs.Common.{◌≡◌, ℕ, ◌<◌, ◌==◌, Bool, true, false, cond, true≢false, sym, ◌∙◌, ap, refl, List, [], ◌∷◌, ◌++◌, append-nil, Option, Some, None, eqb-true, eq-eqb}
use Rattle.std.specs.Option.{option_and_then, option_map, option_map_or}
use Rattle.es_event.specs.declared.ledger_event.Body.{Body}
use Rattle.es_event.specs.declared.ledger_event.Body.TheVariants.{Plain, Block}
use Rattle.es_event.specs.declared.ledger_event.LedgerEvent.TheVariants.{Posted, Taken}
use Rattle.es_event.specs.declared.row.Row.{Row}
use Rattle.es_event.specs.declared.row.Entry.{Entry}
use Rattle.es_event.specs.declared.row.Holder.{Holder}
use Rattle.es_event.specs.declared.row.Holder.TheVariants.{Agent, Port, Nobody}
use Rattle.es_event.specs.Rows.{held_by, line_of, moved}
use Rattle.es_event.specs.Ledger.{Ledger, by_agent, front, moved_if, serial_in, table}
use Rattle.es_event.specs.LegalLedger.{ComesNext, LegalSoFar, owed}
use Rattle.es_races.specs.declared.tickets.Ticket.{Ticket}
use Rattle.es_races.specs.Pass.{add_posted, add_ticket, hand_some, hand_ticket, handed_to, held_with, ticket_of}

-- the ticket of serial q in a table
abbrev pub ticket_at : ℕ → List Entry → Option Ticket
ticket_at q t = option_map ticket_of (line_of q t)

abbrev agent_of : Holder → Option ℕ
agent_of (Agent a) = Some a
agent_of (Port s r) = None
agent_of Nobody = None

pub added : (t : List Entry) (e : Entry) (q : ℕ) → ticket_at q (t ++ e ∷ []) ≡ add_ticket e.row.serial (ticket_of e) q (ticket_at q t)
added [] e q = case_of (e.row.serial == q)
  where
    case_of : (b : Bool) → option_map ticket_of (cond b (Some e) None) ≡ cond b (Some (ticket_of e)) None
    case_of true = refl
    case_of false = refl
added (x ∷ t) e q = case_of (x.row.serial == q) (added t e q)
  where
    case_of : (b : Bool) → ticket_at q (t ++ e ∷ []) ≡ add_ticket e.row.serial (ticket_of e) q (ticket_at q t)
        → option_map ticket_of (cond b (Some x) (line_of q (t ++ e ∷ []))) ≡ add_ticket e.row.serial (ticket_of e) q (option_map ticket_of (cond b (Some x) (line_of q t)))
    case_of true rest = refl
    case_of false rest = rest

same_ticket : (who : Holder) (x : Entry) → ticket_of (held_by who x.row) ≡ record { block = x.row.block; holder = agent_of who }
same_ticket (Agent a) x = refl
same_ticket (Port s r) x = refl
same_ticket Nobody x = refl

pub handed : (k : ℕ) (who : Holder) (t : List Entry) (q : ℕ) → ticket_at q (moved k who t) ≡ hand_ticket k (agent_of who) q (ticket_at q t)
handed k who [] q = case_of (k == q)
  where
    case_of : (b : Bool) → None ≡ cond b (option_map (handed_to (agent_of who)) None) None
    case_of true = refl
    case_of false = refl
handed k who (x ∷ t) q = case_of (x.row.serial == k) refl (x.row.serial == q) refl (k == q) refl (handed k who t q)
  where
    case_of : (a : Bool) → (x.row.serial == k) ≡ a → (b : Bool) → (x.row.serial == q) ≡ b → (c : Bool) → (k == q) ≡ c
        → ticket_at q (moved k who t) ≡ hand_ticket k (agent_of who) q (ticket_at q t)
        → ticket_at q ((cond a (held_by who x.row) x) ∷ moved k who t) ≡ cond c (option_map (handed_to (agent_of who)) (option_map ticket_of (cond b (Some x) (line_of q t)))) (option_map ticket_of (cond b (Some x) (line_of q t)))
    case_of true isk true isq true same rest = ap (λ b. option_map ticket_of (cond b (Some (held_by who x.row)) (line_of q (moved k who t)))) isq ∙ ap Some (same_ticket who x)
    case_of true isk true isq false same rest = absurd (true≢false (sym (eq-eqb k q (sym (eqb-true x.row.serial k isk) ∙ eqb-true x.row.serial q isq)) ∙ same))
    case_of true isk false isq c same rest = ap (λ b. option_map ticket_of (cond b (Some (held_by who x.row)) (line_of q (moved k who t)))) isq ∙ rest ∙ ap (λ b. cond b (option_map (handed_to (agent_of who)) (ticket_at q t)) (ticket_at q t)) same
    case_of false isk true isq true same rest = absurd (true≢false (sym (eq-eqb x.row.serial k (eqb-true x.row.serial q isq ∙ sym (eqb-true k q same))) ∙ isk))
    case_of false isk true isq false same rest = ap (λ b. option_map ticket_of (cond b (Some x) (line_of q (moved k who t)))) isq
    case_of false isk false isq c same rest = ap (λ b. option_map ticket_of (cond b (Some x) (line_of q (moved k who t)))) isq ∙ rest ∙ ap (λ b. cond b (option_map (handed_to (agent_of who)) (ticket_at q t)) (ticket_at q t)) same

pub posted : (l : Ledger) (a r : ℕ) (m : Body) (q : ℕ) → ticket_at q (table (Posted a r m ∷ l)) ≡ add_posted m q (ticket_at q (table l))
posted l a r (Plain v) q = ap (ticket_at q) (append-nil (table l))
posted l a r (Block b s) q = added (table l) _ q

pub taken : (l : Ledger) (s r q : ℕ) → ticket_at q (table (Taken s r ∷ l)) ≡ hand_some (option_and_then serial_in (front l s r)) (Some r) q (ticket_at q (table l))
taken l s r q = case_of (option_and_then serial_in (front l s r))
  where
    case_of : (o : Option ℕ) → ticket_at q (moved_if o (Agent r) (table l)) ≡ hand_some o (Some r) q (ticket_at q (table l))
    case_of None = refl
    case_of (Some k) = handed k (Agent r) (table l) q

-- who holds it

-- a holder has such a ticket
pub held_as : (o : Option Entry) (a b : ℕ) → option_and_then held_with (option_map ticket_of o) ≡ Some (a, b) → (r : Row) × ((option_and_then by_agent o ≡ Some (a, r)) × (r.block ≡ b))
held_as None a b is = cc
held_as (Some e) a b is = case_of e.holder refl is
  where
    case_of : (who : Holder) → e.holder ≡ who → option_map {U = ℕ × ℕ} (λ c. (c, e.row.block)) (option_map (λ p. p.0) (by_agent (held_by who e.row))) ≡ Some (a, b) → (r : Row) × ((by_agent e ≡ Some (a, r)) × (r.block ≡ b))
    case_of (Agent c) at is =
        let inner : (c ≡ a) × (e.row.block ≡ b) = (ap (λ o. option_map_or (λ (p : ℕ × ℕ). p.0) o 0) is, ap (λ o. option_map_or (λ (p : ℕ × ℕ). p.1) o 0) is) in
        (e.row, (ap (λ w. by_agent (held_by w e.row)) at ∙ ap (λ c. Some (c, e.row)) inner.0, inner.1))
    case_of (Port s r) at is = cc
    case_of Nobody at is = cc

pub held_none : (o : Option Entry) → option_and_then held_with (option_map ticket_of o) ≡ None → option_and_then by_agent o ≡ None
held_none None is = refl
held_none (Some e) is = case_of e.holder refl is
  where
    case_of : (who : Holder) → e.holder ≡ who → option_map {U = ℕ × ℕ} (λ c. (c, e.row.block)) (option_map (λ p. p.0) (by_agent (held_by who e.row))) ≡ None → by_agent e ≡ None
    case_of (Agent c) at is = cc
    case_of (Port s r) at is = ap (λ w. by_agent (held_by w e.row)) at
    case_of Nobody at is = ap (λ w. by_agent (held_by w e.row)) at

-- Who posts is one of the agents

pub few_senders : (n : ℕ) (l : Ledger) (a r : ℕ) (m : Body) → LegalSoFar n (Posted a r m ∷ l) → a < n
few_senders n l a r m legal = case_of (owed l) legal.0
  where
    case_of : (o : Option ℕ) → ComesNext n l (Posted a r m) o → a < n
    case_of None c = c.0
    case_of (Some k) c = cc
