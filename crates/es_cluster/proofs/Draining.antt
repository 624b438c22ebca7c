-- What is drained is nobody's.
use Rattle.std.proofs.Common.{◌≡◌, ℕ, zero, suc, ◌==◌, ◌&&◌, ◌||◌, true, cond, not, sym, ◌∙◌, ap, refl, subst, List, [], ◌∷◌, ◌++◌, append-nil, drop, eq-eqb, Option, Some, None}
use Rattle.std.specs.Prelude.{slice_get, is_some}
use Rattle.std.specs.Option.{option_and_then, option_map}
use Rattle.es_event.specs.History.{History}
use Rattle.es_event.specs.declared.ledger_event.Body.{Body}
use Rattle.es_event.specs.declared.ledger_event.Body.TheVariants.{Plain, Block}
use Rattle.es_event.specs.declared.ledger_event.LedgerEvent.{LedgerEvent}
use Rattle.es_event.specs.declared.ledger_event.LedgerEvent.TheVariants.{Spent, Drained}
use Rattle.es_event.specs.declared.row.Row.{Row}
use Rattle.es_event.specs.declared.row.Entry.{Entry}
use Rattle.es_event.specs.declared.row.Holder.{Holder}
use Rattle.es_event.specs.declared.row.Holder.TheVariants.{Agent, Port, Nobody}
use Rattle.es_event.specs.Rows.{held_by, line_of}
use Rattle.es_event.specs.Ledger.{Ledger, front, port_of, serial_in, table, by_agent, holder_of, waits, ended}
use Rattle.es_event.specs.LegalLedger.{ComesNext, LegalLedger, LegalSoFar, all_ended, owed}
use Rattle.es_ledger.specs.LedgerView.{LedgerView}
use Rattle.es_ledger.specs.Draining.{drained_one, drained_each, drained_to, drained_below, after_drain}
use Rattle.es_ledger.proofs.Lying.{lies_in_front, lying_all}
use Rattle.es_match.specs.Patience.{is_patient, patient, is_nobodys, drained_last}
use Rattle.es_match.specs.Cluster.{DeedsMeet, IsCluster, history_of}
use Rattle.es_match.specs.Patience.{has_drained as was_drained}
use Rattle.es_match.specs.Deeds.{Spends, deed, part, part_of, sleep_of}
use Rattle.es_cluster.proofs.Midway.{still_over}
use Rattle.es_cluster.specs.Tied.{came_to}
use Rattle.es_record.specs.AgentView.{AgentView}
use Rattle.es_cluster.specs.Moves.{with_drained}
use Rattle.es_cluster.specs.State.{ClusterView, ArePlaced, AreTied}

-- all agents have ended, nothing is owed, and something holds of the ledger's history
pub record Over (P : Ledger → Type 0) (n : ℕ) (l : Ledger) : Type 0 where
  pub legal : LegalSoFar n l
  pub paid : owed l ≡ None
  pub over : all_ended l n ≡ true
  pub kept : P l

-- it holds still after a drain, and after what nobody held was spent
pub record Outlasts (P : Ledger → Type 0) : Type 0 where
  pub drains : (l : Ledger) (r s : ℕ) → P l → P (Drained s r ∷ l)
  pub spends : (l : Ledger) (k : ℕ) → deed l (Spent k) ≡ None → P l → P (Spent k ∷ l)

-- what lies in a port no agent holds
by_port : (r : Row) (h : Holder) (s u : ℕ) → h ≡ Port s u → by_agent (held_by h r) ≡ None
by_port r (Agent a) s u is = cc
by_port r (Port t v) s u is = refl
by_port r Nobody s u is = refl

in_port : (o : Option Entry) (s r : ℕ) → option_map (λ e. e.holder) o ≡ Some (Port s r) → option_and_then by_agent o ≡ None
in_port None s r is = cc
in_port (Some e) s r is = by_port e.row e.holder s r (let same : e.holder ≡ Port s r = cc in same)

at_front : (l : Ledger) (s r : ℕ) (m : Body) (ms : List Body) → port_of l s r ≡ m ∷ ms → front l s r ≡ Some m
at_front l s r m ms is = ap (λ q. slice_get q 0) is

drains_next : (P : Ledger → Type 0) (n : ℕ) (l : Ledger) (s r : ℕ) (m : Body) → Over P n l → front l s r ≡ Some m → LegalSoFar n (Drained s r ∷ l)
drains_next P n l s r m o is = (subst (ComesNext n l (Drained s r)) (sym o.paid) (o.over, ap is_some is), o.legal)

port_left : (l : Ledger) (s r : ℕ) (m : Body) (ms : List Body) → port_of l s r ≡ m ∷ ms → port_of (Drained s r ∷ l) s r ≡ ms
port_left l s r m ms is =
    ap (λ b. cond (b && (r == r)) (drop 1 (port_of l s r)) (port_of l s r)) (eq-eqb s s refl)
    ∙ ap (λ b. cond b (drop 1 (port_of l s r)) (port_of l s r)) (eq-eqb r r refl)
    ∙ ap (drop 1) is

one : (P : Ledger → Type 0) (n : ℕ) (l : Ledger) (s r : ℕ) (m : Body) (ms : List Body) → Outlasts P → Over P n l → port_of l s r ≡ m ∷ ms → Over P n (drained_one l s r m) × (port_of (drained_one l s r m) s r ≡ ms)
one P n l s r (Plain v) ms keeps o is =
    let first = at_front l s r (Plain v) ms is in (
      record {
        legal = drains_next P n l s r (Plain v) o first;
        paid = ap (option_and_then serial_in) first;
        over = still_over (Drained s r) l n o.over;
        kept = keeps.drains l r s o.kept;
      },
      port_left l s r (Plain v) ms is,
    )
one P n l s r (Block b k) ms keeps o is =
    let first = at_front l s r (Block b k) ms is in
    let owes : option_and_then serial_in (front l s r) ≡ Some k = ap (option_and_then serial_in) first in
    let held : holder_of (Drained s r ∷ l) k ≡ None = in_port (line_of k (table l)) s r (lies_in_front l s r k (lying_all n l o.legal) owes) in (
      record {
        legal = (subst (ComesNext n (Drained s r ∷ l) (Spent k)) (sym owes) refl, drains_next P n l s r (Block b k) o first);
        paid = refl;
        over = still_over (Spent k) (Drained s r ∷ l) n (still_over (Drained s r) l n o.over);
        kept = keeps.spends (Drained s r ∷ l) k (ap (option_map (λ p. (p.0, Spends k))) held) (keeps.drains l r s o.kept);
      },
      port_left l s r (Block b k) ms is,
    )

each : (P : Ledger → Type 0) (n s r : ℕ) (ms : List Body) (l : Ledger) → Outlasts P → Over P n l → port_of l s r ≡ ms → Over P n (drained_each l s r ms)
each P n s r [] l keeps o is = o
each P n s r (m ∷ ms) l keeps o is = let next = one P n l s r m ms keeps o is in each P n s r ms (drained_one l s r m) keeps next.0 next.1

to : (P : Ledger → Type 0) (n : ℕ) (l : Ledger) (r m : ℕ) → Outlasts P → Over P n l → Over P n (drained_to l r m)
to P n l r zero keeps o = o
to P n l r (suc m) keeps o = each P n m r (port_of (drained_to l r m) m r) (drained_to l r m) keeps (to P n l r m keeps o) refl

below : (P : Ledger → Type 0) (n : ℕ) (l : Ledger) (m : ℕ) → Outlasts P → Over P n l → Over P n (drained_below l n m)
below P n l zero keeps o = o
below P n l (suc m) keeps o = to P n (drained_below l n m) m n keeps (below P n l m keeps o)

-- it holds after the drain
pub drained_over : (P : Ledger → Type 0) (n : ℕ) (l : Ledger) → Outlasts P → Over P n l → Over P n (after_drain l n)
drained_over P n l keeps o = below P n l n keeps o

-- Histories of one cluster

-- an event that is nobody's deed
nobodys : (hs : List History) (l : Ledger) (e : LedgerEvent) → deed l e ≡ None → IsCluster hs l → IsCluster hs (e ∷ l)
nobodys hs l e none c = record {
  parts = λ a. (let was = c.parts a in (was.0, subst (λ p. DeedsMeet (history_of hs a) p was.0) (sym (ap (λ o. part l a ++ part_of a o) none ∙ append-nil (part l a))) was.1));
  waits = ap (λ o. is_patient l o && patient l) none ∙ c.waits;
  drains = ap (λ o. (is_nobodys o || not (was_drained l)) && drained_last l) none ∙ c.drains;
}

pub cluster_outlasts : (hs : List History) → Outlasts (IsCluster hs)
cluster_outlasts hs = record {
  drains = λ l r s c. nobodys hs l (Drained s r) refl c;
  spends = λ l k none c. nobodys hs l (Spent k) none c;
}

-- The agents and their places

abbrev pub Stands : List AgentView → ℕ → Ledger → Type 0
Stands bs n l = ArePlaced bs (record { agents = n; history = l }) × AreTied bs (record { agents = n; history = l })

part_still : (l : Ledger) (e : LedgerEvent) (a : ℕ) → deed l e ≡ None → part (e ∷ l) a ≡ part l a
part_still l e a none = ap (λ o. part l a ++ part_of a o) none ∙ append-nil (part l a)

still : (bs : List AgentView) (n : ℕ) (l : Ledger) (e : LedgerEvent) → deed l e ≡ None → ((a : ℕ) → waits (e ∷ l) a ≡ waits l a) → ((a : ℕ) → sleep_of (e ∷ l) a ≡ sleep_of l a) → ((a : ℕ) → ended (e ∷ l) a ≡ ended l a) → Stands bs n l → Stands bs n (e ∷ l)
still bs n l e none same slept ends stands = (
  record {
    size = stands.0.size;
    each = λ i b is.
        (let was = stands.0.each i b is in
        record {
          number = was.number;
          seated = record { known = was.seated.known; agents = was.seated.agents; over = ends b.number ∙ was.seated.over };
          others = was.others;
        });
  },
  record {
    each = λ i b is.
        (let was = stands.1.each i b is in
        record {
          ties = subst (λ p. DeedsMeet b.history p (came_to b)) (sym (part_still l e b.number none)) was.ties;
          awaits = λ s waiting. was.awaits s (sym (same b.number) ∙ waiting);
          sleeps = λ s is. was.sleeps s (sym (slept b.number) ∙ is);
          waits_end = ap (λ o. is_patient l o && patient l) none ∙ was.waits_end;
          drains_end = ap (λ o. (is_nobodys o || not (was_drained l)) && drained_last l) none ∙ was.drains_end;
        });
    strangers = λ a beyond. part_still l e a none ∙ stands.1.strangers a beyond;
    waits_end = ap (λ o. is_patient l o && patient l) none ∙ stands.1.waits_end;
    drains_end = ap (λ o. (is_nobodys o || not (was_drained l)) && drained_last l) none ∙ stands.1.drains_end;
  },
)

pub stands_outlasts : (bs : List AgentView) (n : ℕ) → Outlasts (Stands bs n)
stands_outlasts bs n = record {
  drains = λ l r s stands. still bs n l (Drained s r) refl (λ a. refl) (λ a. refl) (λ a. refl) stands;
  spends = λ l k none stands. still bs n l (Spent k) none (λ a. refl) (λ a. refl) (λ a. refl) stands;
}

-- the agents have their places after a drain, and all have ended
pub drained_stands : (bs : List AgentView) (l m : LedgerView) → ArePlaced bs l → AreTied bs l → LegalLedger l.agents l.history → all_ended l.history l.agents ≡ true → m.agents ≡ l.agents → m.history ≡ after_drain l.history l.agents
    → ArePlaced bs m × AreTied bs m × (all_ended m.history m.agents ≡ true)
drained_stands bs l m placed tied legal over agents history =
    let end = drained_over (Stands bs l.agents) l.agents l.history (stands_outlasts bs l.agents) (record { legal = legal.0; paid = legal.1; over = over; kept = (placed, tied) }) in
    let same : ◌≡◌ {A = LedgerView} (record { agents = l.agents; history = after_drain l.history l.agents }) m = λ i. record { agents = sym agents i; history = sym history i } in
    (subst (ArePlaced bs) same end.kept.0, subst (AreTied bs) same end.kept.1, subst (λ b. all_ended b.history b.agents ≡ true) same end.over)

pub as_drained : (c : ClusterView) (m : LedgerView) → m.agents ≡ c.ledger.agents → m.history ≡ after_drain c.ledger.history c.ledger.agents → ◌≡◌ {A = ClusterView} (record { agents = c.agents; ledger = m; failed = c.failed }) (with_drained c)
as_drained c m agents history = λ i. record { agents = c.agents; ledger = record { agents = agents i; history = history i }; failed = c.failed }
