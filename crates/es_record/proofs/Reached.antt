-- The marks of an agent's graph are exactly what the definitions reach.
use Rattle.std.proofs.Common.{◌≡◌, ℕ, ◌<◌, ◌≤◌, ◌&&◌, not, Bool, true, false, nat_lt, nat_le, refl, List, Option, Some, None}
use Rattle.std.specs.Prelude.{is_some}
use Rattle.std.specs.Option.{option_and_then}
use Rattle.es_value.specs.declared.value.Value.TheVariants.{Object}
use Rattle.es_event.specs.History.{History}
use Rattle.es_event.specs.Identities.{made, is_gone, is_there, kind}
use Rattle.es_event.specs.Commands.{Kind}
use Rattle.es_event.specs.Jobs.{Receivers, receivers}
use Rattle.es_event.specs.Registrations.{callback, callback_in}
use Rattle.es_event.specs.Sharing.{Buffers}
use Rattle.es_event.specs.Legal.{LegalBy}
use Rattle.es_event.specs.Reach.{IsClosed, IsReached}
use Rattle.es_event.specs.Runs.{IsRun}
use Rattle.es_event.proofs.Alive.{Stays, alive_at, stays_along}
use Rattle.es_event.proofs.Keeping.{kept_within}
use Rattle.es_event.proofs.Objects.{object_within, var_within, prop_within, value_within}
use Rattle.es_event.proofs.Registries.{holding_within}
use Rattle.es_event.proofs.Safe.{there_from}
use Rattle.es_mark.specs.Graph.{IsClosed as IsClosedIn}
use Rattle.es_mark.specs.Marks.{is_marked}
use Rattle.es_record.specs.AgentView.{AgentView}
use Rattle.es_record.specs.Graph.{HasRoots, HasEdges, HasEntries, AreMarksOf, AreReached}

-- a registry was made

called_kind : (k : Option Kind) (c : ℕ) → option_and_then callback_in k ≡ Some c → is_some k ≡ true
called_kind None c e = cc
called_kind (Some k) c e = refl

pub called_within : (over : Buffers) (into : Receivers) (h : History) → LegalBy over into h → (r c : ℕ) → callback h r ≡ Some c → (0 < r) × (r ≤ made h)
called_within over into h legal r c e = object_within over into h legal r (called_kind (kind h r) c e)

-- a closed set by the definitions is one of the graph
pub closed_in_graph : (b : AgentView) (m : ℕ → Bool) → IsClosed (receivers b.plan.jobs) b.history (λ i. m i ≡ true) → IsClosedIn (HasRoots b) (HasEdges b) (HasEntries b) m
closed_in_graph b m closed = record {
  has_roots = record { variables = closed.variables; kept = closed.kept; registries = closed.registries; cells = closed.cells };
  follows = λ o here there k v i e is. closed.properties o k v i here e is;
  enters = λ k here m v i there map e is. closed.entries m k v i map here e is;
}

pub marked_reached : (b : AgentView) (marks : List Bool) → AreMarksOf b marks → (i : ℕ) → is_marked marks i ≡ true → IsReached (receivers b.plan.jobs) b.history i
marked_reached b marks least i e m closed = least.least m (closed_in_graph b m closed) i e

-- what is there is a closed set of the graph

-- what is there is not emptied

pub both_of : (a g : Bool) → (a && not g) ≡ true → (a ≡ true) × (g ≡ false)
both_of true false e = (refl, refl)
both_of true true e = cc
both_of false g e = cc

pub here_of : (h : History) (o : ℕ) → is_there h o ≡ true → is_gone h o ≡ false
here_of h o there = (both_of (nat_lt 0 o && nat_le o (made h)) (is_gone h o) there).1

pub is_within : (h : History) (i : ℕ) → (0 < i) × (i ≤ made h) → is_gone h i ≡ false → is_there h i ≡ true
is_within h i within here = there_from h i here within.0 within.1

pub there_closed : (over : Buffers) (b : AgentView) → LegalBy over (receivers b.plan.jobs) b.history → Stays (receivers b.plan.jobs) b.history → IsClosedIn (HasRoots b) (HasEdges b) (HasEntries b) (is_there b.history)
there_closed over b legal stays =
    let into = receivers b.plan.jobs in
    record {
      has_roots = record {
        variables = λ x i e. is_within b.history i (var_within over into b.history legal x i e) (alive_at b.history _ i (stays.held.variables x) e);
        kept = λ i e. is_within b.history i (kept_within over into b.history legal i e) (stays.kept i e);
        registries = λ r c e. is_within b.history r (called_within over into b.history legal r c e) (alive_at b.history (Object r) r (stays.held.registries r c e) refl);
        cells = λ n c i e p is. is_within b.history i (holding_within over into b.history legal n c i e is) (alive_at b.history c.held i (stays.held.cells n c e p) is);
      };
      follows = λ o here there k v i e is.
          is_within b.history i (prop_within over into b.history legal o k v i e is) (alive_at b.history v i (stays.held.properties o k v (here_of b.history o there) e) is);
      enters = λ k here m v i there map e is.
          is_within b.history i (value_within over into b.history legal m k v i e is)
          (alive_at b.history v i (stays.held.entries m k (Object k) v (here_of b.history m there) (here_of b.history k here) refl e) is);
    }

-- so the marks are a closed set by the definitions
marks_closed : (over : Buffers) (b : AgentView) (marks : List Bool) → LegalBy over (receivers b.plan.jobs) b.history → Stays (receivers b.plan.jobs) b.history → AreMarksOf b marks
    → IsClosed (receivers b.plan.jobs) b.history (λ i. is_marked marks i ≡ true)
marks_closed over b marks legal stays least = record {
  variables = least.closed.has_roots.variables;
  kept = least.closed.has_roots.kept;
  registries = least.closed.has_roots.registries;
  cells = least.closed.has_roots.cells;
  properties = λ o k v i here e is. least.closed.follows o here (least.least (is_there b.history) (there_closed over b legal stays) o here) k v i e is;
  entries = λ m k v i map key e is. least.closed.enters k key m v i (least.least (is_there b.history) (there_closed over b legal stays) m map) map e is;
}

pub reached_marked : (over : Buffers) (b : AgentView) (marks : List Bool) → LegalBy over (receivers b.plan.jobs) b.history → Stays (receivers b.plan.jobs) b.history → AreMarksOf b marks
    → (i : ℕ) → IsReached (receivers b.plan.jobs) b.history i → is_marked marks i ≡ true
reached_marked over b marks legal stays least i reached = reached (is_marked marks) (marks_closed over b marks legal stays least)

pub marks_reached : (b : AgentView) (marks : List Bool) → IsRun b.plan b.history → AreMarksOf b marks → AreReached b marks
marks_reached b marks run least i = (
  marked_reached b marks least i,
  reached_marked run.0 b marks run.1 (stays_along run.0 b.plan b.history run.1 run.2) least i,
)
