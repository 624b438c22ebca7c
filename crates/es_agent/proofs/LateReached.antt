-- The marks by which a later collection is finished have exactly what is reached in the copy, with what derefs gave since.
use Rattle.std.proofs.Common.{◌≡◌, ℕ, ◌<◌, ◌≤◌, ◌&&◌, not, Bool, true, nat_lt, nat_le, sym, ◌∙◌, ap, arith, List, [], Some, inl, inr}
use Rattle.std.specs.List.{filter, range_with_len}
use Rattle.std.proofs.lemmas.Bool.{cases_Bool, false≢true, and_parts, and_from, or_cases, or_left, or_right, ltb-true, leb-true}
use Rattle.es_event.specs.History.{History}
use Rattle.es_event.specs.Identities.{is_in, is_gone, is_made, is_there, made}
use Rattle.es_event.specs.Jobs.{receivers}
use Rattle.es_event.specs.Late.{IsReachedWith}
use Rattle.es_event.specs.Later.{snapshot, derefed_since}
use Rattle.es_event.specs.Legal.{LegalBy}
use Rattle.es_event.specs.Reach.{IsClosed, IsClosedBeside, with_later}
use Rattle.es_event.specs.Runs.{IsRun}
use Rattle.es_event.specs.Sharing.{Buffers}
use Rattle.es_event.proofs.Rising.{in_filter, in_numbers}
use Rattle.es_event.proofs.Safe.{there_from}
use Rattle.es_event.proofs.Staying.{stays_closed}
use Rattle.es_mark.specs.Marks.{is_marked, IsLeast}
use Rattle.es_record.specs.AgentView.{AgentView}
use Rattle.es_record.specs.Graph.{HasRoots, HasEdges, HasEntries, HasDerefed, AreLateMarks, as_at}
use Rattle.es_record.proofs.Late.{derefed_here, earlier, Earlier}
use Rattle.es_record.proofs.Reached.{closed_in_graph, there_closed}
use Rattle.es_agent.specs.Later.{AreLateReached}

module _ (over : Buffers) (b : AgentView) (p : History) (marks : List Bool) (is : snapshot b.history ≡ Some p) (legal : LegalBy over (receivers b.plan.jobs) b.history)
    (legal_p : LegalBy over (receivers b.plan.jobs) p) (early : Earlier (receivers b.plan.jobs) b.history p)
    (least : IsLeast (λ t. HasRoots (as_at b p) t × HasDerefed b p t) (HasEdges (as_at b p)) (HasEntries (as_at b p)) marks) where
  -- what derefs gave was there then, so all that is marked was
  derefed_there : HasDerefed b p (is_there p)
  derefed_there i given here =
      let parts = and_parts (nat_lt 0 i) (nat_le i (made p)) here in
      there_from p i (sym (ap (λ g. is_in g i) early.still) ∙ derefed_here over (receivers b.plan.jobs) b.history p is legal i given) (ltb-true 0 i parts.0) (leb-true i (made p) parts.1)

  marked_there : (i : ℕ) → is_marked marks i ≡ true → is_there p i ≡ true
  marked_there =
      let all = there_closed over (as_at b p) legal_p early.stays in
      least.least (is_there p) (record { has_roots = (all.has_roots, derefed_there); follows = all.follows; enters = all.enters })

  marks_closed : IsClosed (receivers b.plan.jobs) p (λ i. is_marked marks i ≡ true)
  marks_closed = record {
    variables = least.closed.has_roots.0.variables;
    kept = least.closed.has_roots.0.kept;
    registries = least.closed.has_roots.0.registries;
    cells = least.closed.has_roots.0.cells;
    properties = λ o k v i here e is. least.closed.follows o here (marked_there o here) k v i e is;
    entries = λ m k v i map key e is. least.closed.enters k key m v i (marked_there m map) map e is;
  }

  pub marked_reached : (i : ℕ) → is_marked marks i ≡ true → IsReachedWith (receivers b.plan.jobs) p (derefed_since b.history) i
  marked_reached i e m closed has =
      let all = closed_in_graph (as_at b p) m closed in
      least.least m (record { has_roots = (all.has_roots, λ j given here. has j given); follows = all.follows; enters = all.enters }) i e

  -- what is there and not marked
  is_unmarked : ℕ → Bool
  is_unmarked i = is_there p i && not (is_marked marks i)

  unmarked : List ℕ
  unmarked = filter is_unmarked (range_with_len 1 (made p))

  beside : IsClosedBeside unmarked (receivers b.plan.jobs) p (is_marked marks)
  unfolding unmarked is_unmarked
  beside = record {
    closed = marks_closed;
    others = λ i there out. elim (cases_Bool (is_marked marks i)) [
      | inl e ↦ e
      | inr e ↦
          let bounds = and_parts (nat_lt 0 i) (nat_le i (made p)) (and_parts (is_made p i) (not (is_gone p i)) there).0 in
          let positive : 0 < i = ltb-true 0 i bounds.0 in
          let within : i ≤ made p = leb-true i (made p) bounds.1 in
          let here : is_in (filter (λ i. is_there p i && not (is_marked marks i)) (range_with_len 1 (made p))) i ≡ true =
          in_filter (λ i. is_there p i && not (is_marked marks i)) (range_with_len 1 (made p)) i
          ∙ and_from (is_there p i && not (is_marked marks i)) (is_in (range_with_len 1 (made p)) i) (and_from (is_there p i) (not (is_marked marks i)) there (ap not e)) (in_numbers 1 (made p) i (omega arith) (omega arith)) in
          absurd (false≢true (sym out ∙ here))
    ];
  }

  -- what is reached is marked, if it was made then
  pub reached_marked : (i : ℕ) → is_made p i ≡ true → IsReachedWith (receivers b.plan.jobs) p (derefed_since b.history) i → is_marked marks i ≡ true
  reached_marked i here r =
      let closed = stays_closed over (receivers b.plan.jobs) p unmarked (is_marked marks) beside [] legal_p in
      let has : with_later p (is_marked marks) i ≡ true = r (with_later p (is_marked marks)) closed (λ j given. elim (cases_Bool (is_made p j)) [
        | inl e ↦ or_left (is_marked marks j) (not (is_made p j)) (least.closed.has_roots.1 j given e)
        | inr e ↦ or_right (is_marked marks j) (not (is_made p j)) (ap not e)
      ]) in
      elim (or_cases (is_marked marks i) (not (is_made p i)) has) [
        | inl e ↦ e
        | inr e ↦ absurd (false≢true (sym (ap not here) ∙ e))
      ]

pub late_marks_reached : (b : AgentView) (marks : List Bool) → IsRun b.plan b.history → AreLateMarks b marks → AreLateReached b marks
late_marks_reached b marks run late p is i here =
    let before = earlier run.0 b.plan b.history p is run.1 run.2 in (
      marked_reached run.0 b p marks is run.1 before.0 before.1 (late p is) i,
      reached_marked run.0 b p marks is run.1 before.0 before.1 (late p is) i here,
    )
