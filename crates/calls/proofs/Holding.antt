-- A stake that has an agent's tickets, after a ticket came or went.
use Rattle.std.proofs.Common.{◌≡◌, ℕ, ◌+◌, Bool, cond, sym, ◌∙◌, ap, arith, List, [], ◌∷◌, ◌++◌, map}
use Rattle.std.specs.List.{count_by}
use Rattle.std.proofs.lemmas.List.Sums.{sum_by_push}
use Rattle.es_event.specs.declared.event.Event.TheVariants.{Closed}
use Rattle.es_event.specs.declared.row.Row.{Row}
use Rattle.es_ticket.specs.Stakes.{StakeView}
use Rattle.es_ledger.specs.Letters.{Gained}
use Rattle.es_record.specs.AgentView.{AgentView, Records}
use Rattle.es_agent.specs.Tickets.{tickets}
use Rattle.es_cluster.specs.Members.{rows_of, Holds, HoldsBeside}
use Rattle.es_cluster.proofs.CountingTickets.{counted_rows}

-- a block was opened
pub opened_beside : (b : AgentView) (s t : StakeView) (r : Row) → Holds b s → t.agent ≡ s.agent → t.rows ≡ s.rows ++ r ∷ [] → HoldsBeside r b t
opened_beside b s t r holds agent rows = (
  agent ∙ holds.0,
  λ p. (let a = ap (count_by p) rows in
      let d : count_by p (s.rows ++ r ∷ []) ≡ count_by p s.rows + cond {A = ℕ} (p r) 1 0 = sum_by_push {X = Row} (λ r. cond {A = ℕ} (p r) 1 0) s.rows r in
      let e = holds.1 p in
      omega (arith, a, d, e)),
)

-- a ticket came in a message
pub came_beside : (b : AgentView) (s t : StakeView) (r : Row) → Holds b s → Gained r s t → HoldsBeside r b t
came_beside b s t r holds gained = (
  gained.agent ∙ holds.0,
  λ p. (let a = gained.counts p in let e = holds.1 p in omega (arith, a, e)),
)

-- a ticket beside its own was spent
pub spent_holds : (old new : AgentView) (s t : StakeView) (r q : Row) → new.number ≡ old.number → tickets new ≡ tickets old → HoldsBeside r old s → q ≡ r → t.agent ≡ s.agent
    → ((p : Row → Bool) → count_by p s.rows ≡ count_by p t.rows + cond {A = ℕ} (p q) 1 0) → Holds new t
spent_holds old new s t r q number same holds ticket agent counts = (
  agent ∙ holds.0 ∙ sym number,
  λ p. (let a = holds.1 p in
      let b = counts p in
      let c = ap (λ q. cond {A = ℕ} (p q) 1 0) ticket in
      let d = ap (λ ts. count_by p (map (λ t. t.1) ts)) same in
      omega (arith, a, b, c, d)),
)

-- it closed, and all its tickets were spent
pub closed_holds : (old new : AgentView) (s t : StakeView) (out : List (ℕ × Row)) → Records old Closed new → out ≡ tickets old → Holds old s → t.agent ≡ s.agent
    → ((p : Row → Bool) → count_by p s.rows ≡ count_by p t.rows + count_by (λ t. p t.1) out) → Holds new t
closed_holds old new s t out records is holds agent counts = (
  agent ∙ holds.0 ∙ sym (ap (λ b. b.number) records),
  λ p. ap (λ b. count_by p (rows_of b)) records ∙ (let a = holds.1 p in
      let b = counts p in
      let c = counted_rows p (tickets old) in
      let d = ap (λ ts. count_by (λ t. p t.1) ts) is in
      omega (arith, a, b, c, d)),
)
