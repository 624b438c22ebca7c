-- All agents' tickets, counted together.
use Rattle.std.proofs.Common.{◌==◌, add-one, subst, ◌^◌, ◌≡◌, ℕ, suc, ◌+◌, ◌<◌, List, [], ◌∷◌, Some, true, length, map, refl, ap, ◌∙◌, arith}
use Rattle.std.specs.Prelude.{slice_get, slice_index_or}
use Rattle.std.specs.List.{sum_by}
use Rattle.std.proofs.lemmas.List.Sums.{sum_by-cons}
use Rattle.es_event.specs.Ledger.{Ledger, table}
use Rattle.es_event.specs.LegalLedger.{LegalLedger}
use Rattle.es_event.specs.declared.row.Row.{Row}
use Rattle.es_event.specs.Rows.{count_of, held}
use Rattle.es_ledger.specs.Audits.{IsAudit, held_below}
use Rattle.es_ledger.specs.LedgerView.{LedgerView}
use Rattle.es_ledger.specs.Laws.{sum_below}
use Rattle.es_ledger.specs.declared.audit.Audit.{Audit}
use Rattle.es_ledger.proofs.Auditing.{all_counted}
use Rattle.es_ledger.proofs.Sums.{counts_add_up, sum_first, sum_part}
use Rattle.es_record.specs.AgentView.{AgentView}
use Rattle.es_agent.specs.Tickets.{tickets}
use Rattle.es_cluster.specs.Audits.{Audits, racked, ported}
use Rattle.es_cluster.specs.Members.{rows_of, SameRows}

-- a sum over a list, by places
sum_list : {A : Type 0} (xs : List A) (g : A → ℕ) (f : ℕ → ℕ) → ((i : ℕ) (x : A) → slice_get xs i ≡ Some x → g x ≡ f i) → sum_by g xs ≡ sum_below (length xs) f
sum_list [] g f each = refl
sum_list (x ∷ xs) g f each =
    omega (arith, sum_by-cons g x xs, each 0 x refl, sum_list xs g (λ k. f (suc k)) (λ i y at. each (suc i) y at), sum_first (length xs) f)

counted_map : {A B : Type 0} (f : A → B) (xs : List A) → length (map f xs) ≡ length xs
counted_map f [] = refl
counted_map f (x ∷ xs) = ap suc (counted_map f xs)

-- where two lists have the same rows, they are as long
pub same_length : (b : AgentView) (l : Ledger) (n : ℕ) → SameRows (rows_of b) (held n (table l)) → length (tickets b) ≡ length (held n (table l))
same_length b l n same = omega (arith, counted_map (λ t. t.1) (tickets b), all_counted (rows_of b), all_counted (held n (table l)), same (λ r. true))

-- one agent more was counted; there are few tickets
pub counted : (b : AgentView) (mine : List Row) (l : Ledger) (agents before count : ℕ) → b.number < agents → SameRows (rows_of b) mine → mine ≡ held b.number (table l)
    → before ≡ held_below b.number l → count ≡ length (tickets b) → held_below agents l < 2 ^ 63
    → (before + count ≡ held_below (b.number + 1) l) × (before + count < 2 ^ 63)
counted b mine l agents before count known same is so_far here few =
    let long = same_length b l b.number (subst (λ rs. SameRows (rows_of b) rs) is same) in
    let more : held_below (b.number + 1) l ≡ length (held b.number (table l)) + held_below b.number l = ap (λ k. held_below k l) (add-one b.number) in
    let part = sum_part agents (b.number + 1) (λ a. length (held a (table l))) (omega (arith, known)) in
    (omega (arith, more, so_far, here, long), omega (arith, more, so_far, here, long, part, few))

-- an audit of the ledger is one of agents that hold what it says
pub audits : (bs : List AgentView) (l : LedgerView) (a : Audit) → length bs ≡ l.agents → LegalLedger l.agents l.history
    → ((n : ℕ) (b : AgentView) → slice_get bs n ≡ Some b → SameRows (rows_of b) (held n (table l.history)))
    → IsAudit l.agents l.history a → Audits bs l a
audits bs l a size legal same is = record {
  ledger = is;
  in_agents = is.in_agents ∙ ap (λ n. sum_below n (λ k. length (held k (table l.history)))) (let s : l.agents ≡ length bs = omega (arith, size) in s) ∙ let all = sum_list bs (λ b. length (tickets b)) (λ k. length (held k (table l.history))) (λ n b at. same_length b l.history n (same n b at)) in omega (arith, all);
  counts = λ k less. of_block k less;
}
  where
    of_block : (k : ℕ) → k < a.blocks → slice_index_or a.counts k 0 ≡ racked bs (k + 1) + ported l.agents l.history (k + 1)
    of_block k less =
        let here : sum_below (length bs) (λ n. count_of (held n (table l.history)) (k + 1)) ≡ sum_below l.agents (λ n. count_of (held n (table l.history)) (k + 1)) = ap (λ n. sum_below n (λ j. count_of (held j (table l.history)) (k + 1))) size in
        let racks = sum_list bs (λ b. count_of (rows_of b) (k + 1)) (λ n. count_of (held n (table l.history)) (k + 1)) (λ n b at. same n b at (λ r. r.block == (k + 1))) in
        omega (arith, is.counts k (omega (arith, less, is.blocks)), counts_add_up l.agents l.history (k + 1) legal.0, racks, here)
