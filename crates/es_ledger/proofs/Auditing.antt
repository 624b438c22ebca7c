-- All tickets counted, by block and by holder.
use Rattle.std.proofs.Common.{◌≡◌, add-one, ℕ, zero, suc, ◌+◌, ◌-◌, ◌<◌, ◌≤◌, ◌==◌, ◌&&◌, List, [], ◌∷◌, ◌++◌, Bool, true, false, cond, length, refl, sym, ap, ◌∙◌, arith, eq-eqb, ne_eqb, length-append}
use Rattle.std.specs.Prelude.{slice_index_or, sum, count_by, nat_lt, nat_le}
use Rattle.std.specs.List.{range_with_len}
use Rattle.std.proofs.lemmas.Bool.{eqb-true, eqb-false, and_from, le-leb, lt-ltb}
use Rattle.std.proofs.lemmas.List.{get_or_append_left, get_or_push}
use Rattle.std.proofs.lemmas.List.Sums.{sum_by-cons, sum_by_push}
use Rattle.es_event.specs.declared.row.Entry.{Entry}
use Rattle.es_event.specs.Rows.{held, in_port, is_somebody}
use Rattle.es_event.specs.Ledger.{Ledger, opened, table, rows, count, is_opened, is_released}
use Rattle.es_event.specs.LegalLedger.{LegalSoFar}
use Rattle.es_ledger.specs.Audits.{IsAudit, held_below, in_all_ports}
use Rattle.es_ledger.specs.Laws.{sum_below}
use Rattle.es_ledger.proofs.After.{rows_few}
use Rattle.es_ledger.proofs.Made.{Each, IsMade, each_weaker, all_made}
use Rattle.es_ledger.proofs.Opening.{table_length}
use Rattle.es_ledger.proofs.Sums.{sum_first, sum_part, sum_none, sum_same, sum_plus, sum_one, sums_add_up}
use Rattle.es_ledger.proofs.Tallies.{tally, tally_such, weight, if_passed, tally_more, tally_such_more}
use Rattle.es_ledger.proofs.Within.{within_all}

-- By holder

pub all_counted : {X : Type 0} (xs : List X) → count_by (λ x. true) xs ≡ length xs
all_counted [] = refl
all_counted (x ∷ xs) = omega (arith, sum_by-cons (λ y. 1) x xs, all_counted xs)

pub all_held : (n : ℕ) (l : Ledger) → LegalSoFar n l → length (rows l) ≡ held_below n l + in_all_ports n l
all_held n l legal =
    let agents : sum_below n (λ a. count_by (λ r. true) (held a (table l))) ≡ held_below n l = sum_same n _ (λ a. length (held a (table l))) (λ a. all_counted (held a (table l))) in
    let ports : sum_below n (λ s. sum_below n (λ r. count_by (λ x. true) (in_port s r (table l)))) ≡ in_all_ports n l =
    sum_same n _ (λ s. sum_below n (λ r. length (in_port s r (table l)))) (λ s. sum_same n _ (λ r. length (in_port s r (table l))) (λ r. all_counted (in_port s r (table l)))) in
    omega (arith, sums_add_up n (λ r. true) (table l) (within_all n l legal), agents, ports, all_counted (rows l))

pub held_few : (n : ℕ) (l : Ledger) (lines : List Entry) → LegalSoFar n l → lines ≡ table l → held_below n l ≤ length lines
held_few n l lines legal tabled = omega (arith, all_held n l legal, rows_few n l legal, ap (λ t. length t) tabled, table_length n l legal)

-- By block

-- what holds of the same numbers
alike : (a b c d : ℕ) → (a ≡ b → c ≡ d) → (c ≡ d → a ≡ b) → (a == b) ≡ (c == d)
alike a b c d to from = step (a == b) refl
  where
    step : (p : Bool) → (a == b) ≡ p → p ≡ (c == d)
    step true is = sym (eq-eqb c d (to (eqb-true a b is)))
    step false is = sym (ne_eqb c d (λ same. eqb-false a b is (from same)))

-- one ticket is counted once
one_block : (m b : ℕ) → 0 < b → b ≤ m → sum_below m (λ k. cond {A = ℕ} (b == k + 1) 1 0) ≡ 1
one_block m b some within =
    sum_same m (λ k. cond {A = ℕ} (b == k + 1) 1 0) (λ k. if_passed (k == b - 1) 1) (λ k. ap (λ p. if_passed p 1) (alike b (k + 1) k (b - 1) (λ same. omega (arith, same)) (λ same. omega (arith, same, some))))
    ∙ sum_one m (b - 1) 1 (omega (arith, some, within))

blocks_add_up : (m : ℕ) (t : List Entry) → Each (λ r. (0 < r.block) × (r.block ≤ m)) t → sum_below m (λ k. tally is_somebody (k + 1) t) ≡ tally_such (λ r. true) is_somebody t
blocks_add_up m [] each = sum_none m
blocks_add_up m (e ∷ t) each =
    let sums = sum_plus m (λ k. tally is_somebody (k + 1) (e ∷ t)) (λ k. if_passed (is_somebody e.holder) (weight (k + 1) e)) (λ k. tally is_somebody (k + 1) t) (λ k. tally_more is_somebody (k + 1) e t) in
    omega (arith, sums, step (is_somebody e.holder), blocks_add_up m t each.1, tally_such_more (λ r. true) is_somebody e t)
  where
    step : (p : Bool) → sum_below m (λ k. if_passed p (weight (k + 1) e)) ≡ if_passed p 1
    step true = one_block m e.row.block each.0.0 each.0.1
    step false = sum_none m

-- how many tickets the first m blocks have
abbrev pub counted_below : ℕ → Ledger → ℕ
counted_below m l = sum_below m (λ k. count l (k + 1))

pub all_blocks : (n : ℕ) (l : Ledger) → LegalSoFar n l → counted_below (opened l) l ≡ length (rows l)
all_blocks n l legal =
    blocks_add_up (opened l) (table l) (each_weaker (IsMade l) _ (table l) (λ r made. (made.0, made.1)) (all_made n l legal)) ∙ all_counted (rows l)

-- So far

counted_less : (m : ℕ) (l : Ledger) → m ≤ opened l → counted_below m l ≤ counted_below (opened l) l
counted_less m l within = sum_part (opened l) m (λ k. count l (k + 1)) within

-- how many of the first m blocks are released
abbrev pub released_below : ℕ → Ledger → ℕ
released_below m l = sum_below m (λ k. cond {A = ℕ} (is_released l (k + 1)) 1 0)

counted_range : (p : ℕ → Bool) (n a : ℕ) → count_by p (range_with_len a n) ≡ sum_below n (λ k. cond {A = ℕ} (p (k + a)) 1 0)
counted_range p zero a = refl
counted_range p (suc n) a =
    let first = ap (λ b. cond {A = ℕ} (p b) 1 0) (let same : 0 + a ≡ a = omega arith in same) in
    let rest = sum_same n (λ k. cond {A = ℕ} (p (suc k + a)) 1 0) (λ k. cond {A = ℕ} (p (k + (a + 1))) 1 0) (λ k. ap (λ b. cond {A = ℕ} (p b) 1 0) (let same : suc k + a ≡ k + (a + 1) = omega arith in same)) in
    let all = sum_first n (λ k. cond {A = ℕ} (p (k + a)) 1 0) in
    omega (arith, sum_by-cons (λ b. cond {A = ℕ} (p b) 1 0) a (range_with_len (a + 1) n), counted_range p n (a + 1), first, rest, all)

-- the first m blocks were counted
pub record Counted (m : ℕ) (l : Ledger) (counts : List ℕ) (tickets released : ℕ) : Type 0 where
  pub size : length counts ≡ m
  pub each : (k : ℕ) → k < m → slice_index_or counts k 0 ≡ count l (k + 1)
  pub total : sum counts ≡ tickets
  pub below : tickets ≡ counted_below m l
  pub gone : released ≡ released_below m l
  pub fewer : released ≤ m

-- a block that was made is released where it has no ticket
released_at : (l : Ledger) (m : ℕ) → m < opened l → is_released l (m + 1) ≡ (count l (m + 1) == 0)
released_at l m within = step (is_opened l (m + 1)) made
  where
    made : is_opened l (m + 1) ≡ true
    made = and_from (nat_lt 0 (m + 1)) (nat_le (m + 1) (opened l)) (lt-ltb 0 (m + 1) (omega arith)) (le-leb (m + 1) (opened l) (omega (arith, within)))

    step : (p : Bool) → p ≡ true → (p && (count l (m + 1) == 0)) ≡ (count l (m + 1) == 0)
    step true is = refl
    step false is = cc

pub one_more : (m : ℕ) (l : Ledger) (counts : List ℕ) (tickets released c : ℕ) → m < opened l → c ≡ count l (m + 1)
    → Counted m l counts tickets released → Counted (m + 1) l (counts ++ c ∷ []) (tickets + c) (released + cond (c == 0) 1 0)
one_more m l counts tickets released c within is so_far = record {
  size = omega (arith, so_far.size, length-append counts (c ∷ []));
  each = λ k less. at k less (k == m) refl;
  total = omega (arith, so_far.total, sum_by_push (λ x. x) counts c);
  below = (let more : counted_below (m + 1) l ≡ count l (m + 1) + counted_below m l = ap (λ k. counted_below k l) (add-one m) in omega (arith, more, so_far.below, is));
  gone = (let here : cond {A = ℕ} (is_released l (m + 1)) 1 0 ≡ cond (c == 0) 1 0 = ap (λ p. cond {A = ℕ} p 1 0) (released_at l m within ∙ ap (λ d. d == 0) (sym is)) in let more : released_below (m + 1) l ≡ cond {A = ℕ} (is_released l (m + 1)) 1 0 + released_below m l = ap (λ k. released_below k l) (add-one m) in omega (arith, more, here, so_far.gone));
  fewer = (let one : cond {A = ℕ} (c == 0) 1 0 ≤ 1 = at_most (c == 0) in omega (arith, one, so_far.fewer));
}
  where
    at_most : (p : Bool) → cond {A = ℕ} p 1 0 ≤ 1
    at_most true = omega arith
    at_most false = omega arith

    at : (k : ℕ) → k < m + 1 → (p : Bool) → (k == m) ≡ p → slice_index_or (counts ++ c ∷ []) k 0 ≡ count l (k + 1)
    at k less true same = let here = eqb-true k m same in get_or_push counts c 0 k (so_far.size ∙ sym here) ∙ is ∙ ap (λ j. count l (j + 1)) (sym here)
    at k less false other = let apart = eqb-false k m other in let below : k < m = omega (arith, less, apart) in get_or_append_left counts (c ∷ []) 0 k (omega (arith, below, so_far.size)) ∙ so_far.each k below

-- one more is released where the block has no ticket
pub one_gone : (r s c : ℕ) → c ≡ 0 → s ≡ r + 1 → s ≡ r + cond {A = ℕ} (c == 0) 1 0
one_gone r s c none is = is ∙ ap (λ p. r + cond {A = ℕ} p 1 0) (sym (eq-eqb c 0 none))

pub none_gone : (r s c : ℕ) → (c ≡ 0 → ⊥) → s ≡ r → s ≡ r + cond {A = ℕ} (c == 0) 1 0
none_gone r s c some is = (let here = ap (λ p. cond {A = ℕ} p 1 0) (ne_eqb c 0 some) in omega (arith, here, is))

-- the same, where the counts and the number of released blocks are given otherwise
pub one_more_is : (m : ℕ) (l : Ledger) (counts after : List ℕ) (tickets released gone c : ℕ) → m < opened l → c ≡ count l (m + 1) → after ≡ counts ++ c ∷ [] → gone ≡ released + cond (c == 0) 1 0
    → Counted m l counts tickets released → Counted (m + 1) l after (tickets + c) gone
one_more_is m l counts after tickets released gone c within is all fate so_far =
    rw all (rw fate (one_more m l counts tickets released c within is so_far))

-- every sum so far is small
pub counted_few : (n m : ℕ) (l : Ledger) (lines : List Entry) → LegalSoFar n l → lines ≡ table l → m ≤ opened l → counted_below m l ≤ length lines
counted_few n m l lines legal tabled within = omega (arith, counted_less m l within, all_blocks n l legal, rows_few n l legal, ap (λ t. length t) tabled, table_length n l legal)

pub audited : (n : ℕ) (l : Ledger) (made : ℕ) (counts said : List ℕ) (tickets released agents : ℕ)
    → LegalSoFar n l → made ≡ opened l → said ≡ counts → Counted made l counts tickets released → agents ≡ held_below n l
    → (agents ≤ tickets) × IsAudit n l (record { blocks = made; released = released; counts = said; in_agents = agents; in_ports = tickets - agents })
audited n l made counts said tickets released agents legal all same counted is =
    let held = all_held n l legal in
    let sums = all_blocks n l legal in
    let below = counted.below ∙ ap (λ m. counted_below m l) all in (
      (omega (arith, held, sums, is, below)),
      (record {
        blocks = all;
        released = counted.gone ∙ ap (λ m. released_below m l) all ∙ sym (counted_range (is_released l) (opened l) 1);
        size = ap (λ xs. length xs) same ∙ counted.size ∙ all;
        counts = λ k less. ap (λ xs. slice_index_or xs k 0) same ∙ counted.each k (omega (arith, less, all));
        in_agents = is;
        in_ports = omega (arith, held, sums, is, below);
        together = (let sum_is = ap (λ xs. sum xs) same in omega (arith, sum_is, held, sums, is, below, counted.total));
      }),
    )
