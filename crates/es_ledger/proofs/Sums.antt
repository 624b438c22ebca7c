-- How many tickets of a block there are is the sum over the agents and the ports.
use Rattle.std.proofs.Common.{◌≡◌, ℕ, zero, suc, ◌+◌, ◌<◌, ◌≤◌, ◌==◌, ◌&&◌, List, [], ◌∷◌, Bool, true, false, refl, ap, ◌∙◌, arith, ne_eqb}
use Rattle.std.proofs.lemmas.Bool.{eqb-true, eqb-false}
use Rattle.es_event.specs.declared.row.Entry.{Entry}
use Rattle.es_event.specs.declared.row.Row.{Row}
use Rattle.es_event.specs.declared.row.Holder.{Holder}
use Rattle.es_event.specs.declared.row.Holder.TheVariants.{Agent, Port, Nobody}
use Rattle.es_event.specs.Rows.{is_agent, is_port, is_somebody, count_of, held, in_port}
use Rattle.es_event.specs.Ledger.{Ledger, table, count}
use Rattle.es_event.specs.LegalLedger.{LegalSoFar}
use Rattle.es_ledger.specs.Laws.{sum_below}
use Rattle.es_ledger.proofs.Tallies.{tally_such, weight_such, if_passed, tally_such_more, of_block}
use Rattle.es_ledger.proofs.Within.{IsWithin, AllWithin, within_all}

-- Sums over numbers

pub sum_zero : (n : ℕ) (f : ℕ → ℕ) → ((k : ℕ) → k < n → f k ≡ 0) → sum_below n f ≡ 0
sum_zero zero f each = refl
sum_zero (suc n) f each = omega (arith, each n (omega arith), sum_zero n f (λ k less. each k (omega arith)))

pub sum_none : (n : ℕ) → sum_below n (λ k. 0) ≡ 0
sum_none n = sum_zero n (λ k. 0) (λ k less. refl)

-- the first is added last
pub sum_first : (n : ℕ) (f : ℕ → ℕ) → sum_below (suc n) f ≡ f 0 + sum_below n (λ k. f (suc k))
sum_first zero f = refl
sum_first (suc n) f = omega (arith, sum_first n f)

-- fewer numbers have no more
pub sum_part : (n m : ℕ) (f : ℕ → ℕ) → m ≤ n → sum_below m f ≤ sum_below n f
sum_part zero zero f less = omega arith
sum_part zero (suc m) f less = absurd (omega (arith, less))
sum_part (suc n) m f less = step (m == suc n) refl (λ fewer. sum_part n m f fewer)
  where
    step : (p : Bool) → (m == suc n) ≡ p → (m ≤ n → sum_below m f ≤ sum_below n f) → sum_below m f ≤ sum_below (suc n) f
    step true same rest = (let here = ap (λ k. sum_below k f) (eqb-true m (suc n) same) in omega (arith, here))
    step false other rest = (let apart = eqb-false m (suc n) other in let fewer = rest (omega (arith, less, apart)) in omega (arith, fewer))

no_ports : (n : ℕ) → sum_below n (λ s. sum_below n (λ r. 0)) ≡ 0
no_ports n = sum_zero n (λ s. sum_below n (λ r. 0)) (λ s less. sum_none n)

pub sum_same : (n : ℕ) (f g : ℕ → ℕ) → ((k : ℕ) → f k ≡ g k) → sum_below n f ≡ sum_below n g
sum_same zero f g same = refl
sum_same (suc n) f g same = omega (arith, same n, sum_same n f g same)

pub sum_plus : (n : ℕ) (f g h : ℕ → ℕ) → ((k : ℕ) → f k ≡ g k + h k) → sum_below n f ≡ sum_below n g + sum_below n h
sum_plus zero f g h same = refl
sum_plus (suc n) f g h same = omega (arith, same n, sum_plus n f g h same)

unlike : (k j w : ℕ) → (k ≡ j → ⊥) → if_passed (k == j) w ≡ 0
unlike k j w other = ap (λ p. if_passed p w) (ne_eqb k j other)

pub sum_one : (n j w : ℕ) → j < n → sum_below n (λ k. if_passed (k == j) w) ≡ w
sum_one zero j w less = absurd (omega arith)
sum_one (suc n) j w less = step (n == j) refl (sum_one n j w)
  where
    step : (p : Bool) → (n == j) ≡ p → (j < n → sum_below n (λ k. if_passed (k == j) w) ≡ w) → if_passed p w + sum_below n (λ k. if_passed (k == j) w) ≡ w
    step true is ih = omega (arith, sum_zero n (λ k. if_passed (k == j) w) (λ k below. unlike k j w (λ same. let last = eqb-true n j is in omega arith)))
    step false is ih = let other = eqb-false n j is in omega (arith, ih (omega arith))

-- One line is counted once

sum_port : (n t u w : ℕ) → t < n → u < n → sum_below n (λ s. sum_below n (λ r. if_passed ((s == t) && (r == u)) w)) ≡ w
sum_port n t u w sender receiver = sum_same n _ (λ s. if_passed (s == t) w) (λ s. step (s == t)) ∙ sum_one n t w sender
  where
    step : (p : Bool) → sum_below n (λ r. if_passed (p && (r == u)) w) ≡ if_passed p w
    step true = sum_one n u w receiver
    step false = sum_none n

counted_once : (n w : ℕ) (h : Holder) → IsWithin n h
    → if_passed (is_somebody h) w ≡ sum_below n (λ a. if_passed (is_agent a h) w) + sum_below n (λ s. sum_below n (λ r. if_passed (is_port s r h) w))
counted_once n w (Agent a) within = omega (arith, sum_one n a w within, no_ports n)
counted_once n w (Port t u) within = omega (arith, sum_port n t u w within.0 within.1, sum_none n)
counted_once n w Nobody within = omega (arith, sum_none n, no_ports n)

pub sums_add_up : (n : ℕ) (such : Row → Bool) (t : List Entry) → AllWithin n t
    → tally_such such is_somebody t ≡ sum_below n (λ a. tally_such such (is_agent a) t) + sum_below n (λ s. sum_below n (λ r. tally_such such (is_port s r) t))
sums_add_up n such [] within = omega (arith, sum_none n, no_ports n)
sums_add_up n such (e ∷ t) within =
    let once = counted_once n (weight_such such e) e.holder within.0 in
    let agents = sum_plus n (λ a. tally_such such (is_agent a) (e ∷ t)) (λ a. if_passed (is_agent a e.holder) (weight_such such e)) (λ a. tally_such such (is_agent a) t) (λ a. tally_such_more such (is_agent a) e t) in
    let ports =
    sum_plus n (λ s. sum_below n (λ r. tally_such such (is_port s r) (e ∷ t))) (λ s. sum_below n (λ r. if_passed (is_port s r e.holder) (weight_such such e))) (λ s. sum_below n (λ r. tally_such such (is_port s r) t))
    (λ s. sum_plus n (λ r. tally_such such (is_port s r) (e ∷ t)) (λ r. if_passed (is_port s r e.holder) (weight_such such e)) (λ r. tally_such such (is_port s r) t) (λ r. tally_such_more such (is_port s r) e t)) in
    omega (arith, once, agents, ports, tally_such_more such is_somebody e t, sums_add_up n such t within.1)

pub counts_add_up : (n : ℕ) (l : Ledger) (b : ℕ) → LegalSoFar n l
    → count l b ≡ sum_below n (λ a. count_of (held a (table l)) b) + sum_below n (λ s. sum_below n (λ r. count_of (in_port s r (table l)) b))
counts_add_up n l b legal = sums_add_up n (of_block b) (table l) (within_all n l legal)
