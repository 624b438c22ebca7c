-- How many events of a kind there may be, and that each block was released where no ticket of any is left.
use Rattle.std.proofs.Common.{◌≡◌, ℕ, zero, suc, ◌+◌, ◌<◌, ◌≤◌, ◌^◌, ◌==◌, Bool, true, cond, ap, sym, ◌∙◌, refl, arith, List, [], ◌∷◌, Option, Some, None, length, take, reverse, length-take}
use Rattle.std.proofs.lemmas.List.{length-reverse}
use Rattle.std.specs.List.{count_by, range_with_len}
use Rattle.std.proofs.lemmas.Bool.Decides.{nat_tests}
use Rattle.std.specs.Option.{option_map_or}
use Rattle.std.proofs.lemmas.List.Sums.{count_by-le-length, sum_by-cons}
use Rattle.es_event.specs.declared.ledger_event.LedgerEvent.{LedgerEvent}
use Rattle.es_event.specs.Ledger.{Ledger, count, opened, opens, is_opened, is_released}
use Rattle.es_event.specs.Totals.{released, is_posted, is_taken, is_drained}
use Rattle.es_event.specs.declared.outcome.Outcome.{Outcome}
use Rattle.es_registry.specs.declared.slot.Tally.{Tally}
use Rattle.es_report.specs.Counts.{IsCountsOf}
use Rattle.es_report.specs.Tallies.{AreTallies}
use Rattle.es_report.specs.declared.totals.Totals.{Totals}
use Rattle.es_report.specs.LedgerTotals.{told, IsBelow}

-- those are all that there are, as each passes
all_counted : (p : ℕ → Bool) (n a : ℕ) → ((b : ℕ) → a ≤ b → b < a + n → p b ≡ true) → count_by p (range_with_len a n) ≡ n
all_counted p zero a all = refl
all_counted p (suc n) a all =
    let rest = all_counted p n (a + 1) (λ b from to. all b (omega (arith, from)) (omega (arith, to))) in
    let first = ap (λ b. cond {A = ℕ} b 1 0) (all a (omega arith) (omega arith)) in
    let more = sum_by-cons (λ b. cond {A = ℕ} (p b) 1 0) a (range_with_len (a + 1) n) in
    omega (arith, rest, first, more)

pub all_released : (l : Ledger) → ((b : ℕ) → count l b ≡ 0) → released l ≡ opened l
all_released l none = all_counted (is_released l) (opened l) 1 (λ b from to. each b from to)
  where
    each : (b : ℕ) → 1 ≤ b → b < 1 + opened l → is_released l b ≡ true
    each b from to =
        let made : is_opened l b ≡ true = grind (arith, nat_tests) in
        let zero_left : (count l b == 0) ≡ true = ap (λ n. n == 0) (none b) in
        rw (made, zero_left) refl

at_most_one : (o : Option (ℕ × ℕ)) → option_map_or (λ p. 1) o 0 ≤ 1
at_most_one None = omega arith
at_most_one (Some p) = omega arith

few_opened : (l : Ledger) → opened l ≤ length l
few_opened [] = omega arith
few_opened (e ∷ l) =
    let one : option_map_or (λ p. 1) (opens e) 0 ≤ 1 = at_most_one (opens e) in
    let rest : opened l ≤ length l = few_opened l in
    omega (arith, one, rest)

pub few_told : (es : List LedgerEvent) (i : ℕ) (t : Totals) → i < 2 ^ 63 → t ≡ told (reverse (take i es)) → IsBelow (2 ^ 63) t
few_told es i t small is =
    let l : Ledger = reverse (take i es) in
    let size : length l ≤ i = omega (arith, length-reverse (take i es), length-take i es) in
    let a : t.opened ≡ opened l = ap (λ t. t.opened) is in
    let b : t.posted ≡ count_by is_posted l = ap (λ t. t.posted) is in
    let c : t.taken ≡ count_by is_taken l = ap (λ t. t.taken) is in
    let d : t.drained ≡ count_by is_drained l = ap (λ t. t.drained) is in
    record {
      of_opened = omega (arith, a, size, few_opened l);
      of_posted = omega (arith, b, size, count_by-le-length is_posted l);
      of_taken = omega (arith, c, size, count_by-le-length is_taken l);
      of_drained = omega (arith, d, size, count_by-le-length is_drained l);
    }

pub ended_counts : (o : Outcome) (ts : List Tally) (t : Totals) → AreTallies o.histories ts → ((b : ℕ) → count (reverse o.ledger) b ≡ 0) → t ≡ told (reverse o.ledger)
    → IsCountsOf o (record { tallies = ts; opened = t.opened; released = t.opened; posted = t.posted; taken = t.taken; drained = t.drained })
ended_counts o ts t are none is =
    let all : t.opened ≡ released (reverse o.ledger) = ap (λ t. t.opened) is ∙ sym (all_released (reverse o.ledger) none) in
    (λ i. record { tallies = are i; opened = (is i).opened; released = all i; posted = (is i).posted; taken = (is i).taken; drained = (is i).drained })
