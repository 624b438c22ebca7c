-- A history that is gone through from its oldest event on: where it begins, what is legal of it, and that two that race still do at its end.
use Rattle.std.proofs.Common.{◌≡◌, ℕ, zero, suc, ◌+◌, ◌<◌, ◌^◌, nat_eq, true, false, sym, ◌∙◌, ap, refl, subst, arith, [], ◌∷◌, ◌++◌, map, length, length-take, take, drop, replicate, get_or, reverse, Some, None}
use Rattle.std.specs.Prelude.{nat_lt}
use Rattle.std.specs.Option.{option_map_or}
use Rattle.std.specs.Map.{lookup}
use Rattle.std.proofs.lemmas.List.{length-reverse, reverse-append, take-append-drop, take_more}
use Rattle.std.proofs.lemmas.Bool.Decides.{nat_tests}
use Rattle.es_event.specs.declared.ledger_event.LedgerEvent.{LedgerEvent}
use Rattle.es_event.specs.Ledger.{Ledger}
use Rattle.es_event.specs.LegalLedger.{LegalSoFar}
use Rattle.es_laws.specs.Memory.{accessed}
use Rattle.es_laws.specs.Races.{Mark, marked, marked_after}
use Rattle.es_races.specs.declared.clock.Clock.{Clock}
use Rattle.es_races.specs.declared.pass.Pass.{Pass}
use Rattle.es_races.specs.Pass.{Carry, Finds, Says, Stands, count_in, known_in, newest_in, pair_eq}
use Rattle.es_races.specs.declared.race.Race.{Race}
use Rattle.es_races.specs.Verdict.{race_at, said}
use Rattle.es_races.proofs.Racing.{race_stays}

-- The beginning

pub eight : (n : ℕ) (k : Clock) → ((j : ℕ) → count_in k j ≡ 0) → (a j : ℕ) → known_in (replicate n k) a j ≡ 0
eight zero k none a j = refl
eight (suc n) k none zero j = none j
eight (suc n) k none (suc a) j = eight n k none a j

pub nothing_says : (p : Pass) → p.tickets.entries ≡ [] → p.ports.entries ≡ [] → p.words.entries ≡ [] → ((a j : ℕ) → known_in p.known a j ≡ 0) → Says [] p
nothing_says p tickets ports words known = record {
  tickets = λ s. ap (lookup (nat_eq s)) tickets;
  ports = λ s r. subst (λ ms. Carry ms [] []) (sym (ap (λ es. option_map_or (λ q. q.items) (lookup (pair_eq (s, r)) es) []) ports)) Carry.none;
  sound = record {
    newest = λ v b i j few. ap (λ es. option_map_or (λ w. count_in (newest_in w v) j) (lookup (pair_eq (b, i)) es) 0) words;
    agents = λ a few j n small. sym (below n (known_in p.known a j) (known a j));
    own = λ a few. known a a;
    none = refl;
  };
}
  where
    below : (n k : ℕ) → k ≡ 0 → nat_lt n k ≡ false
    below n k is = grind (arith, nat_tests)

-- One event more

reversed_more : (xs : Ledger) (i : ℕ) (x : LedgerEvent) → i < length xs → x ≡ get_or xs i x → reverse (take (i + 1) xs) ≡ x ∷ reverse (take i xs)
reversed_more xs i x within is = ap reverse (take_more xs i x within) ∙ reverse-append (take i xs) (get_or xs i x ∷ []) ∙ ap (λ y. y ∷ reverse (take i xs)) (sym is)

split : (xs : Ledger) (i : ℕ) → reverse xs ≡ reverse (drop i xs) ++ reverse (take i xs)
split xs i = ap reverse (sym (take-append-drop i xs)) ∙ reverse-append (take i xs) (drop i xs)

legal_before : (n : ℕ) (later l : Ledger) → LegalSoFar n (later ++ l) → LegalSoFar n l
legal_before n [] l legal = legal
legal_before n (e ∷ later) l legal = legal_before n later l legal.1

legal_at : (n : ℕ) (xs : Ledger) (i : ℕ) (x : LedgerEvent) → i < length xs → x ≡ get_or xs i x → LegalSoFar n (reverse xs) → LegalSoFar n (x ∷ reverse (take i xs))
legal_at n xs i x within is legal =
    subst (LegalSoFar n) (reversed_more xs i x within is) (legal_before n (reverse (drop (i + 1) xs)) (reverse (take (i + 1) xs)) (subst (LegalSoFar n) (split xs (i + 1)) legal))

-- The end

race_later : (m n : Mark) (later l : Ledger) → race_at l m n ≡ true → race_at (later ++ l) m n ≡ true
race_later m n [] l is = is
race_later m n (e ∷ later) l is =
    race_stays m n (map (marked_after (later ++ l)) (accessed (later ++ l) e)) (marked (later ++ l)) (race_later m n later l is)

race_remains : (m n : Mark) (xs : Ledger) (i : ℕ) (x : LedgerEvent) → i < length xs → x ≡ get_or xs i x → race_at (x ∷ reverse (take i xs)) m n ≡ true → race_at (reverse xs) m n ≡ true
race_remains m n xs i x within is races =
    subst (λ l. race_at l m n ≡ true) (sym (split xs (i + 1)))
    (race_later m n (reverse (drop (i + 1) xs)) (reverse (take (i + 1) xs)) (subst (λ l. race_at l m n ≡ true) (sym (reversed_more xs i x within is)) races))

-- The event at place i

module _ (n : ℕ) (xs : Ledger) (i : ℕ) (x : LedgerEvent) (p q : Pass) (few : n < 9) (legal : LegalSoFar n (reverse xs)) (within : i < length xs) (short : length xs < 2 ^ 63) (is : x ≡ get_or xs i x) (says : Says (reverse (take i xs)) p) where
  stands : Stands x (reverse (take i xs)) p
  stands = record {
    agents = n;
    few = few;
    legal = legal_at n xs i x within is legal;
    short = omega (arith, length-reverse (take i xs), length-take i xs);
    says = says;
  }

  pub goes_on : Finds x p q None → Says (reverse (take (i + 1) xs)) q
  goes_on finds = subst (λ l. Says l q) (sym (reversed_more xs i x within is)) (finds (reverse (take i xs)) stands)

  pub comes_to : (r : Race) → Finds x p q (Some r) → race_at (reverse xs) (said r.earlier) (said r.later) ≡ true
  comes_to r finds = race_remains (said r.earlier) (said r.later) xs i x within is (finds (reverse (take i xs)) stands)
