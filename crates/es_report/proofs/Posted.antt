-- What one more event leaves of what is counted of a port.
use Rattle.std.proofs.Common.{◌≡◌, ℕ, zero, suc, ◌+◌, ◌≤◌, ◌==◌, ◌&&◌, Bool, true, false, cond, sym, ◌∙◌, ap, refl, arith, List, [], ◌∷◌, ◌++◌, length, drop, Option, Some, length-append, append-nil}
use Rattle.std.specs.Prelude.{slice_get, nat_lt}
use Rattle.std.specs.Option.{option_and_then}
use Rattle.std.proofs.lemmas.Bool.Decides.{nat_tests}
use Rattle.es_event.specs.declared.ledger_event.Body.{Body}
use Rattle.es_event.specs.declared.ledger_event.LedgerEvent.{LedgerEvent}
use Rattle.es_event.specs.declared.ledger_event.LedgerEvent.TheVariants.{Posted}
use Rattle.es_event.specs.Ledger.{Ledger, is_at, port_of, queued, serial_in}
use Rattle.es_report.specs.declared.ports.Counts.{Counts}
use Rattle.es_report.specs.declared.ports.Search.{Search}
use Rattle.es_report.specs.Ports.{AreCounts, Finds, posted_at, posts, put_in, seen_in, taken_out}

drop_push : (n : ℕ) (ms : List Body) (m : Body) → n ≤ length ms → drop n (ms ++ m ∷ []) ≡ drop n ms ++ m ∷ []
drop_push zero ms m le = refl
drop_push (suc n) [] m le = absurd (omega arith)
drop_push (suc n) (x ∷ ms) m le = drop_push n ms m (omega arith)

pub counts_put : (s r a u : ℕ) (m : Body) (l : Ledger) (c : Counts) (b : Bool) → b ≡ is_at s r a u → AreCounts s r l c → AreCounts s r (Posted a u m ∷ l) (put_in c b)
counts_put s r a u m l c b at says = by_test (is_at s r a u) refl
  where
    by_test : (t : Bool) → is_at s r a u ≡ t → AreCounts s r (Posted a u m ∷ l) (put_in c b)
    by_test true e =
        let all : posts (Posted a u m ∷ l) s r ≡ posts l s r ++ m ∷ [] = ap (λ t. posts l s r ++ cond t (m ∷ []) []) e in
        let low : c.gone ≤ length (posts l s r) = omega (arith, says.few, says.posted) in
        rw (at ∙ e) (record {
          posted = (let more : length (posts l s r ++ m ∷ []) ≡ length (posts l s r) + 1 = length-append (posts l s r) (m ∷ []) in ap (λ n. n + 1) says.posted ∙ sym more ∙ ap length (sym all));
          few = omega (arith, says.few);
          port = ap (λ t. cond t (port_of l s r ++ m ∷ []) (port_of l s r)) e ∙ ap (λ q. q ++ m ∷ []) says.port ∙ sym (drop_push c.gone (posts l s r) m low) ∙ ap (drop c.gone) (sym all);
        })
    by_test false e =
        let all : posts (Posted a u m ∷ l) s r ≡ posts l s r = ap (λ t. posts l s r ++ cond t (m ∷ []) []) e ∙ append-nil (posts l s r) in
        rw (at ∙ e) (record {
          posted = says.posted ∙ ap length (sym all);
          few = says.few;
          port = ap (λ t. cond t (port_of l s r ++ m ∷ []) (port_of l s r)) e ∙ says.port ∙ ap (drop c.gone) (sym all);
        })

drop_next : (n : ℕ) (ms : List Body) → drop 1 (drop n ms) ≡ drop (suc n) ms
drop_next zero ms = refl
drop_next (suc n) [] = refl
drop_next (suc n) (x ∷ ms) = drop_next n ms

drop_end : (n : ℕ) (ms : List Body) → length ms ≤ n → drop n ms ≡ []
drop_end zero [] le = refl
drop_end zero (x ∷ ms) le = absurd (omega arith)
drop_end (suc n) [] le = refl
drop_end (suc n) (x ∷ ms) le = drop_end n ms (omega arith)

port_out : (b t : Bool) (n k : ℕ) (ms q : List Body) → q ≡ drop n ms → k ≡ length ms → n ≤ k → nat_lt n k ≡ t → cond b (drop 1 q) q ≡ drop (cond (b && t) (n + 1) n) ms
port_out false t n k ms q is size le lt = is
port_out true true n k ms q is size le lt = let next : suc n ≡ n + 1 = omega arith in ap (drop 1) is ∙ drop_next n ms ∙ ap (λ j. drop j ms) next
port_out true false n k ms q is size le lt =
    let all : k ≤ n = grind (arith, nat_tests, lt) in
    let end : drop n ms ≡ [] = drop_end n ms (omega (arith, all, size)) in
    ap (drop 1) (is ∙ end) ∙ sym end

few_out : (b t : Bool) (n k : ℕ) → n ≤ k → nat_lt n k ≡ t → cond (b && t) (n + 1) n ≤ k
few_out false t n k le lt = le
few_out true true n k le lt = grind (arith, nat_tests, lt)
few_out true false n k le lt = le

pub counts_out : (s r a u : ℕ) (e : LedgerEvent) (l : Ledger) (c : Counts) (b : Bool) → b ≡ is_at s r a u → posted_at e s r ≡ [] → ((q : List Body) → queued e s r q ≡ cond (is_at s r a u) (drop 1 q) q)
    → AreCounts s r l c → AreCounts s r (e ∷ l) (taken_out c b)
counts_out s r a u e l c b at none out says =
    let same : posts (e ∷ l) s r ≡ posts l s r = ap (λ m. posts l s r ++ m) none ∙ append-nil (posts l s r) in
    record {
      posted = says.posted ∙ ap length (sym same);
      few = few_out b (nat_lt c.gone c.posted) c.gone c.posted says.few refl;
      port = out (port_of l s r) ∙ ap (λ t. cond t (drop 1 (port_of l s r)) (port_of l s r)) (sym at)
          ∙ port_out b (nat_lt c.gone c.posted) c.gone c.posted (posts l s r) (port_of l s r) says.port says.posted says.few refl
          ∙ ap (drop (taken_out c b).gone) (sym same);
    }

-- A search

push_at : (ms : List Body) (m : Body) (k : ℕ) → slice_get (ms ++ m ∷ []) k ≡ cond (length ms == k) (Some m) (slice_get ms k)
push_at [] m zero = refl
push_at [] m (suc k) = grind (arith, nat_tests)
push_at (x ∷ ms) m zero = grind (arith, nat_tests)
push_at (x ∷ ms) m (suc k) = let rest : slice_get (ms ++ m ∷ []) k ≡ cond (length ms == k) (Some m) (slice_get ms k) = push_at ms m k in grind (arith, nat_tests, rest)

found_by : (b : Bool) (m : Body) (o : Option Body) (f : Option ℕ) → f ≡ option_and_then serial_in o → cond b (serial_in m) f ≡ option_and_then serial_in (cond b (Some m) o)
found_by true m o f is = refl
found_by false m o f is = is

pub finds_put : (s r n a u : ℕ) (m : Body) (l : Ledger) (k : Search) (b : Bool) → b ≡ is_at s r a u → Finds s r n l k → Finds s r n (Posted a u m ∷ l) (seen_in k b n m)
finds_put s r n a u m l k b at says = by_test (is_at s r a u) refl
  where
    by_test : (t : Bool) → is_at s r a u ≡ t → Finds s r n (Posted a u m ∷ l) (seen_in k b n m)
    by_test true e =
        let all : posts (Posted a u m ∷ l) s r ≡ posts l s r ++ m ∷ [] = ap (λ t. posts l s r ++ cond t (m ∷ []) []) e in
        rw (at ∙ e) (record {
          seen = (let more : length (posts l s r ++ m ∷ []) ≡ length (posts l s r) + 1 = length-append (posts l s r) (m ∷ []) in ap (λ n. n + 1) says.seen ∙ sym more ∙ ap length (sym all));
          found = found_by (k.seen == n) m (slice_get (posts l s r) n) k.found says.found
              ∙ ap (λ c. option_and_then serial_in (cond (c == n) (Some m) (slice_get (posts l s r) n))) says.seen
              ∙ ap (option_and_then serial_in) (sym (push_at (posts l s r) m n)) ∙ ap (λ ms. option_and_then serial_in (slice_get ms n)) (sym all);
        })
    by_test false e =
        let all : posts (Posted a u m ∷ l) s r ≡ posts l s r = ap (λ t. posts l s r ++ cond t (m ∷ []) []) e ∙ append-nil (posts l s r) in
        rw (at ∙ e) (record { seen = says.seen ∙ ap length (sym all); found = says.found ∙ ap (λ ms. option_and_then serial_in (slice_get ms n)) (sym all) })

-- The oldest message

dropped_at : (n : ℕ) (ms : List Body) → slice_get (drop n ms) 0 ≡ slice_get ms n
dropped_at zero ms = refl
dropped_at (suc n) [] = refl
dropped_at (suc n) (x ∷ ms) = dropped_at n ms

pub front_is : (s r : ℕ) (l : Ledger) (c : Counts) → AreCounts s r l c → option_and_then serial_in (slice_get (posts l s r) c.gone) ≡ option_and_then serial_in (slice_get (port_of l s r) 0)
front_is s r l c says = ap (option_and_then serial_in) (sym (ap (λ q. slice_get q 0) says.port ∙ dropped_at c.gone (posts l s r)))
