-- Tickets that are spent leave the same of a ledger in whatever order.
use Rattle.std.proofs.Common.{◌≡◌, ℕ, ◌+◌, ◌==◌, ◌||◌, ◌∙◌, Bool, true, false, cond, sym, ap, refl, arith, filter, not, List, [], ◌∷◌, map, Option, Some, None, eqb-true}
use Rattle.std.specs.Prelude.{count_by}
use Rattle.std.specs.Option.{option_map, option_map_or}
use Rattle.std.proofs.lemmas.Bool.{eqb-false}
use Rattle.std.proofs.lemmas.List.Sums.{sum_by-cons}
use Rattle.es_event.specs.declared.ledger_event.LedgerEvent.{LedgerEvent}
use Rattle.es_event.specs.declared.ledger_event.LedgerEvent.TheVariants.{Spent, Acted}
use Rattle.es_event.specs.declared.ledger_event.Act.TheVariants.{Ended}
use Rattle.es_event.specs.declared.row.Entry.{Entry}
use Rattle.es_event.specs.declared.row.Holder.TheVariants.{Nobody}
use Rattle.es_event.specs.Rows.{held_by, moved}
use Rattle.es_event.specs.Ledger.{Ledger, opened, serials, size, port_of, table, word, ended}
use Rattle.es_event.specs.declared.waiter.Waiter.{Waiter}
use Rattle.es_event.specs.Waiters.{asleep, waiters}
use Rattle.es_event.specs.Totals.{is_posted, is_taken, is_drained, posted, taken, drained}
use Rattle.es_match.specs.Deeds.{Deed, Spends, Ends}
use Rattle.es_match.specs.Meets.{ends, spends, strike}
use Rattle.es_theorems.specs.Alike.{Alike}
use Rattle.es_theorems.specs.Doing.{did}

-- Serials that are struck off

pub test_turned : (a b : ℕ) → (a == b) ≡ (b == a)
test_turned a b = by_test (a == b) (b == a) refl refl
  where
    by_test : (p q : Bool) → (a == b) ≡ p → (b == a) ≡ q → p ≡ q
    by_test true true e f = refl
    by_test true false e f = absurd (eqb-false b a f (sym (eqb-true a b e)))
    by_test false true e f = absurd (eqb-false a b e (sym (eqb-true b a f)))
    by_test false false e f = refl

abbrev pub listed : ℕ → List ℕ → Bool
listed q [] = false
listed q (n ∷ ns) = (n == q) || listed q ns

pub or_swapped : (a b c : Bool) → (a || (b || c)) ≡ (b || (a || c))
or_swapped true true c = refl
or_swapped true false c = refl
or_swapped false b c = refl

pub struck_listed : (s q : ℕ) (ns ms : List ℕ) → strike s ns ≡ Some ms → listed q ns ≡ ((s == q) || listed q ms)
struck_listed s q [] ms is = cc
struck_listed s q (n ∷ ns) ms is = by_first (λ ks at. struck_listed s q ns ks at) (n == s) refl is
  where
    Rest : Type 0
    Rest = (ks : List ℕ) → strike s ns ≡ Some ks → listed q ns ≡ ((s == q) || listed q ks)

    by_rest : Rest → (o : Option (List ℕ)) → strike s ns ≡ o → option_map (λ ks. n ∷ ks) o ≡ Some ms → listed q (n ∷ ns) ≡ ((s == q) || listed q ms)
    by_rest rest None at is = cc
    by_rest rest (Some ks) at is =
        let same : (n ∷ ks) ≡ ms = cc in
        ap (λ b. (n == q) || b) (rest ks at) ∙ or_swapped (n == q) (s == q) (listed q ks) ∙ ap (λ ms. (s == q) || listed q ms) same

    by_first : Rest → (b : Bool) → (n == s) ≡ b → cond b (Some ns) (option_map (λ ks. n ∷ ks) (strike s ns)) ≡ Some ms → listed q (n ∷ ns) ≡ ((s == q) || listed q ms)
    by_first rest true here is =
        let same : ns ≡ ms = cc in
        ap (λ n. (n == q) || listed q ns) (eqb-true n s here) ∙ ap (λ ms. (s == q) || listed q ms) same
    by_first rest false other is = by_rest rest (strike s ns) refl is

-- The table

-- the line, held by nobody where its serial is one of these
abbrev pub off : List ℕ → Entry → Entry
off ns e = cond (listed e.row.serial ns) (held_by Nobody e.row) e

off_one : (s : ℕ) (ns ms : List ℕ) → strike s ns ≡ Some ms → (e : Entry) → off ms (cond (e.row.serial == s) (held_by Nobody e.row) e) ≡ off ns e
off_one s ns ms is e = by_line (e.row.serial == s) refl
  where
    twice : (b : Bool) (x : Entry) → cond b x x ≡ x
    twice true x = refl
    twice false x = refl

    by_line : (b : Bool) → (e.row.serial == s) ≡ b → off ms (cond b (held_by Nobody e.row) e) ≡ off ns e
    by_line true here =
        twice (listed e.row.serial ms) (held_by Nobody e.row)
        ∙ sym (ap (λ b. cond b (held_by Nobody e.row) e) (struck_listed s e.row.serial ns ms is ∙ ap (λ b. b || listed e.row.serial ms) (test_turned s e.row.serial ∙ here)))
    by_line false other =
        sym (ap (λ b. cond b (held_by Nobody e.row) e) (struck_listed s e.row.serial ns ms is ∙ ap (λ b. b || listed e.row.serial ms) (test_turned s e.row.serial ∙ other)))

off_each : (s : ℕ) (ns ms : List ℕ) → strike s ns ≡ Some ms → (t : List Entry) → map (off ms) (moved s Nobody t) ≡ map (off ns) t
off_each s ns ms is [] = refl
off_each s ns ms is (e ∷ t) = ap (λ x. x ∷ map (off ms) (moved s Nobody t)) (off_one s ns ms is e) ∙ ap (λ t. off ns e ∷ t) (off_each s ns ms is t)

off_none : (t : List Entry) → map (off []) t ≡ t
off_none [] = refl
off_none (e ∷ t) = ap (λ t. e ∷ t) (off_none t)

-- All that is not told by who spends what

record Still (closing : Bool) (n : ℕ) (ns : List ℕ) (l m : Ledger) : Type 0 where
  opened : opened m ≡ opened l
  serials : serials m ≡ serials l
  sizes : (b : ℕ) → size m b ≡ size l b
  ports : (s r : ℕ) → port_of m s r ≡ port_of l s r
  tables : table m ≡ map (off ns) (table l)
  words : (b i : ℕ) → word m b i ≡ word l b i
  lists : waiters m ≡ cond closing (filter (λ (w : Waiter). not (w.agent == n)) (waiters l)) (waiters l)
  asleep : (a : ℕ) → asleep m a ≡ cond closing (cond (n == a) false (asleep l a)) (asleep l a)
  ends : (a : ℕ) → ended m a ≡ cond closing ((n == a) || ended l a) (ended l a)
  posted : posted m ≡ posted l
  taken : taken m ≡ taken l
  drained : drained m ≡ drained l

pub uncounted : (p : LedgerEvent → Bool) (l : Ledger) (e : LedgerEvent) → p e ≡ false → count_by p (e ∷ l) ≡ count_by p l
uncounted p l e is = sum_by-cons (λ e. cond {A = ℕ} (p e) 1 0) e l ∙ ap (λ b. cond {A = ℕ} b 1 0 + count_by p l) is ∙ (let none : 0 + count_by p l ≡ count_by p l = omega arith in none)

still_at_end : (closing : Bool) (n : ℕ) (l : Ledger) (ds : List Deed) → ends closing ds ≡ true → Still closing n [] l (did n ds l)
still_at_end false n l [] is = record {
  opened = refl;
  serials = refl;
  sizes = λ b. refl;
  ports = λ s r. refl;
  tables = sym (off_none (table l));
  words = λ b i. refl;
  lists = refl;
  asleep = λ a. refl;
  ends = λ a. refl;
  posted = refl;
  taken = refl;
  drained = refl;
}
still_at_end true n l (Ends ∷ []) is = record {
  opened = omega arith;
  serials = omega arith;
  sizes = λ b. refl;
  ports = λ s r. refl;
  tables = sym (off_none (table l));
  words = λ b i. refl;
  lists = refl;
  asleep = λ a. refl;
  ends = λ a. refl;
  posted = uncounted is_posted l (Acted n Ended) refl;
  taken = uncounted is_taken l (Acted n Ended) refl;
  drained = uncounted is_drained l (Acted n Ended) refl;
}
still_at_end closing n l _ is = cc

still_one : (closing : Bool) (n s : ℕ) (ns ms : List ℕ) (l m : Ledger) → strike s ns ≡ Some ms → Still closing n ms (Spent s ∷ l) m → Still closing n ns l m
still_one closing n s ns ms l m is rest = record {
  opened = rest.opened ∙ (let none : 0 + opened l ≡ opened l = omega arith in none);
  serials = rest.serials ∙ (let none : 0 + serials l ≡ serials l = omega arith in none);
  sizes = rest.sizes;
  ports = rest.ports;
  tables = rest.tables ∙ off_each s ns ms is (table l);
  words = rest.words;
  lists = rest.lists;
  asleep = rest.asleep;
  ends = rest.ends;
  posted = rest.posted ∙ uncounted is_posted l (Spent s) refl;
  taken = rest.taken ∙ uncounted is_taken l (Spent s) refl;
  drained = rest.drained ∙ uncounted is_drained l (Spent s) refl;
}

still : (closing : Bool) (n : ℕ) (l : Ledger) (ns : List ℕ) (ds : List Deed) → spends closing ns ds ≡ true → Still closing n ns l (did n ds l)
still closing n l [] ds is = still_at_end closing n l ds is
still closing n l (k ∷ ns) (Spends s ∷ ds) is = by_rest (λ ms is. still closing n (Spent s ∷ l) ms ds is) (strike s (k ∷ ns)) refl is
  where
    by_rest : ((ms : List ℕ) → spends closing ms ds ≡ true → Still closing n ms (Spent s ∷ l) (did n ds (Spent s ∷ l))) → (o : Option (List ℕ)) → strike s (k ∷ ns) ≡ o → option_map_or (λ ms. spends closing ms ds) o false ≡ true → Still closing n (k ∷ ns) l (did n ds (Spent s ∷ l))
    by_rest rest None at is = cc
    by_rest rest (Some ms) at is = still_one closing n s (k ∷ ns) ms l (did n ds (Spent s ∷ l)) at (rest ms is)
still closing n l (k ∷ ns) _ is = cc

-- so in whatever order it is done
pub in_any_order : (closing : Bool) (n : ℕ) (l : Ledger) (ns : List ℕ) (ds es : List Deed) → spends closing ns ds ≡ true → spends closing ns es ≡ true → Alike (did n ds l) (did n es l)
in_any_order closing n l ns ds es a b =
    let x = still closing n l ns ds a in
    let y = still closing n l ns es b in
    record {
      opened = x.opened ∙ sym y.opened;
      serials = x.serials ∙ sym y.serials;
      sizes = λ b. x.sizes b ∙ sym (y.sizes b);
      ports = λ s r. x.ports s r ∙ sym (y.ports s r);
      tables = x.tables ∙ sym y.tables;
      words = λ b i. x.words b i ∙ sym (y.words b i);
      waiters = x.lists ∙ sym y.lists;
      asleep = λ a. x.asleep a ∙ sym (y.asleep a);
      ends = λ a. x.ends a ∙ sym (y.ends a);
      posted = x.posted ∙ sym y.posted;
      taken = x.taken ∙ sym y.taken;
      drained = x.drained ∙ sym y.drained;
    }
